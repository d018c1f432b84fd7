-- What the code's values stand for, as data.
use Rattle.std.specs.Prelude.{ℕ, List, length, Option, Result, Ok, Err}
use Rattle.std.specs.Option.{option_map, option_copied}
use Rattle.std.specs.Borrow.{Bor}
use Rattle.std.specs.List.{before_first}
use Rattle.bpf_asm.specs.declared.text.Text.{Text}
use Rattle.bpf_asm.specs.declared.token.Token as tokens
use Rattle.bpf_asm.specs.declared.token.Token.TheVariants.{Name, Number, Sign}
use Rattle.bpf_asm.specs.declared.operand.Operand as operands
use Rattle.bpf_asm.specs.declared.operand.Operand.TheVariants as operand
use Rattle.bpf_asm.specs.declared.template.Jump as jumps
use Rattle.bpf_asm.specs.declared.template.Jump.TheVariants as jump
use Rattle.bpf_asm.specs.declared.template.Template as templates
use Rattle.bpf_asm.specs.declared.line.Labels as lines
use Rattle.bpf_asm.specs.declared.line.Reading as reading
use Rattle.bpf_asm.specs.declared.draft.Unlinked.{Unlinked}
use Rattle.bpf_asm.specs.declared.fault.LineFault.{LineFault}
use Rattle.bpf_asm.specs.Lines.{Reading, labels_of}
use Rattle.bpf_asm.specs.Operands.{Operand}
use Rattle.bpf_asm.specs.Operands.Operand.{Nothing, Absolute, Indexed, Scratch, Immediate, Bare}
use Rattle.bpf_asm.specs.Operands.Operand.{Word, HashWord}
use Rattle.bpf_asm.specs.Operands.Operand.{IndexRegister, Accumulator, Length, HeaderLength}
use Rattle.bpf_asm.specs.Operands.Operand.{Targets}
use Rattle.bpf_asm.specs.Templates.{Jump, Template}
use Rattle.bpf_asm.specs.Templates.Jump.{NoJump, Always, Branch}
use Rattle.bpf_asm.specs.Blanked.{without_comments_from, is_line_feed, lines_of}
use Rattle.bpf_asm.specs.Tokens.{Token, lexemes, tokens_before_fault}
use Rattle.bpf_asm.specs.Tokens.Token.{NameToken, NumberToken, SignToken}

-- the bytes that are left of a text, its comments blanked
abbrev pub bytes_in : Text → List ℕ
bytes_in text = without_comments_from text.commented text.bytes.now

-- how many bytes are left
abbrev pub byte_count : Text → ℕ
byte_count text = length text.bytes.now

-- the bytes of its first line
abbrev pub line_in : Text → List ℕ
line_in text = before_first is_line_feed (bytes_in text)

-- the spellings of its first line's tokens
abbrev pub lexemes_in : Text → List (List ℕ)
lexemes_in text = lexemes (line_in text)

-- its first line's tokens before the first fault
unfoldable pub tokens_in : Text → List Token
tokens_in text = tokens_before_fault (lexemes_in text)

-- a token with the bytes of its name
abbrev pub token_data : tokens.Token → Token
token_data (Name name) = NameToken name.now
token_data (Number n) = NumberToken n
token_data (Sign c) = SignToken c

-- a number, and the tokens after it
abbrev pub number_and_rest : (ℕ × Text) → ℕ × List Token
number_and_rest r = (r.0, tokens_in r.1)

-- a name, and the tokens after it
abbrev pub name_and_rest : (Bor (List ℕ) × Text) → List ℕ × List Token
name_and_rest r = (r.0.now, tokens_in r.1)

-- an operand with the bytes of its names
abbrev pub operand_data : operands.Operand → Operand
operand_data operand.Nothing = Nothing
operand_data (operand.Absolute k) = Absolute k
operand_data (operand.Indexed k) = Indexed k
operand_data (operand.Scratch k) = Scratch k
operand_data (operand.Immediate k) = Immediate k
operand_data (operand.Bare k) = Bare k
operand_data (operand.Word name) = Word name.now
operand_data (operand.HashWord name) = HashWord name.now
operand_data operand.IndexRegister = IndexRegister
operand_data operand.Accumulator = Accumulator
operand_data operand.Length = Length
operand_data (operand.HeaderLength m k n) = HeaderLength m k n
operand_data (operand.Targets src k first second) = Targets src k first.now (option_copied second)

-- where an instruction goes, with the bytes of its labels
abbrev pub jump_data : jumps.Jump → Jump
jump_data jump.NoJump = NoJump
jump_data (jump.Always name) = Always name.now
jump_data (jump.Branch holds fails) = Branch (option_copied holds) (option_copied fails)

-- an instruction with the bytes of its labels
abbrev pub template_data : templates.Template → Template
template_data t = record { form = t.form; k = t.k; jump = jump_data t.jump }

-- an instruction with the bytes of its labels, and its line's number
abbrev pub unlinked_data : Unlinked → Template × ℕ
unlinked_data insn = (template_data insn.template, insn.line)

-- the lines that are left of a text
abbrev pub lines_in : Text → List (List ℕ)
lines_in text = lines_of (bytes_in text)

-- the names of a line's labels
abbrev pub labels_in : lines.Labels → List (List ℕ)
labels_in labels = labels_of (tokens_in labels.text)

-- an instruction with the bytes of its labels, where there is one
abbrev pub insn_data :
    Result (Option templates.Template) LineFault → Result (Option Template) LineFault
insn_data (Ok template) = Ok (option_map template_data template)
insn_data (Err fault) = Err fault

-- what a line reads as, with the bytes of its labels
abbrev pub reading_data : reading.Reading → Reading
reading_data r = record { labels = labels_in r.labels; insn = insn_data r.insn }
