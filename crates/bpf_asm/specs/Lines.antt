-- What one line reads as: its labels, and then its instruction or the first fault of its mnemonic
-- and operand.
use Rattle.std.specs.Prelude.{ℕ, ◌==◌, if◌then◌else◌, List, [], ◌∷◌, Option, None, Some, Result, Ok}
use Rattle.std.specs.Prelude.{Err}
use Rattle.bpf_asm.specs.declared.fault.LineFault.{LineFault}
use Rattle.bpf_asm.specs.declared.fault.LineFault.TheVariants.{Syntax, UnknownMnemonic}
use Rattle.bpf_asm.specs.declared.fault.LineFault.TheVariants.{OperandNotAllowed}
use Rattle.bpf_asm.specs.declared.mnemonic.Mnemonic.{Mnemonic}
use Rattle.bpf_asm.specs.Tokens.{Token, line_tokens, ◌>>=◌}
use Rattle.bpf_asm.specs.Tokens.Token.{NameToken, SignToken}
use Rattle.bpf_asm.specs.Operands.{Operand, operand_of}
use Rattle.bpf_asm.specs.Mnemonics.{mnemonic_of}
use Rattle.bpf_asm.specs.Templates.{Template, template_of}

-- the names that a colon follows, at the front of a line
abbrev pub labels_of : List Token → List (List ℕ)
labels_of (NameToken name ∷ SignToken c ∷ ts) = if c == 58 then name ∷ labels_of ts else []
labels_of ts = []

-- the tokens after the labels
abbrev pub after_labels : List Token → List Token
after_labels (NameToken name ∷ SignToken c ∷ ts) =
    if c == 58 then after_labels ts else NameToken name ∷ SignToken c ∷ ts
after_labels ts = ts

-- an instruction, where the mnemonic takes the operand
abbrev pub insn_or_fault : Option Template → Result (Option Template) LineFault
insn_or_fault None = Err OperandNotAllowed
insn_or_fault (Some template) = Ok (Some template)

-- a mnemonic with an operand, where the tokens are one
abbrev pub with_shape : Mnemonic → Option Operand → Result (Option Template) LineFault
with_shape mnemonic None = Err Syntax
with_shape mnemonic (Some operand) = insn_or_fault (template_of mnemonic operand)

-- a name, where it is a mnemonic, and the tokens after it
abbrev pub with_mnemonic : Option Mnemonic → List Token → Result (Option Template) LineFault
with_mnemonic None ts = Err UnknownMnemonic
with_mnemonic (Some mnemonic) ts = with_shape mnemonic (operand_of ts)

-- the instruction that tokens without labels are, none where there are no tokens, or their first
-- fault
abbrev pub insn_of_tokens : List Token → Result (Option Template) LineFault
insn_of_tokens [] = Ok None
insn_of_tokens (NameToken name ∷ ts) = with_mnemonic (mnemonic_of name) ts
insn_of_tokens ts = Err Syntax

-- what a line whose tokens have no fault reads as: its labels, and then its instruction if it has
-- one, or a fault
pub record Reading : Type 0 where
  pub labels : List (List ℕ)
  pub insn : Result (Option Template) LineFault

-- what a line reads as, or the first fault of its tokens
abbrev pub reading_of : List ℕ → Result Reading LineFault
reading_of line = do
  tokens ← line_tokens line
  Ok (record { labels = labels_of tokens; insn = insn_of_tokens (after_labels tokens) })
