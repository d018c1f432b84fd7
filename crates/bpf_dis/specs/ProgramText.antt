-- The text of a program in the assembler language of the Linux kernel's networking documentation,
-- "Linux Socket Filtering": a line for each instruction, numbers in decimal, and a label where a
-- jump leads.
use Rattle.std.specs.Prelude.{ℕ, ◌+◌, Bool, codes, decimal, if◌then◌else◌, List, [], ◌∷◌, ◌++◌}
use Rattle.std.specs.Prelude.{Option, None, Some}
use Rattle.bpf_insn.specs.declared.insn.Insn.{Insn}
use Rattle.bpf_insn.specs.declared.form.Form.{Form}
use Rattle.bpf_insn.specs.declared.form.Form.TheVariants.{LdImm, LdAbs, LdInd, LdMem, LdLen, LdxImm}
use Rattle.bpf_insn.specs.declared.form.Form.TheVariants.{LdxMem, LdxLen, LdxMsh}
use Rattle.bpf_insn.specs.declared.form.Form.TheVariants.{St, Stx, Alu, Neg, Ja, Test, RetK, RetA}
use Rattle.bpf_insn.specs.declared.form.Form.TheVariants.{Tax, Txa}
use Rattle.bpf_insn.specs.declared.form.Src.{Src}
use Rattle.bpf_insn.specs.declared.form.Src.TheVariants.{K, X}
use Rattle.bpf_insn.specs.Flow.{jump_targets}
use Rattle.bpf_insn.specs.Forms.{form}
use Rattle.bpf_insn.specs.Mnemonics.{load_name, op_name, cond_name}
use Rattle.bpf_dis.specs.Targets.{is_target}

-- the second operand of an operation or a test: #k or x
abbrev pub source_text : Src → ℕ → List ℕ
source_text K k = codes "#" ++ decimal k
source_text X k = codes "x"

-- the label of the instruction with this index: L and the index
abbrev pub label_name : ℕ → List ℕ
label_name at = codes "L" ++ decimal at

-- the labels of these indexes, a comma between them
abbrev pub labels_text : List ℕ → List ℕ
labels_text [] = []
labels_text (to ∷ []) = label_name to
labels_text (to ∷ more) = label_name to ++ (codes "," ++ labels_text more)

-- the instruction with this index, of this form
abbrev pub form_text : Form → ℕ → Insn → List ℕ
form_text LdImm at insn = codes "ld #" ++ decimal insn.k
form_text (LdAbs size) at insn = load_name size ++ (codes " [" ++ (decimal insn.k ++ codes "]"))
form_text (LdInd size) at insn = load_name size ++ (codes " [x + " ++ (decimal insn.k ++ codes "]"))
form_text LdMem at insn = codes "ld M[" ++ (decimal insn.k ++ codes "]")
form_text LdLen at insn = codes "ld len"
form_text LdxImm at insn = codes "ldx #" ++ decimal insn.k
form_text LdxMem at insn = codes "ldx M[" ++ (decimal insn.k ++ codes "]")
form_text LdxLen at insn = codes "ldx len"
form_text LdxMsh at insn = codes "ldxb 4*([" ++ (decimal insn.k ++ codes "]&0xf)")
form_text St at insn = codes "st M[" ++ (decimal insn.k ++ codes "]")
form_text Stx at insn = codes "stx M[" ++ (decimal insn.k ++ codes "]")
form_text (Alu op src) at insn = op_name op ++ (codes " " ++ source_text src insn.k)
form_text Neg at insn = codes "neg"
form_text Ja at insn = codes "jmp " ++ labels_text (jump_targets (Some Ja) insn at)
form_text (Test cond src) at insn =
    cond_name cond ++ (codes " " ++ (source_text src insn.k
    ++ (codes "," ++ labels_text (jump_targets (Some (Test cond src)) insn at))))
form_text RetK at insn = codes "ret #" ++ decimal insn.k
form_text RetA at insn = codes "ret a"
form_text Tax at insn = codes "tax"
form_text Txa at insn = codes "txa"

-- the instruction with this index; nothing where its code is not legal
abbrev pub insn_text : Option Form → ℕ → Insn → List ℕ
insn_text None at insn = []
insn_text (Some form) at insn = form_text form at insn

-- the label in front of a line, where it has one
abbrev pub label_text : Bool → ℕ → List ℕ
label_text labelled at = if labelled then label_name at ++ codes ": " else []

-- the line of the instruction with this index, without its line feed
abbrev pub line_text : Bool → ℕ → Insn → List ℕ
line_text labelled at insn = label_text labelled at ++ insn_text (form insn.code) at insn

-- the lines of these instructions of a program, the first of which has this index; each ends in a
-- line feed
abbrev pub lines_text : List Insn → ℕ → List Insn → List ℕ
lines_text program at [] = []
lines_text program at (insn ∷ insns) =
    line_text (is_target program at) at insn ++ (10 ∷ lines_text program (at + 1) insns)

-- the text of a program
abbrev pub program_text : List Insn → List ℕ
program_text program = lines_text program 0 program
