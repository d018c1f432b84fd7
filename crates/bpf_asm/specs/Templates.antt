-- What instruction a mnemonic with an operand stands for, its labels left open.
use Rattle.std.specs.Prelude.{ℕ, ◌==◌, ◌&&◌, ◌≡◌, false, codes, if◌then◌else◌, List, Option, None}
use Rattle.std.specs.Prelude.{Some}
use Rattle.bpf_insn.specs.declared.form.Form.{Form}
use Rattle.bpf_insn.specs.declared.form.Form.TheVariants as form
use Rattle.bpf_insn.specs.declared.form.Size.TheVariants.{W, H, B}
use Rattle.bpf_insn.specs.declared.form.Src.{Src}
use Rattle.bpf_insn.specs.declared.form.Src.TheVariants.{K, X}
use Rattle.bpf_insn.specs.declared.form.Cond.{Cond}
use Rattle.bpf_insn.specs.Uses.{uses_k}
use Rattle.bpf_asm.specs.declared.mnemonic.Mnemonic.{Mnemonic}
use Rattle.bpf_asm.specs.declared.mnemonic.Mnemonic.TheVariants.{Ld, Ldi, Ldh, Ldb, Ldx, Ldxi, Ldxb}
use Rattle.bpf_asm.specs.declared.mnemonic.Mnemonic.TheVariants.{St, Stx, Jmp, Test, Inverted, Alu}
use Rattle.bpf_asm.specs.declared.mnemonic.Mnemonic.TheVariants.{Neg, Tax, Txa, Ret}
use Rattle.bpf_asm.specs.Operands.{Operand, is_name}
use Rattle.bpf_asm.specs.Operands.Operand.{Nothing, Absolute, Indexed, Scratch, Immediate, Bare}
use Rattle.bpf_asm.specs.Operands.Operand.{Word, HashWord}
use Rattle.bpf_asm.specs.Operands.Operand.{IndexRegister, Accumulator, Length, HeaderLength}
use Rattle.bpf_asm.specs.Operands.Operand.{Targets}

-- where an instruction jumps to, by labels; None is the next instruction
pub data Jump : Type 0 where
  NoJump : Jump
  Always : List ℕ → Jump
  Branch : Option (List ℕ) → Option (List ℕ) → Jump

-- an instruction, its labels left open
pub record Template : Type 0 where
  pub form : Form
  pub k : ℕ
  pub jump : Jump

-- an instruction that is no jump
abbrev pub plain_template : Form → ℕ → Option Template
plain_template f k = Some (record { form = f; k = k; jump = NoJump })

-- the load of a header's length: m is 4, and n is 15
abbrev pub header_length_template : ℕ → ℕ → ℕ → Option Template
header_length_template m k n = if m == 4 && n == 15 then plain_template form.LdxMsh k else None

-- a test with the labels where it holds and where it fails
abbrev pub test_template : Cond → Src → ℕ → Option (List ℕ) → Option (List ℕ) → Option Template
test_template cond src k holds fails =
    Some (record { form = form.Test cond src; k = k; jump = Branch holds fails })

-- what a single name, or a name after #, is where it is no label
abbrev pub meaning_of : Operand → Operand
meaning_of (Word name) =
    if is_name name (codes "x") then IndexRegister else
    if is_name name (codes "a") then Accumulator else
    if is_name name (codes "len") then Length else
    Word name
meaning_of (HashWord name) = if is_name name (codes "len") then Length else HashWord name
meaning_of operand = operand

-- the instruction of a mnemonic but jmp, with an operand; None where the mnemonic doesn't take it
abbrev pub with_operand : Mnemonic → Operand → Option Template
with_operand Ld (Absolute k) = plain_template (form.LdAbs W) k
with_operand Ld (Indexed k) = plain_template (form.LdInd W) k
with_operand Ld (Scratch k) = plain_template form.LdMem k
with_operand Ld (Immediate k) = plain_template form.LdImm k
with_operand Ld Length = plain_template form.LdLen 0
with_operand Ldi (Immediate k) = plain_template form.LdImm k
with_operand Ldi (Bare k) = plain_template form.LdImm k
with_operand Ldh (Absolute k) = plain_template (form.LdAbs H) k
with_operand Ldh (Indexed k) = plain_template (form.LdInd H) k
with_operand Ldb (Absolute k) = plain_template (form.LdAbs B) k
with_operand Ldb (Indexed k) = plain_template (form.LdInd B) k
with_operand Ldx (Scratch k) = plain_template form.LdxMem k
with_operand Ldx (Immediate k) = plain_template form.LdxImm k
with_operand Ldx (HeaderLength m k n) = header_length_template m k n
with_operand Ldx Length = plain_template form.LdxLen 0
with_operand Ldxi (Immediate k) = plain_template form.LdxImm k
with_operand Ldxi (Bare k) = plain_template form.LdxImm k
with_operand Ldxb (HeaderLength m k n) = header_length_template m k n
with_operand St (Scratch k) = plain_template form.St k
with_operand Stx (Scratch k) = plain_template form.Stx k
with_operand (Test cond) (Targets src k holds fails) = test_template cond src k (Some holds) fails
with_operand (Inverted cond) (Targets src k fails None) = test_template cond src k None (Some fails)
with_operand (Alu op) (Immediate k) = plain_template (form.Alu op K) k
with_operand (Alu op) IndexRegister = plain_template (form.Alu op X) 0
with_operand Neg Nothing = plain_template form.Neg 0
with_operand Tax Nothing = plain_template form.Tax 0
with_operand Txa Nothing = plain_template form.Txa 0
with_operand Ret (Immediate k) = plain_template form.RetK k
with_operand Ret Accumulator = plain_template form.RetA 0
with_operand mnemonic operand = None

-- the instruction of a mnemonic with an operand; None where the mnemonic doesn't take it
abbrev pub template_of : Mnemonic → Operand → Option Template
template_of Jmp (Word name) = Some (record { form = form.Ja; k = 0; jump = Always name })
template_of mnemonic operand = with_operand mnemonic (meaning_of operand)

-- one at least of the labels of a test is named
abbrev pub NamesOne : Option (List ℕ) → Option (List ℕ) → Type 0
NamesOne None None = ⊥
NamesOne holds fails = Unit {0}

-- the labels that an instruction of this form names: a jump names one, a test one or two, each
-- other none
abbrev pub NamesLabels : Form → Jump → Type 0
NamesLabels form.Ja jump = (name : List ℕ) × (jump ≡ Always name)
NamesLabels (form.Test cond src) jump =
    (holds : Option (List ℕ)) × (fails : Option (List ℕ)) × (jump ≡ Branch holds fails)
    × NamesOne holds fails
NamesLabels form jump = jump ≡ NoJump

-- an instruction has the labels of its form, and a constant that its form doesn't use is 0
pub record FitsForm (template : Template) : Type 0 where
  pub labels : NamesLabels template.form template.jump
  pub unused : uses_k template.form ≡ false → template.k ≡ 0
