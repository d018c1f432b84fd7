-- The mnemonics of operations and tests are read as these, and take the operands of these.
use Rattle.std.proofs.Common.{◌≡◌, Option, Some, option_and_then, List, ℕ, refl, ap}
use Rattle.bpf_insn.specs.declared.form.Op.{Op}
use Rattle.bpf_insn.specs.declared.form.Op.TheVariants.{Add, Sub, Mul, Div, Or, And, Lsh, Rsh, Mod, Xor}
use Rattle.bpf_insn.specs.declared.form.Cond.{Cond}
use Rattle.bpf_insn.specs.declared.form.Cond.TheVariants.{Eq, Gt, Ge, Set}
use Rattle.bpf_insn.specs.Mnemonics.{op_name, cond_name}
use Rattle.bpf_asm.specs.declared.mnemonic.Mnemonic.TheVariants.{Alu, Test}
use Rattle.bpf_asm.specs.Mnemonics.{mnemonic_of}
use Rattle.bpf_asm.specs.Operands.{Operand}
use Rattle.bpf_asm.specs.Templates.{Template, template_of}

pub op_read : (op : Op) → mnemonic_of (op_name op) ≡ Some (Alu op)
op_read Add = refl
op_read Sub = refl
op_read Mul = refl
op_read Div = refl
op_read Or = refl
op_read And = refl
op_read Lsh = refl
op_read Rsh = refl
op_read Mod = refl
op_read Xor = refl

pub cond_read : (cond : Cond) → mnemonic_of (cond_name cond) ≡ Some (Test cond)
cond_read Eq = refl
cond_read Gt = refl
cond_read Ge = refl
cond_read Set = refl

-- the instruction of a mnemonic, by its name, with an operand
abbrev pub takes : List ℕ → Operand → Option Template
takes name operand = option_and_then (λ mnemonic. template_of mnemonic operand) (mnemonic_of name)

pub op_takes : (op : Op) (operand : Operand) → takes (op_name op) operand ≡ template_of (Alu op) operand
op_takes op operand = ap (option_and_then (λ mnemonic. template_of mnemonic operand)) (op_read op)

pub cond_takes : (cond : Cond) (operand : Operand) → takes (cond_name cond) operand ≡ template_of (Test cond) operand
cond_takes cond operand = ap (option_and_then (λ mnemonic. template_of mnemonic operand)) (cond_read cond)
