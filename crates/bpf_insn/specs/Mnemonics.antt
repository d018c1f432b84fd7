-- The mnemonics of loads, operations and tests in the assembler language of the Linux kernel's
-- networking documentation, "Linux Socket Filtering".
use Rattle.std.specs.Prelude.{ℕ, List, codes}
use Rattle.bpf_insn.specs.declared.form.Size.{Size}
use Rattle.bpf_insn.specs.declared.form.Size.TheVariants.{W, H, B}
use Rattle.bpf_insn.specs.declared.form.Op.{Op}
use Rattle.bpf_insn.specs.declared.form.Op.TheVariants.{Add, Sub, Mul, Div, Or, And, Lsh, Rsh, Mod}
use Rattle.bpf_insn.specs.declared.form.Op.TheVariants.{Xor}
use Rattle.bpf_insn.specs.declared.form.Cond.{Cond}
use Rattle.bpf_insn.specs.declared.form.Cond.TheVariants.{Eq, Gt, Ge, Set}

-- the mnemonic of a load into the accumulator
abbrev pub load_name : Size → List ℕ
load_name W = codes "ld"
load_name H = codes "ldh"
load_name B = codes "ldb"

-- the mnemonic of an operation
abbrev pub op_name : Op → List ℕ
op_name Add = codes "add"
op_name Sub = codes "sub"
op_name Mul = codes "mul"
op_name Div = codes "div"
op_name Or = codes "or"
op_name And = codes "and"
op_name Lsh = codes "lsh"
op_name Rsh = codes "rsh"
op_name Mod = codes "mod"
op_name Xor = codes "xor"

-- the mnemonic of a test
abbrev pub cond_name : Cond → List ℕ
cond_name Eq = codes "jeq"
cond_name Gt = codes "jgt"
cond_name Ge = codes "jge"
cond_name Set = codes "jset"
