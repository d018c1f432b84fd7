-- The mnemonics, by their names.
use Rattle.std.specs.Prelude.{ℕ, ◌≡◌, ◌||◌, codes, if◌then◌else◌, List, Option, None, Some}
use Rattle.std.specs.Option.{option_or}
use Rattle.bpf_asm.specs.declared.mnemonic.Mnemonic.{Mnemonic}
use Rattle.bpf_asm.specs.declared.mnemonic.Mnemonic.TheVariants.{Ld, Ldi, Ldh, Ldb, Ldx, Ldxi, Ldxb}
use Rattle.bpf_asm.specs.declared.mnemonic.Mnemonic.TheVariants.{St, Stx, Jmp, Test, Inverted, Alu}
use Rattle.bpf_asm.specs.declared.mnemonic.Mnemonic.TheVariants.{Neg, Tax, Txa, Ret}
use Rattle.bpf_insn.specs.declared.form.Op.TheVariants.{Add, Sub, Mul, Div, Or, And, Lsh, Rsh, Mod}
use Rattle.bpf_insn.specs.declared.form.Op.TheVariants.{Xor}
use Rattle.bpf_insn.specs.declared.form.Cond.TheVariants.{Eq, Gt, Ge, Set}
use Rattle.bpf_insn.specs.declared.form.Size.TheVariants.{W, H, B}
use Rattle.bpf_insn.specs.Mnemonics.{load_name}
use Rattle.bpf_asm.specs.Operands.{is_name}

-- the load or store that a name is
abbrev pub memory_mnemonic_of : List ℕ → Option Mnemonic
memory_mnemonic_of name =
    if is_name name (codes "ld") then Some Ld else
    if is_name name (codes "ldi") then Some Ldi else
    if is_name name (codes "ldh") then Some Ldh else
    if is_name name (codes "ldb") then Some Ldb else
    if is_name name (codes "ldx") then Some Ldx else
    if is_name name (codes "ldxi") then Some Ldxi else
    if is_name name (codes "ldxb") then Some Ldxb else
    if is_name name (codes "st") then Some St else
    if is_name name (codes "stx") then Some Stx else
    None

-- the jump or test that a name is
abbrev pub jump_mnemonic_of : List ℕ → Option Mnemonic
jump_mnemonic_of name =
    if is_name name (codes "jmp") || is_name name (codes "ja") then Some Jmp else
    if is_name name (codes "jeq") then Some (Test Eq) else
    if is_name name (codes "jgt") then Some (Test Gt) else
    if is_name name (codes "jge") then Some (Test Ge) else
    if is_name name (codes "jset") then Some (Test Set) else
    if is_name name (codes "jneq") || is_name name (codes "jne") then Some (Inverted Eq) else
    if is_name name (codes "jlt") then Some (Inverted Ge) else
    if is_name name (codes "jle") then Some (Inverted Gt) else
    None

-- the operation on the accumulator that a name is
abbrev pub alu_mnemonic_of : List ℕ → Option Mnemonic
alu_mnemonic_of name =
    if is_name name (codes "add") then Some (Alu Add) else
    if is_name name (codes "sub") then Some (Alu Sub) else
    if is_name name (codes "mul") then Some (Alu Mul) else
    if is_name name (codes "div") then Some (Alu Div) else
    if is_name name (codes "mod") then Some (Alu Mod) else
    if is_name name (codes "and") then Some (Alu And) else
    if is_name name (codes "or") then Some (Alu Or) else
    if is_name name (codes "xor") then Some (Alu Xor) else
    if is_name name (codes "lsh") then Some (Alu Lsh) else
    if is_name name (codes "rsh") then Some (Alu Rsh) else
    if is_name name (codes "neg") then Some Neg else
    None

-- the transfer between registers or the return that a name is
abbrev pub other_mnemonic_of : List ℕ → Option Mnemonic
other_mnemonic_of name =
    if is_name name (codes "tax") then Some Tax else
    if is_name name (codes "txa") then Some Txa else
    if is_name name (codes "ret") then Some Ret else
    None

-- the mnemonic that a name is
abbrev pub mnemonic_of : List ℕ → Option Mnemonic
mnemonic_of name =
    option_or (option_or (option_or (memory_mnemonic_of name) (jump_mnemonic_of name))
    (alu_mnemonic_of name)) (other_mnemonic_of name)

-- the mnemonics of loads into the accumulator are read as these
abbrev pub LoadNamesAreRead : Type 0
LoadNamesAreRead =
    (mnemonic_of (load_name W) ≡ Some Ld) × (mnemonic_of (load_name H) ≡ Some Ldh)
    × (mnemonic_of (load_name B) ≡ Some Ldb)
