-- The stored form of an instruction, and the ranges of its fields.
use Rattle.std.specs.Prelude.{ℕ, ◌^◌, ◌<◌, List, ◌∷◌, ◌++◌, All}
use Rattle.std.specs.Int.{to_le_bytes, w16, w32}
use Rattle.bpf_insn.specs.declared.insn.Insn.{Insn}

-- the 8 bytes: code, jt, jf and k, the lowest byte first
abbrev pub insn_bytes : Insn → List ℕ
insn_bytes insn = to_le_bytes w16 insn.code ++ (insn.jt ∷ insn.jf ∷ to_le_bytes w32 insn.k)

-- each field is a number of its type
pub record InRange (insn : Insn) : Type 0 where
  pub code : insn.code < 2 ^ 16
  pub jt : insn.jt < 2 ^ 8
  pub jf : insn.jf < 2 ^ 8
  pub k : insn.k < 2 ^ 32

-- the fields of each instruction are numbers of their types
abbrev pub AreInRange : List Insn → Type 0
AreInRange program = All InRange program
