-- A numeric listing as it is printed, on one line.
use Rattle.std.specs.Prelude.{ℕ, ◌++◌, List, [], ◌∷◌, length, flat_map}
use Rattle.std.specs.Fmt.{decimal}
use Rattle.bpf_insn.specs.declared.insn.Insn.{Insn}

-- the four numbers of an instruction in decimal, with a space between them
abbrev pub insn_numbers : Insn → List ℕ
insn_numbers insn =
    decimal insn.code ++ 32 ∷ decimal insn.jt ++ 32 ∷ decimal insn.jf ++ 32 ∷ decimal insn.k

-- the count of the instructions and a comma, and the numbers of each instruction and a comma
abbrev pub listing_text : List Insn → List ℕ
listing_text program =
    (decimal (length program) ++ 44 ∷ []) ++ flat_map (λ insn. insn_numbers insn ++ 44 ∷ []) program
