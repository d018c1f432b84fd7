use Rattle.std.proofs.Common.{◌≡◌, ◌++◌, [], ◌∷◌, length, flat_map}
use Rattle.std.specs.Prelude.{string_bytes}
use Rattle.bpf_insn.specs.Printed.{insn_numbers, listing_text}
use Rattle.bpf_insn.proofs.print.print_listing.Given as goal

-- what is printed and the rest give the whole
abbrev pub invariant-insns : goal.invariant-insns
invariant-insns l = string_bytes l.text ++ flat_map (λ i. insn_numbers i ++ 44 ∷ []) l.rest ≡ listing_text l.program

abbrev pub decreases-insns : goal.decreases-insns
decreases-insns l = length l.rest
