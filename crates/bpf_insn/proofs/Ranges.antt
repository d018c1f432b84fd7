-- Instructions in range, one index after the other.
use Rattle.std.proofs.Common.{ℕ, suc, ◌<◌, ◌≡◌, List, [], ◌∷◌, length, Some, sym, subst, slice_get, arith}
use Rattle.std.specs.List.{AllByRecursion}
use Rattle.std.proofs.lemmas.List.Elements.{All-cons, All-nil}
use Rattle.std.proofs.lemmas.Option.{get_or_from_slice_get}
use Rattle.bpf_insn.specs.declared.insn.Insn.{Insn}
use Rattle.bpf_insn.specs.Bytes.{InRange, AreInRange}

-- each instruction before this index is in range
abbrev pub AreInRangeBefore : List Insn → ℕ → Type 0
AreInRangeBefore program bound = (at : ℕ) → at < bound → (insn : Insn) × (slice_get program at ≡ Some insn) × InRange insn

pub all_in_range : (program : List Insn) → AreInRangeBefore program (length program) → AreInRange program
all_in_range program before =
    λ k d below.
    let here = before k below in
    subst InRange (sym (get_or_from_slice_get program k here.0 d here.1)) here.2

-- the same by recursion, both ways
pub each_in_range : (program : List Insn) → AreInRange program → AllByRecursion InRange program
each_in_range [] all = tt
each_in_range (insn ∷ insns) all =
    (all 0 insn (omega arith), each_in_range insns (λ k d below. all (suc k) d (omega (arith, below))))

pub are_in_range : (program : List Insn) → AllByRecursion InRange program → AreInRange program
are_in_range [] each = All-nil InRange
are_in_range (insn ∷ insns) each = All-cons InRange insn insns each.0 (are_in_range insns each.1)
