use Rattle.std.proofs.Common.{ℕ, ◌<◌}
use Rattle.rec_core.specs.Openings.{IsNew}
use Rattle.rec_core.proofs.spec.are_distinct.Given as goal

abbrev pub invariant-channels : goal.invariant-channels
invariant-channels l = (j : ℕ) → j < l.k → IsNew l.channels j
