use Rattle.std.proofs.Common.{◌≢◌, ℕ, ◌<◌, get_or}
use Rattle.rec_core.proofs.spec.is_new.Given as goal

abbrev pub invariant-earlier : goal.invariant-earlier
invariant-earlier l = (j : ℕ) → j < l.i → get_or l.channels j 0 ≢ get_or l.channels l.k 0
