use Rattle.std.proofs.Common.{ℕ, length, ℤ}
use Rattle.std.specs.Prelude.{◌↔◌}
use Rattle.ch11_clock.specs.Clock.{AreAscending}
use Rattle.ch11_clock.specs.Moments.{IsMoment}
use Rattle.ch11_clock.specs.TimePoints.{FirstHasBegun, IsPointFrom}
use Rattle.ch11_clock.proofs.walk.next_point.Given as goal

-- the time packets under the rules that are left are those under all
abbrev pub invariant-rules : goal.invariant-rules
invariant-rules l = record {
  ascending : AreAscending l.left;
  begun : FirstHasBegun l.left l.moment;
  in_range : IsMoment l.moment;
  same : (moment : ℤ) (tick : ℕ) → IsPointFrom l.left l.moment moment tick ↔ IsPointFrom l.rules l.start moment tick;
}

abbrev pub decreases-rules : goal.decreases-rules
decreases-rules l = length l.left
