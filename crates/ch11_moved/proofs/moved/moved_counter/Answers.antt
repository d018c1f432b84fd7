use Rattle.std.proofs.Common.{ℕ, ℤ, ◌≡◌, ◌≤◌, ◌^◌, ◌-ℤ◌, arith, Option, None, Some}
use Rattle.std.specs.Prelude.{IfNone, pos}
use Rattle.jiff_core.proofs.SignedLemmas.{signed_arith}
use Rattle.ch11_clock.specs.Clock.{clock_time}
use Rattle.ch11_moved.specs.MovedCounters.{IsMoved}
use Rattle.ch11_moved.proofs.FirstOrigins.{moved_ahead}
use Rattle.ch11_moved.proofs.moved.moved_counter.Goals as goal

none_moved : (result : Option ℕ) (most : ℕ) (start time ahead : ℤ) → ahead ≡ time -ℤ start
    → IfNone result ((moved : ℕ) → IsMoved (pos 0) ahead moved → most ≤ moved)
    → IfNone result ((moved : ℕ) → IsMoved start time moved → most ≤ moved)
none_moved None most start time ahead is none = λ moved m. none moved (moved_ahead start time ahead moved is m)
none_moved (Some n) most start time ahead is none = tt

pub returns-clause-none : goal.returns-clause-none
returns-clause-none c =
    none_moved c.nearest.result (2 ^ 48) c.args.start.nanos (clock_time c.args.clock.now c.args.counter) _
    (omega (arith, signed_arith, c.time_of.ensures.is, c.time_of.ensures.in_range, c.args.start.in_range)) c.nearest.ensures.none
