use Rattle.std.proofs.Common.{length}
use Rattle.ch11_clock.specs.Clock.{AreAscending}
use Rattle.ch11_clock.specs.TimePoints.{HoldsFrom}
use Rattle.ch11_clock.proofs.FirstMoments.{SameRecording}
use Rattle.ch11_clock.proofs.walk.points_from.Given as goal

-- the time packets of the recording under the rules that are left are those under all
abbrev pub invariant-rules : goal.invariant-rules
invariant-rules l = record {
  ascending : AreAscending l.left;
  holds : HoldsFrom l.left l.least;
  same : SameRecording l.least l.left l.rules;
}

abbrev pub decreases-rules : goal.decreases-rules
decreases-rules l = length l.left
