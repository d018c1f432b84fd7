use Rattle.std.proofs.Common.{length}
use Rattle.rec_run.specs.Reports.{history_in}
use Rattle.rec_run.specs.Control.{FollowsVersions}
use Rattle.rec_run.proofs.control.agreement.follow.Given as goal

abbrev pub invariant-entries : goal.invariant-entries
invariant-entries l =
    FollowsVersions l.channel l.version (history_in l.versions l.marks) l.log
    → FollowsVersions l.channel 1 (history_in l.fn.versions l.fn.marks) l.fn.log

abbrev pub decreases-entries : goal.decreases-entries
decreases-entries l = length l.log
