use Rattle.std.proofs.Common.{length}
use Rattle.rec_run.specs.Reports.{history_in}
use Rattle.rec_run.specs.VersionsMet.{AreServed}
use Rattle.rec_run.specs.WorkerRuns.{versions_met}
use Rattle.rec_run.proofs.worker.served.are_served.Given as goal

abbrev pub invariant-versions : goal.invariant-versions
invariant-versions l =
    AreServed (history_in l.versions l.marks) l.offered (versions_met l.met)
    → AreServed (history_in l.versions l.marks) l.offered (versions_met l.fn.met)

abbrev pub decreases-versions : goal.decreases-versions
decreases-versions l = length l.met
