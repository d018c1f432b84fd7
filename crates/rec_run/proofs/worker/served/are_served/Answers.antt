use Rattle.std.proofs.Common.{rules}
use Rattle.rec_run.proofs.HistoryRows.{served_step}
use Rattle.rec_run.proofs.worker.served.are_served.Goals as goal

pub versions-preserved : goal.versions-preserved
versions-preserved c = λ rest.
    c.versions.invariant (served_step _ _ _ _ _ c.in-Some.one.now (search rules) c.first_number.ensures
    (c.is_served.ensures c.if-not-is_served.false _ c.requires.history) rest)
