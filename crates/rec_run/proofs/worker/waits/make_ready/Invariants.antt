use Rattle.std.proofs.Common.{◌≡◌}
use Rattle.rtrb.specs.Ring.{received}
use Rattle.rec_run.proofs.worker.waits.make_ready.Given as goal

abbrev pub invariant-turns : goal.invariant-turns
invariant-turns g l =
    (l.lane ≡ l.initial.lane) × (received l.blanks ≡ received l.initial.blanks)
