use Rattle.std.proofs.Common.{◌≡◌}
use Rattle.rec_run.proofs.worker.step.record_frame.Given as goal

abbrev pub invariant-turns : goal.invariant-turns
invariant-turns g l = l.worker ≡ l.initial.worker
