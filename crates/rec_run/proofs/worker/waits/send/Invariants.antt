use Rattle.std.proofs.Common.{◌≡◌}
use Rattle.rtrb.specs.Ring.{sent, SameProducer}
use Rattle.rec_run.proofs.worker.waits.send.Given as goal

abbrev pub invariant-turns : goal.invariant-turns
invariant-turns g l =
    SameProducer l.initial.ring l.ring × (sent l.ring ≡ sent l.initial.ring) × (l.piece ≡ l.initial.piece)
