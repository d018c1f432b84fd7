use Rattle.std.proofs.Common.{◌≡◌, ◌++◌}
use Rattle.rtrb.specs.Ring.{sent, SameProducer}
use Rattle.rec_run.proofs.worker.waits.send_all.Given as goal

abbrev pub invariant-pieces : goal.invariant-pieces
invariant-pieces g l =
    SameProducer l.fn.ring l.ring × (sent l.ring ++ l.piece-iterator ≡ sent l.fn.ring ++ l.fn.pieces.items)
