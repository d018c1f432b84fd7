use Rattle.std.proofs.Common.{◌≡◌, ◌+◌, length}
use Rattle.rtrb.specs.Ring.{IsPair, sent, known_free, producer_capacity}
use Rattle.rec_run.proofs.threads.setup.return_ring.Given as goal

abbrev pub invariant-buffers : goal.invariant-buffers
invariant-buffers l =
    IsPair l.returns l.blanks × (length (sent l.returns) ≡ l.k) × (known_free l.returns + l.k ≡ l.places)
    × (producer_capacity l.returns ≡ l.places)
