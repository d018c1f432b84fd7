use Rattle.std.proofs.Common.{◌≡◌, ◌+◌, ◌≤◌, ◌++◌, length}
use Rattle.std.specs.VecDeque.{deque_len, deque_capacity}
use Rattle.rec_core.proofs.channel.append.Given as goal

abbrev pub invariant-pieces : goal.invariant-pieces
invariant-pieces l =
    (l.pending.items ++ l.piece-iterator ≡ l.fn.pending.items ++ l.fn.pieces.items)
    × (deque_len l.pending + length l.piece-iterator ≤ deque_capacity l.pending)
