use Rattle.std.proofs.Common.{◌≡◌, ℕ, ◌+◌, ◌*◌, ◌<◌, length, get_or}
use Rattle.test_recorder.proofs.writer.many_channels.Given as goal

abbrev pub invariant-channels : goal.invariant-channels
invariant-channels l =
    (length l.channels ≡ 64) × ((k d : ℕ) → k < l.at → get_or l.channels k d ≡ k * 1040 + 1)
