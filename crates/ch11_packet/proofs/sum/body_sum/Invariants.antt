use Rattle.std.proofs.Common.{◌≡◌, ◌+◌, ◌%◌, ◌^◌, length}
use Rattle.ch11_packet.specs.Sums.{body_sum}
use Rattle.ch11_packet.proofs.sum.body_sum.Given as goal

abbrev pub invariant-words : goal.invariant-words
invariant-words l = (l.sum + body_sum l.rest) % 2 ^ 32 ≡ body_sum l.fn.bytes

abbrev pub decreases-words : goal.decreases-words
decreases-words l = length l.rest
