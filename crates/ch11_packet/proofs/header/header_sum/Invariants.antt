use Rattle.std.proofs.Common.{◌≡◌, ◌+◌, ◌%◌, ◌^◌, length, take}
use Rattle.std.specs.Prelude.{sum}
use Rattle.ch11_packet.specs.declared.header.TheConstants.{CHECKED_LEN}
use Rattle.ch11_packet.specs.Header.{words, header_sum}
use Rattle.ch11_packet.proofs.header.header_sum.Given as goal

abbrev pub invariant-words : goal.invariant-words
invariant-words l = (l.sum + sum (words l.rest)) % 2 ^ 16 ≡ header_sum (take CHECKED_LEN l.fn.header)

abbrev pub decreases-words : goal.decreases-words
decreases-words l = length l.rest
