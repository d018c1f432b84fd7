use Rattle.std.proofs.Common.{ℕ, ◌≢◌, ◌<◌, get_or}
use Rattle.rec_writer.specs.Numbers.{numbered_channels}
use Rattle.rec_writer.proofs.writer.position_of.Given as goal

abbrev pub invariant-numbers : goal.invariant-numbers
invariant-numbers l = (j : ℕ) → j < l.at → get_or (numbered_channels l.numbers) j 0 ≢ l.channel
