use Rattle.std.proofs.Common.{◌≡◌, take}
use Rattle.rec_writer.specs.Numbers.{fresh_numbers}
use Rattle.rec_writer.proofs.writer.first_numbers.Given as goal

abbrev pub invariant-channels : goal.invariant-channels
invariant-channels l = l.numbers.items ≡ fresh_numbers (take l.at l.channels)
