use Rattle.std.proofs.Common.{take}
use Rattle.std.specs.Io.KnownBytes.{Appends}
use Rattle.cli_reading.specs.Printed.{numbers_text}
use Rattle.cli_reading.proofs.packet_list.print_numbers.Given as goal

-- the output took the numbers so far
abbrev pub invariant-numbers : goal.invariant-numbers
invariant-numbers g l =
    Appends (g.W.Write.contents l.initial.lines) (g.W.Write.contents l.lines) (numbers_text (take l.number-index l.numbers))
