use Rattle.std.proofs.Common.{ℕ, List, []}
use Rattle.rec_reader.specs.Readers.{HasRead}
use Rattle.cli_reading.specs.Counts.{CountsPackets}
use Rattle.cli_reading.proofs.Passes.{HasGiven}
use Rattle.cli_reading.proofs.reading.counts_of.Given as goal

-- the packets so far are counted
abbrev pub invariant-packets : goal.invariant-packets
invariant-packets g l =
    (recording : List ℕ) → HasRead recording [] l.initial.reader → (had : HasGiven l.counter recording l.reader) × CountsPackets had.packets l.counts
