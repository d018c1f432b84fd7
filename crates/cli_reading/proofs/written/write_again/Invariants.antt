use Rattle.std.proofs.Common.{◌≡◌, ℕ, List, []}
use Rattle.std.specs.List.{FoldsTo}
use Rattle.std.specs.Io.Buffered.{writer_contents}
use Rattle.rec_reader.specs.Readers.{HasRead}
use Rattle.cli_reading.specs.Counts.{CountsPackets}
use Rattle.cli_reading.proofs.Passes.{HasGiven, WentOut}
use Rattle.cli_reading.proofs.written.write_again.Given as goal

-- the output took what is written for the packets so far, and these are counted
abbrev pub invariant-packets : goal.invariant-packets
invariant-packets g l =
    (g.P.PerPacket.bytes_for l.written ≡ g.P.PerPacket.bytes_for l.initial.written)
    × ((recording : List ℕ) → HasRead recording [] l.initial.reader
    → (had : HasGiven l.counter recording l.reader)
    × WentOut (g.P.PerPacket.bytes_for l.initial.written) had.packets (writer_contents g.W.Write.contents l.initial.output)
    (writer_contents g.W.Write.contents l.output) × CountsPackets had.packets l.counts
    × FoldsTo g.P.PerPacket.counts l.initial.written had.packets l.written)
