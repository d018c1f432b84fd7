use Rattle.std.proofs.Common.{◌≡◌, ℕ, List, [], Some}
use Rattle.std.specs.List.{FoldsTo}
use Rattle.rec_reader.specs.Readers.{HasRead}
use Rattle.cli_reading.proofs.Passes.{HasGiven, WentOut}
use Rattle.cli_reading.proofs.written.held_for.Given as goal

-- what is written for the packets so far is held
abbrev pub invariant-packets : goal.invariant-packets
invariant-packets g l =
    (g.P.PerPacket.bytes_for l.written ≡ g.P.PerPacket.bytes_for l.initial.written)
    × ((recording : List ℕ) → HasRead recording [] l.initial.reader
    → (had : HasGiven l.counter recording l.reader) × WentOut (g.P.PerPacket.bytes_for l.initial.written) had.packets (Some []) (Some l.held.items)
    × FoldsTo g.P.PerPacket.counts l.initial.written had.packets l.written)
