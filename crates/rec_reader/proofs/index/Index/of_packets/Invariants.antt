use Rattle.std.proofs.Common.{◌≡◌, ℕ, take}
use Rattle.rec_reader.specs.Indexes.{entries_of, entries_in}
use Rattle.rec_reader.specs.Views.{packets_data}
use Rattle.rec_reader.proofs.index.Index.of_packets.Given as goal

-- the entries of the packets so far
abbrev pub invariant-packets : goal.invariant-packets
invariant-packets l = record {
  number : l.number ≡ l.packet-index;
  entries : (channel : ℕ) → entries_in l.index channel ≡ entries_of channel (packets_data (take l.packet-index l.packets));
}
