-- What is counted of a recording that is read packet by packet.
use Rattle.std.specs.Prelude.{ℕ, ◌≡◌, ◌+◌, if◌then◌else◌, List, length, None}
use Rattle.rec_reader.specs.Packets.{PacketData, packets_len}
use Rattle.rec_reader.specs.Channels.{capped}
use Rattle.rec_reader.specs.Audits.{is_other, other_count}
use Rattle.rec_reader.specs.Reading.{Reads}
use Rattle.cli_reading.specs.declared.reading.Counts.{Counts}

-- these are the counts of packets from a recording's first on: their number, how many of them are
-- other, and the place of what follows them
pub record CountsPackets (packets : List PacketData) (counts : Counts) : Type 0 where
  pub packets_are : counts.packets ≡ length packets
  pub others_are : counts.others ≡ other_count packets
  pub end_is : counts.end ≡ packets_len packets

-- a recording that is read to its end has these counts of all its packets
abbrev pub CountsRecording : (recording : List ℕ) → Counts → Type 0
CountsRecording recording counts =
    (packets : List PacketData) × Reads recording packets None × CountsPackets packets counts

-- the counts with one packet more, which ends where they say; at 2^64 - 1 they stay
abbrev pub counts_with : Counts → PacketData → Counts
counts_with counts packet =
    record {
      packets = capped (counts.packets + 1);
      others = if is_other packet.what then capped (counts.others + 1) else counts.others;
      end = capped (packet.at + packet.header.packet_len);
    }
