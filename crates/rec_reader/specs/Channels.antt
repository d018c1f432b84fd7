-- What the packets of a recording say of its channels: their frames, their programs and their ends.
use Rattle.std.specs.Prelude.{ℕ, ◌≡◌, ◌-◌, ◌^◌, min, ◌==◌, if◌then◌else◌, List, [], ◌∷◌, ◌++◌, drop}
use Rattle.std.specs.Prelude.{Option, None, Some}
use Rattle.std.specs.List.{flat_map, last_or}
use Rattle.ch11_packet.specs.declared.records.TheConstants.{PROGRAM_HEAD_LEN}
use Rattle.ch11_packet.specs.declared.class.What.{What}
use Rattle.ch11_packet.specs.declared.class.What.TheVariants.{Frames, Program, End, Other}
use Rattle.ch11_packet.specs.FramesRead.{ReadFrameData}
use Rattle.ch11_packet.specs.RecordsRead.{stored_insns}
use Rattle.ch11_packet.specs.Classes.{data_in, said_frames}
use Rattle.rec_reader.specs.declared.audits.channel.ChannelProgram.{ChannelProgram}
use Rattle.rec_reader.specs.declared.audits.channel.ChannelEnd.{ChannelEnd}
use Rattle.rec_reader.specs.Packets.{PacketData}

-- ---- what one packet says

-- what a packet says of a channel: frames of it, a program that came into force on it, or its end
pub data Saying : Type 0 where
  OfFrames : List ReadFrameData → Saying
  OfProgram : ChannelProgram → Saying
  OfEnd : ChannelEnd → Saying

-- the program of a record in these data, with as many instructions as the record says
abbrev pub stored_program : (version first count : ℕ) → List ℕ → ChannelProgram
stored_program version first count bytes = record {
  version = version;
  first = first;
  insns = stored_insns count (drop PROGRAM_HEAD_LEN bytes);
}

-- the channel that data name which hold this, in a packet of this channel, and what they say of it:
-- frames name the packet's channel, and a record its own
abbrev pub saying_in : (channel : ℕ) → What → List ℕ → Option (ℕ × Saying)
saying_in channel (Frames count) bytes = Some (channel, OfFrames (said_frames bytes))
saying_in channel (Program named version first count) bytes =
    Some (named, OfProgram (stored_program version first count bytes))
saying_in channel (End named offered kept) bytes =
    Some (named, OfEnd (record { offered = offered; kept = kept }))
saying_in channel Other bytes = None

-- the channel that a packet names, and what it says of it; none for a packet of any other kind
abbrev pub saying_of : PacketData → Option (ℕ × Saying)
saying_of packet =
    saying_in packet.header.channel packet.what (data_in packet.header packet.body)

-- the packet names the channel
abbrev pub Names : PacketData → (channel : ℕ) → Type 0
Names packet channel = (saying : Saying) × (saying_of packet ≡ Some (channel, saying))

-- ---- what packets say

-- one of the packets names the channel
pub record IsNamed (channel : ℕ) (packets : List PacketData) : Type 0 where
  pub before : List PacketData
  pub packet : PacketData
  pub after : List PacketData
  pub whole : packets ≡ before ++ packet ∷ after
  pub names : Names packet channel

-- the program that is said of the channel, if one is
abbrev pub program_said : (channel : ℕ) → Option (ℕ × Saying) → List ChannelProgram
program_said channel (Some (named, OfProgram program)) =
    if named == channel then program ∷ [] else []
program_said channel other = []

-- the programs of a channel: those of its records, in order
abbrev pub programs_of : (channel : ℕ) → List PacketData → List ChannelProgram
programs_of channel packets =
    flat_map (λ (packet : PacketData). program_said channel (saying_of packet)) packets

-- the end that is said of the channel, if one is
abbrev pub end_said : (channel : ℕ) → Option (ℕ × Saying) → List ChannelEnd
end_said channel (Some (named, OfEnd end)) = if named == channel then end ∷ [] else []
end_said channel other = []

-- the ends of a channel, in order
abbrev pub ends_of : (channel : ℕ) → List PacketData → List ChannelEnd
ends_of channel packets =
    flat_map (λ (packet : PacketData). end_said channel (saying_of packet)) packets

-- the channel's last program, and its last end
abbrev pub last_program : (channel : ℕ) → List PacketData → Option ChannelProgram
last_program channel packets = last_or None (programs_of channel packets)

abbrev pub last_end : (channel : ℕ) → List PacketData → Option ChannelEnd
last_end channel packets = last_or None (ends_of channel packets)

-- a count or a number as it is reported: from 2^64 - 1 on it stays there
abbrev pub capped : ℕ → ℕ
capped n = min n (2 ^ 64 - 1)
