-- What packets tell of a channel: its frames, its programs and its ends, in order.
use Rattle.std.specs.Prelude.{ℕ, ◌==◌, if◌then◌else◌, List, [], ◌∷◌, map, Option, None, Some}
use Rattle.std.specs.List.{flat_map}
use Rattle.ch11_packet.specs.FramesRead.{ReadFrameData}
use Rattle.rec_reader.specs.declared.audits.channel.ChannelProgram.{ChannelProgram}
use Rattle.rec_reader.specs.declared.audits.channel.ChannelEnd.{ChannelEnd}
use Rattle.rec_reader.specs.Packets.{PacketData}
use Rattle.rec_reader.specs.Channels.{Saying, saying_of}
use Rattle.rec_reader.specs.Channels.Saying.{OfFrames, OfProgram, OfEnd}

-- a frame, a program or an end
pub data Told : Type 0 where
  ToldFrame : ReadFrameData → Told
  ToldProgram : ChannelProgram → Told
  ToldEnd : ChannelEnd → Told

abbrev pub told_by : Saying → List Told
told_by (OfFrames frames) = map ToldFrame frames
told_by (OfProgram program) = ToldProgram program ∷ []
told_by (OfEnd end) = ToldEnd end ∷ []

abbrev pub told_in : (channel : ℕ) → Option (ℕ × Saying) → List Told
told_in channel None = []
told_in channel (Some (named, saying)) = if named == channel then told_by saying else []

abbrev pub told_of : (channel : ℕ) → List PacketData → List Told
told_of channel packets = flat_map (λ (p : PacketData). told_in channel (saying_of p)) packets
