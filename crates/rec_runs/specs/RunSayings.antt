-- Which recordings have a channel: by its programs and its ends.
use Rattle.std.specs.Prelude.{ℕ, ◌==◌, Bool, false, List, Option, None, Some}
use Rattle.std.specs.List.{list_any}
use Rattle.rec_reader.specs.Packets.{PacketData}
use Rattle.rec_reader.specs.Channels.{Saying, saying_of}
use Rattle.rec_reader.specs.Channels.Saying.{OfFrames}

-- what is said of a channel but its frames
abbrev pub without_frames : Option (ℕ × Saying) → Option (ℕ × Saying)
without_frames (Some (channel, OfFrames frames)) = None
without_frames said = said

-- a program or an end of the channel is said
abbrev pub is_said_of : (channel : ℕ) → Option (ℕ × Saying) → Bool
is_said_of channel None = false
is_said_of channel (Some (named, saying)) = named == channel

-- the packet is a program or an end of the channel
abbrev pub tells_of : (channel : ℕ) → PacketData → Bool
tells_of channel packet = is_said_of channel (without_frames (saying_of packet))

-- one of a recording's packets is; one of those of some recordings is
abbrev pub recording_has : (channel : ℕ) → List PacketData → Bool
recording_has channel packets = list_any (tells_of channel) packets

abbrev pub run_has : (channel : ℕ) → List (List PacketData) → Bool
run_has channel recordings = list_any (recording_has channel) recordings
