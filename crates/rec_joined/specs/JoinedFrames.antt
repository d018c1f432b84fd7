-- The frames of channels in a joined recording.
use Rattle.std.specs.Prelude.{ℕ, ◌≡◌, ◌==◌, if◌then◌else◌, List, [], ◌∷◌, ◌++◌, map}
use Rattle.std.specs.List.{flat_map}
use Rattle.ch11_packet.specs.FramesRead.{ReadFrameData}
use Rattle.rec_reader.specs.ChannelFrames.{packet_frames}
use Rattle.rec_reader.specs.Packets.{PacketData}
use Rattle.rec_joined.specs.declared.joined.Part.{Part}
use Rattle.rec_joined.specs.Moving.{Moving, moving_of}
use Rattle.rec_joined.specs.MovedFrames.{moved_frame}

-- the frames of a packet with their counters in the file, if its channel has this ID there
abbrev pub frames_as : Moving → (id : ℕ) → PacketData → List ReadFrameData
frames_as moving id packet =
    if moving.ids packet.header.channel == id then map (moved_frame moving.counters)
    (packet_frames packet) else []

-- those of a recording's packets, in order
abbrev pub frames_for : Moving → (id : ℕ) → List PacketData → List ReadFrameData
frames_for moving id packets = flat_map (frames_as moving id) packets

-- and of several recordings', one behind the other
abbrev pub frames_of_parts : {P : Type 0} → (id : ℕ) → List (Part P) → List (List PacketData)
    → List ReadFrameData
frames_of_parts id (part ∷ parts) (packets ∷ more) =
    frames_for (moving_of part.moves) id packets ++ frames_of_parts id parts more
frames_of_parts id parts more = []

-- the channel has this ID in the file, and no other one of its recording has it
pub record HasOwnId (moving : Moving) (channel id : ℕ) : Type 0 where
  pub given : moving.ids channel ≡ id
  pub only : (other : ℕ) → moving.ids other ≡ id → other ≡ channel
