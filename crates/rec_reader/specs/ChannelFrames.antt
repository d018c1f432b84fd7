-- The frames of a channel in a recording, and their feed.
use Rattle.std.specs.Prelude.{ℕ, Bool, ◌==◌, ◌&&◌, nat_le, if◌then◌else◌, List, [], length}
use Rattle.std.specs.List.{flat_map}
use Rattle.eth_frame.specs.declared.frame.TheConstants.{MIN_FRAME_LEN}
use Rattle.eth_frame.specs.FeedRecord.{feed_record}
use Rattle.ch11_packet.specs.declared.class.What.{What}
use Rattle.ch11_packet.specs.declared.class.What.TheVariants.{Frames}
use Rattle.ch11_packet.specs.FramesRead.{ReadFrameData, frame_in}
use Rattle.ch11_packet.specs.Classes.{data_in, said_frames}
use Rattle.rec_reader.specs.Packets.{PacketData}

-- the frames of data that hold this: of frames their own, and of anything else none
abbrev pub frames_held : What → List ℕ → List ReadFrameData
frames_held (Frames count) bytes = said_frames bytes
frames_held held bytes = []

-- the frames of a packet
abbrev pub packet_frames : PacketData → List ReadFrameData
packet_frames packet = frames_held packet.what (data_in packet.header packet.body)

-- the frames of a channel: those of its packets, in order
abbrev pub channel_frames : (channel : ℕ) → List PacketData → List ReadFrameData
channel_frames channel packets =
    flat_map (λ (packet : PacketData).
    if packet.header.channel == channel then packet_frames packet else []) packets

-- ---- the feed

-- whether a frame has a record in a feed: its content is 0, and it has the bytes of the shortest
-- frame
abbrev pub has_record : ReadFrameData → Bool
has_record frame = frame.content == 0 && nat_le MIN_FRAME_LEN (length frame.bytes)

-- what a frame is in a feed: its record, if it has one, and else nothing
abbrev pub feed_part : ReadFrameData → List ℕ
feed_part frame = if has_record frame then feed_record (frame_in frame) else []

-- the feed of these frames
abbrev pub feed_of : List ReadFrameData → List ℕ
feed_of frames = flat_map feed_part frames
