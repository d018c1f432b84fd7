-- Bodies of Ethernet data, those that frames are still added to, and their buffers.
use Rattle.std.specs.Prelude.{ℕ, ◌≡◌, ◌+◌, ◌^◌, ◌<◌, ◌≤◌, List, [], ◌∷◌, ◌++◌, length, map, drop}
use Rattle.std.specs.Prelude.{All}
use Rattle.std.specs.Int.{w32, to_le_bytes}
use Rattle.std.specs.List.{flat_map}
use Rattle.ch11_packet.specs.declared.frames.word.TheConstants.{BODY_WORD_LEN, MAX_SPEED}
use Rattle.ch11_packet.specs.declared.header.TheConstants.{HEADER_LEN}
use Rattle.ch11_packet.specs.declared.limit.TheConstants.{MIN_LIMIT, MAX_LIMIT}
use Rattle.ch11_packet.specs.Sums.{body_sum}
use Rattle.ch11_packet.specs.PacketLen.{packet_len}
use Rattle.ch11_packet.specs.Frames.{frame_bytes, frame_len, data_len}
use Rattle.ch11_packet.specs.FramesRead.{frame_in, first_reads}
use Rattle.eth_frame.specs.Frame.{FrameData, IsFrame}

-- ---- what contracts see

-- the body of a packet: its frames, their network identifier and their speed, and the limit of its
-- buffer
pub record EthernetBody : Type 0 where
  pub frames : List FrameData
  pub net : ℕ
  pub speed : ℕ
  pub limit : ℕ

abbrev pub body_of : (frames : List FrameData) (net speed limit : ℕ) → EthernetBody
body_of frames net speed limit =
    record { frames = frames; net = net; speed = speed; limit = limit }

-- its frames, its network identifier and its speed are in range, it has a frame, and its packet
-- isn't over the greatest limit
pub record IsEthernetBody (body : EthernetBody) : Type 0 where
  pub in_range : All IsFrame body.frames
  pub net_fits : body.net < 2 ^ 8
  pub speed_fits : body.speed ≤ MAX_SPEED
  pub some : 0 < length body.frames
  pub few : length body.frames < 2 ^ 16
  pub fits : packet_len (data_len body.frames) ≤ MAX_LIMIT

-- a body to which frames are added, as long as its packet isn't longer than the limit
pub record OpenBody : Type 0 where
  pub frames : List FrameData
  pub net : ℕ
  pub speed : ℕ
  pub limit : ℕ

abbrev pub open_of : (frames : List FrameData) (net speed limit : ℕ) → OpenBody
open_of frames net speed limit =
    record { frames = frames; net = net; speed = speed; limit = limit }

-- with a further frame of `len` bytes the packet isn't longer than the limit
abbrev pub Fits : OpenBody → ℕ → Type 0
Fits body len = packet_len (data_len body.frames + frame_len len) ≤ body.limit

-- the first frame's counter, or 0
abbrev pub first_counter : List FrameData → ℕ
first_counter [] = 0
first_counter (frame ∷ frames) = frame.counter

-- ---- what their fields hold

-- the frames in the bytes of a body behind its word
unfoldable pub frames_in : (count : ℕ) (bytes : List ℕ) → List FrameData
frames_in count bytes = map frame_in (first_reads count (drop BODY_WORD_LEN bytes))

-- the bytes are a word of this number and these frames
pub record HoldsFrames (word : ℕ) (frames : List FrameData) (net speed : ℕ)
    (bytes : List ℕ) : Type 0 where
  pub bytes_are : bytes ≡ to_le_bytes w32 word ++ flat_map (frame_bytes net speed) frames
  pub in_range : All IsFrame frames
  pub net_fits : net < 2 ^ 8
  pub speed_fits : speed ≤ MAX_SPEED

-- the limit is in range, and a buffer of `room` bytes has room for a packet up to it but its header
pub record HasRoom (limit room : ℕ) : Type 0 where
  pub least : MIN_LIMIT ≤ limit
  pub most : limit ≤ MAX_LIMIT
  pub enough : limit ≤ HEADER_LEN + room

-- there are no bytes, and there is room up to the limit
pub record IsBlank (limit room : ℕ) (bytes : List ℕ) : Type 0 where
  pub empty : bytes ≡ []
  pub roomy : HasRoom limit room

-- the bytes hold `count` frames below the limit, with a word of 0, and there is room up to the
-- limit
pub record IsOpen (count net speed limit room : ℕ) (bytes : List ℕ) : Type 0 where
  pub holds : HoldsFrames 0 (frames_in count bytes) net speed bytes
  pub fits : packet_len (length bytes) ≤ limit
  pub roomy : HasRoom limit room

-- the bytes are the body of `count` frames below the limit, at least one, this is their sum, and
-- there is room up to the limit
pub record IsSealed (count net speed limit room sum : ℕ) (bytes : List ℕ) : Type 0 where
  pub holds : HoldsFrames count (frames_in count bytes) net speed bytes
  pub some : 0 < count
  pub fits : packet_len (length bytes) ≤ limit
  pub roomy : HasRoom limit room
  pub sum_is : sum ≡ body_sum bytes
