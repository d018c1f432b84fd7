-- How long a piece of frames is, in time and in bytes.
use Rattle.std.specs.Prelude.{ℕ, ◌+◌, ◌≡◌, ◌<◌, ◌≤◌, ◌⊎◌, List, [], ◌∷◌, length}
use Rattle.std.specs.List.{AllByRecursion}
use Rattle.ch11_packet.specs.declared.header.TheConstants.{MAX_ETHERNET_PACKET_LEN}
use Rattle.ch11_packet.specs.Frames.{data_len, frame_len}
use Rattle.ch11_packet.specs.FramesRead.{ReadFrameData}
use Rattle.ch11_packet.specs.PacketLen.{written_len}
use Rattle.ch11_packet.specs.Profiles.Profile.{WithSum}
use Rattle.ch11_merge.specs.declared.piece.TheConstants.{PIECE_TICKS}

-- the counters of frames behind one of this counter never fall
abbrev pub NeverFall : (last : ℕ) → List ReadFrameData → Type 0
NeverFall last [] = Unit {0}
NeverFall last (frame ∷ frames) = (last ≤ frame.counter) × NeverFall frame.counter frames

-- each of these frames lies within 100 ms of this counter
abbrev pub LieWithin : (first : ℕ) → List ReadFrameData → Type 0
LieWithin first frames = AllByRecursion (λ frame. frame.counter < first + PIECE_TICKS) frames

-- how many bytes frames take in the body of a packet
abbrev pub frames_len : List ReadFrameData → ℕ
frames_len [] = 0
frames_len (frame ∷ frames) = frame_len (length frame.bytes) + frames_len frames

-- the packet of these frames isn't too long
abbrev pub FitPacket : List ReadFrameData → Type 0
FitPacket frames = written_len WithSum (data_len [] + frames_len frames) ≤ MAX_ETHERNET_PACKET_LEN

-- a first frame and those behind it never fall, lie within 100 ms, and fit a packet; a single frame
-- always does
abbrev pub IsShortPiece : List ReadFrameData → Type 0
IsShortPiece [] = ⊥
IsShortPiece (first ∷ frames) =
    NeverFall first.counter frames × LieWithin first.counter frames
    × ((frames ≡ []) ⊎ FitPacket (first ∷ frames))
