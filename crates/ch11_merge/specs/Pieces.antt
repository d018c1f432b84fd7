-- The pieces of a packet's frames: each goes into one packet of the file.
use Rattle.std.specs.Prelude.{ℕ, ◌+◌, ◌≡◌, ◌&&◌, Bool, true, false, nat_le, nat_lt, List, [], ◌∷◌}
use Rattle.std.specs.Prelude.{◌++◌, length}
use Rattle.std.specs.List.{AllByRecursion}
use Rattle.ch11_packet.specs.declared.header.TheConstants.{MAX_ETHERNET_PACKET_LEN}
use Rattle.ch11_packet.specs.Frames.{data_len, frame_len}
use Rattle.ch11_packet.specs.FramesRead.{ReadFrameData}
use Rattle.ch11_packet.specs.PacketLen.{written_len}
use Rattle.ch11_packet.specs.Profiles.Profile.{WithSum}
use Rattle.ch11_merge.specs.declared.piece.TheConstants.{PIECE_TICKS}
use Rattle.ch11_merge.specs.declared.piece.PieceSoFar.{PieceSoFar}

-- ---- a piece so far

-- of no frames, of which the first has this counter
abbrev pub piece_before : (counter : ℕ) → PieceSoFar
piece_before counter = record { first = counter; last = counter; len = data_len [] }

-- with a further frame
abbrev pub with_frame : PieceSoFar → ReadFrameData → PieceSoFar
with_frame piece frame = record {
  first = piece.first;
  last = frame.counter;
  len = piece.len + frame_len (length frame.bytes);
}

-- with further frames
abbrev pub with_frames : PieceSoFar → List ReadFrameData → PieceSoFar
with_frames piece [] = piece
with_frames piece (frame ∷ frames) = with_frames (with_frame piece frame) frames

-- of a first frame
abbrev pub begun : ReadFrameData → PieceSoFar
begun frame = with_frame (piece_before frame.counter) frame

-- whether a frame goes on with a piece: its counter isn't less than that of the frame before it, it
-- lies within 100 ms of the piece's first frame, and the packet doesn't get too long
abbrev pub goes_on : PieceSoFar → ReadFrameData → Bool
goes_on piece frame =
    nat_le piece.last frame.counter && nat_lt frame.counter (piece.first + PIECE_TICKS)
    && nat_le (written_len WithSum (piece.len + frame_len (length frame.bytes)))
    MAX_ETHERNET_PACKET_LEN

-- ---- the cut

-- each of these goes on with the piece, behind those ahead of it
abbrev pub GoOn : PieceSoFar → List ReadFrameData → Type 0
GoOn piece [] = Unit {0}
GoOn piece (frame ∷ frames) = (goes_on piece frame ≡ true) × GoOn (with_frame piece frame) frames

-- one piece: a first frame, and those that go on with it
abbrev pub IsPiece : List ReadFrameData → Type 0
IsPiece [] = ⊥
IsPiece (first ∷ frames) = GoOn (begun first) frames

-- the frames that follow don't go on with the piece
abbrev pub IsCutBehind : (piece more : List ReadFrameData) → Type 0
IsCutBehind (first ∷ frames) (frame ∷ more) =
    goes_on (with_frames (begun first) frames) frame ≡ false
IsCutBehind piece more = Unit {0}

-- between two pieces that follow each other is a cut
abbrev pub AreApart : List (List ReadFrameData) → Type 0
AreApart [] = Unit {0}
AreApart (piece ∷ []) = Unit {0}
AreApart (piece ∷ next ∷ pieces) = IsCutBehind piece next × AreApart (next ∷ pieces)

-- the frames of pieces, one piece after the other
abbrev pub joined_frames : List (List ReadFrameData) → List ReadFrameData
joined_frames [] = []
joined_frames (piece ∷ pieces) = piece ++ joined_frames pieces

-- the frames are cut into these pieces: there and nowhere else
pub record AreCut (frames : List ReadFrameData) (pieces : List (List ReadFrameData)) : Type 0 where
  pub whole : joined_frames pieces ≡ frames
  pub each : AllByRecursion IsPiece pieces
  pub apart : AreApart pieces
