-- The pieces of a packet's frames, and the part of the first that goes out ahead of a tick.
use Rattle.std.specs.Prelude.{ℕ, zero, suc, ◌≡◌, ◌≤◌, ◌&&◌, Bool, true, false, nat_lt}
use Rattle.std.specs.Prelude.{if◌then◌else◌, List, [], ◌∷◌, take, drop, length}
use Rattle.ch11_packet.specs.FramesRead.{ReadFrameData}
use Rattle.ch11_merge.specs.declared.piece.PieceSoFar.{PieceSoFar}
use Rattle.ch11_merge.specs.Pieces.{piece_before, with_frame, with_frames, begun, goes_on}
use Rattle.ch11_merge.specs.Merging.{FilePiece}
use Rattle.ch11_merge.specs.Merging.FilePiece.{OfFrames, OfRecord}

-- ---- all pieces

-- of frames of the packet at a place, behind a piece so far: those that go on with it, and the
-- pieces behind it
abbrev pub cut_behind : (place : ℕ) → PieceSoFar → List ReadFrameData → List ReadFrameData
    × List FilePiece
cut_behind place piece [] = ([], [])
cut_behind place piece (frame ∷ frames) =
    if goes_on piece frame
    then (
      frame ∷ (cut_behind place (with_frame piece frame) frames).0,
      (cut_behind place (with_frame piece frame) frames).1,
    )
    else (
      [],
      OfFrames place (frame ∷ (cut_behind place (begun frame) frames).0)
          ∷ (cut_behind place (begun frame) frames).1,
    )

-- the pieces of frames of which the first belongs to this piece
abbrev pub pieces_left : (place : ℕ) → (ahead : PieceSoFar) → List ReadFrameData → List FilePiece
pieces_left place ahead [] = []
pieces_left place ahead (frame ∷ frames) =
    OfFrames place (frame ∷ (cut_behind place (with_frame ahead frame) frames).0)
    ∷ (cut_behind place (with_frame ahead frame) frames).1

-- the pieces of frames of which the first begins a piece
abbrev pub frames_pieces : (place : ℕ) → List ReadFrameData → List FilePiece
frames_pieces place [] = []
frames_pieces place (frame ∷ frames) =
    pieces_left place (piece_before frame.counter) (frame ∷ frames)

-- the frames of a piece
abbrev pub frames_of_piece : FilePiece → List ReadFrameData
frames_of_piece (OfFrames place frames) = frames
frames_of_piece (OfRecord place counter body) = []

-- ---- the part ahead of a tick

-- whether a frame goes out with those ahead of it, before the tick
abbrev pub goes_with : (tick : ℕ) → PieceSoFar → ReadFrameData → Bool
goes_with tick piece frame = goes_on piece frame && nat_lt frame.counter tick

-- each of these goes out with those ahead of it
abbrev pub GoWith : (tick : ℕ) → PieceSoFar → List ReadFrameData → Type 0
GoWith tick piece [] = Unit {0}
GoWith tick piece (frame ∷ frames) =
    (goes_with tick piece frame ≡ true) × GoWith tick (with_frame piece frame) frames

-- the first of these, if there is one, stays, and this is the piece that it belongs to
abbrev pub Stays : (tick : ℕ) → PieceSoFar → List ReadFrameData → (next : PieceSoFar) → Type 0
Stays tick piece [] next = Unit {0}
Stays tick piece (frame ∷ frames) next =
    (goes_with tick piece frame ≡ false)
    × (next ≡ (if goes_on piece frame then piece else piece_before frame.counter))

-- behind a first frame `len` frames go out with it; and the piece so far that the next one belongs
-- to
pub record IsPart (tick : ℕ) (piece : PieceSoFar) (frames : List ReadFrameData) (len : ℕ)
    (next : PieceSoFar) : Type 0 where
  pub within : len ≤ length frames
  pub go : GoWith tick piece (take len frames)
  pub stays : Stays tick (with_frames piece (take len frames)) (drop len frames) next

-- the same of frames with the first one
abbrev pub IsPartOf : (tick : ℕ) → (ahead : PieceSoFar) → List ReadFrameData → (len : ℕ)
    → (next : PieceSoFar) → Type 0
IsPartOf tick ahead [] len next = ⊥
IsPartOf tick ahead (frame ∷ frames) zero next = ⊥
IsPartOf tick ahead (frame ∷ frames) (suc len) next =
    IsPart tick (with_frame ahead frame) frames len next
