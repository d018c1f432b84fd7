-- The order of a file: the pieces of several channels, cut where time packets stand between them.
use Rattle.std.specs.Prelude.{ℕ, ◌≡◌, ◌≢◌, ◌&&◌, ◌||◌, Bool, true, false, nat_le, nat_lt, nat_eq}
use Rattle.std.specs.Prelude.{if◌then◌else◌, List, []}
use Rattle.std.specs.Prelude.{◌∷◌, ◌++◌, All, Option, None, Some, slice_get, slice_set}
use Rattle.ch11_packet.specs.FramesRead.{ReadFrameData}
use Rattle.ch11_merge.specs.declared.source.Head.{Head}
use Rattle.ch11_merge.specs.declared.source.Head.TheVariants.{At, Uncounted, End}

-- ---- what is merged

-- a piece of a channel, of the packet at a place in its recording: frames, or a record with its
-- counter, if it has one
pub data FilePiece : Type 0 where
  OfFrames : (place : ℕ) → List ReadFrameData → FilePiece
  OfRecord : (place : ℕ) → (counter : Option ℕ) → (body : List ℕ) → FilePiece

-- what is left of a channel: its ID, and its pieces in order
pub record ChannelLeft : Type 0 where
  pub channel : ℕ
  pub pieces : List FilePiece

-- what stands in the file: a time packet, or a piece of a channel
pub data Merged : Type 0 where
  OfTime : (tick : ℕ) → Merged
  OfPiece : (channel : ℕ) → FilePiece → Merged

-- where the packet of a piece stands
abbrev pub place_of : FilePiece → ℕ
place_of (OfFrames place frames) = place
place_of (OfRecord place counter body) = place

-- the first of these pieces is of the packet at this place
abbrev pub StandsFirst : List FilePiece → (place : ℕ) → Type 0
StandsFirst [] place = ⊥
StandsFirst (piece ∷ pieces) place = place ≡ place_of piece

-- ---- which comes next

-- a piece's place in time: its first frame's counter, or its own
abbrev pub head_of_piece : FilePiece → Head
head_of_piece (OfFrames place []) = Uncounted
head_of_piece (OfFrames place (frame ∷ frames)) = At frame.counter
head_of_piece (OfRecord place (Some counter) body) = At counter
head_of_piece (OfRecord place None body) = Uncounted

-- that of the first of these pieces
abbrev pub head_of : List FilePiece → Head
head_of [] = End
head_of (piece ∷ pieces) = head_of_piece piece

-- whether the first channel's next piece goes ahead of the other's: one that has a counter ahead of
-- those that have none, the lesser counter, and then the lesser channel
abbrev pub is_ahead : Head → (channel : ℕ) → Head → (other : ℕ) → Bool
is_ahead End channel (At b) other = false
is_ahead End channel Uncounted other = false
is_ahead End channel End other = false
is_ahead (At a) channel (At b) other = nat_lt a b || (nat_eq a b && nat_lt channel other)
is_ahead (At a) channel Uncounted other = true
is_ahead (At a) channel End other = true
is_ahead Uncounted channel (At b) other = false
is_ahead Uncounted channel Uncounted other = nat_lt channel other
is_ahead Uncounted channel End other = true

-- no channel's next piece goes ahead of this channel's
abbrev pub IsLeast : List ChannelLeft → ChannelLeft → Type 0
IsLeast channels c =
    All (λ d. is_ahead (head_of d.pieces) d.channel (head_of c.pieces) c.channel ≡ false) channels

-- the channel that stands at this index has the next piece
pub record IsNextAt (channels : List ChannelLeft) (at : ℕ) (c : ChannelLeft) : Type 0 where
  pub there : slice_get channels at ≡ Some c
  pub some : c.pieces ≢ []
  pub least : IsLeast channels c

-- whether the time packet of this tick goes ahead of such a piece
abbrev pub is_due : (tick : ℕ) → Head → Bool
is_due tick (At counter) = nat_le tick counter
is_due tick Uncounted = false
is_due tick End = false

-- ---- what it is cut into

-- the frames up to the first that doesn't lie before the tick, and those from it on
abbrev pub frames_before : (tick : ℕ) → List ReadFrameData → List ReadFrameData
frames_before tick [] = []
frames_before tick (frame ∷ frames) =
    if nat_lt frame.counter tick then frame ∷ frames_before tick frames else []

abbrev pub frames_from : (tick : ℕ) → List ReadFrameData → List ReadFrameData
frames_from tick [] = []
frames_from tick (frame ∷ frames) =
    if nat_lt frame.counter tick then frames_from tick frames else frame ∷ frames

-- frames as a piece, if there are any
abbrev pub piece_of : (place : ℕ) → List ReadFrameData → List FilePiece
piece_of place [] = []
piece_of place (frame ∷ frames) = OfFrames place (frame ∷ frames) ∷ []

-- what goes out of a piece ahead of the tick, and what stays: a record goes whole
abbrev pub part_before : (tick : ℕ) → FilePiece → FilePiece
part_before tick (OfFrames place frames) = OfFrames place (frames_before tick frames)
part_before tick (OfRecord place counter body) = OfRecord place counter body

abbrev pub part_from : (tick : ℕ) → FilePiece → List FilePiece
part_from tick (OfFrames place frames) = piece_of place (frames_from tick frames)
part_from tick (OfRecord place counter body) = []

-- what was taken of the first of these pieces, and what is left
abbrev pub TakesPart : (tick : ℕ) → (old : List FilePiece) → FilePiece → (new : List FilePiece)
    → Type 0
TakesPart tick [] taken new = ⊥
TakesPart tick (piece ∷ pieces) taken new =
    (taken ≡ part_before tick piece) × (new ≡ part_from tick piece ++ pieces)

-- ---- the merge

-- a channel with these pieces left
abbrev pub channel_with : (channel : ℕ) → List FilePiece → ChannelLeft
channel_with channel pieces = record { channel = channel; pieces = pieces }

-- the time packet of this tick comes next
pub record TimeIsNext (tick : ℕ) (channels : List ChannelLeft) : Type 0 where
  pub at : ℕ
  pub of : ChannelLeft
  pub is_next : IsNextAt channels at of
  pub due : is_due tick (head_of of.pieces) ≡ true

-- this piece of this channel comes next, before the time packet of this tick
pub record PieceIsNext (tick : ℕ) (old : List ChannelLeft) (channel : ℕ) (piece : FilePiece)
    (new : List ChannelLeft) : Type 0 where
  pub at : ℕ
  pub of : ChannelLeft
  pub named : of.channel ≡ channel
  pub is_next : IsNextAt old at of
  pub early : is_due tick (head_of of.pieces) ≡ false
  pub rest : List FilePiece
  pub takes : TakesPart tick of.pieces piece rest
  pub others : new ≡ slice_set old at (channel_with channel rest)

-- nothing is left
abbrev pub NothingLeft : List ChannelLeft → Type 0
NothingLeft channels = All (λ c. c.pieces ≡ []) channels

-- the channels' pieces in the order of the file: the tick of the next time packet is `tick`, and
-- behind that of a tick comes that of `after tick`
abbrev pub Merges : (after : ℕ → ℕ) → (tick : ℕ) → List ChannelLeft → List Merged → Type 0
Merges after tick channels [] = NothingLeft channels
Merges after tick channels (OfTime time ∷ out) =
    (time ≡ tick) × TimeIsNext tick channels × Merges after (after tick) channels out
Merges after tick channels (OfPiece channel piece ∷ out) =
    (new : List ChannelLeft) × PieceIsNext tick channels channel piece new
    × Merges after tick new out
