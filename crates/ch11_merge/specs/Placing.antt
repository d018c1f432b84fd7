-- What sources of pieces say, and what of them has the next place in a file.
use Rattle.std.specs.Prelude.{ℕ, ◌≡◌, ◌≢◌, false, List, map, All, Option, None, Some, slice_get}
use Rattle.ch11_merge.specs.declared.source.Head.{Head}
use Rattle.ch11_merge.specs.declared.source.Head.TheVariants.{End}
use Rattle.ch11_merge.specs.declared.channels.MergedChannel.{MergedChannel}
use Rattle.ch11_merge.specs.declared.placed.NextPiece.{NextPiece}
use Rattle.ch11_merge.specs.declared.placed.Placed.{Placed}
use Rattle.ch11_merge.specs.declared.placed.Placed.TheVariants.{Time, Piece}
use Rattle.ch11_merge.specs.Merging.{FilePiece, ChannelLeft, head_of, is_ahead, IsNextAt}
use Rattle.ch11_merge.specs.Merging.{StandsFirst, TimeIsNext, PieceIsNext, NothingLeft, Merged}
use Rattle.ch11_merge.specs.Merging.Merged.{OfTime, OfPiece}

-- what a channel's source says: the channel's ID, and the pieces that are left, if it says them
abbrev pub Said : Type 0
Said = ℕ × Option (List FilePiece)

abbrev pub said_by : {S : Type 0} → (S → Option (List FilePiece)) → MergedChannel S → Said
said_by left c = (c.channel, left c.source)

-- what a source says that has this left
abbrev pub said_of : ChannelLeft → Said
said_of left = (left.channel, Some left.pieces)

-- these sources say that this is left
abbrev pub SayLeft : {S : Type 0} → (S → Option (List FilePiece)) → List (MergedChannel S)
    → List ChannelLeft → Type 0
SayLeft left channels old = map (said_by left) channels ≡ map said_of old

-- the element at this index has the next piece: none goes ahead of it
pub record IsLeastIn {X : Type 0} (head : X → Head) (channel : X → ℕ) (xs : List X) (at : ℕ)
    : Type 0 where
  pub least : X
  pub there : slice_get xs at ≡ Some least
  pub some : head least ≢ End
  pub ahead : All (λ x. is_ahead (head x) (channel x) (head least) (channel least) ≡ false) xs

-- what has a place in the file, as data
abbrev pub placed_data : {P : Type 0} → (P → FilePiece) → Placed P → Merged
placed_data data_of (Time tick) = OfTime tick
placed_data data_of (Piece channel piece) = OfPiece channel (data_of piece)

-- one step of the merge, and what is left behind it
abbrev pub Places : (tick : ℕ) → (old : List ChannelLeft) → Merged → (new : List ChannelLeft)
    → Type 0
Places tick old (OfTime time) new = (time ≡ tick) × TimeIsNext tick old × (new ≡ old)
Places tick old (OfPiece channel piece) new = PieceIsNext tick old channel piece new

-- what comes next: nothing where nothing is left
abbrev pub Answers : {P : Type 0} → (P → FilePiece) → (tick : ℕ) → (old : List ChannelLeft)
    → Option (Placed P) → (new : List ChannelLeft) → Type 0
Answers data_of tick old (Some placed) new = Places tick old (placed_data data_of placed) new
Answers data_of tick old None new = NothingLeft old × (new ≡ old)

-- the next piece of these channels stands there
pub record StandsNext (old : List ChannelLeft) (next : NextPiece) : Type 0 where
  pub at : ℕ
  pub of : ChannelLeft
  pub is_next : IsNextAt old at of
  pub head_is : next.head ≡ head_of of.pieces
  pub place_is : StandsFirst of.pieces next.place

-- where the next piece stands, if anything is left
abbrev pub IsNextPiece : List ChannelLeft → Option NextPiece → Type 0
IsNextPiece old (Some next) = StandsNext old next
IsNextPiece old None = NothingLeft old
