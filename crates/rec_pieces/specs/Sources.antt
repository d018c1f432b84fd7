-- What is left of a channel: what is in hand of a packet, and the packets that are still to be
-- read.
use Rattle.std.specs.Prelude.{ℕ, ◌≡◌, List, [], ◌∷◌, ◌++◌, drop, Option, None, Some, IfSome, refl}
use Rattle.std.specs.Option.{option_map}
use Rattle.std.specs.List.{flat_map}
use Rattle.ch11_merge.specs.declared.source.Head.{Head}
use Rattle.ch11_merge.specs.Merging.{FilePiece, head_of}
use Rattle.ch11_merge.specs.Merging.FilePiece.{OfRecord}
use Rattle.rec_pieces.specs.declared.entry.PieceEntry.{PieceEntry}
use Rattle.rec_pieces.specs.declared.hand.InHand.{InHand}
use Rattle.rec_pieces.specs.declared.hand.InHand.TheVariants.{Frames, Record}
use Rattle.rec_pieces.specs.Entries.{PacketPlaces, pieces_at}

-- ---- in hand

abbrev pub hand_pieces : InHand → List FilePiece
hand_pieces (Frames frames) = frames
hand_pieces (Record place body) = OfRecord place body.counter body.body ∷ []

abbrev pub pieces_held : Option InHand → List FilePiece
pieces_held None = []
pieces_held (Some hand) = hand_pieces hand

-- ---- still to be read

-- the pieces of the packets that entries name, from one on
abbrev pub pieces_to_come : List PieceEntry → (next : ℕ) → PacketPlaces → List FilePiece
pieces_to_come entries next places = flat_map (pieces_at places) (drop next entries)

-- ---- a source

-- its pieces, if its packets are known, and where it stands if not
pub record SourceState : Type 0 where
  pub left : Option (List FilePiece)
  pub head : Head

abbrev pub source_state : (known : Option PacketPlaces) → List PieceEntry → (next : ℕ)
    → Option InHand
    → SourceState
source_state known entries next hand = record {
  left = option_map (λ places. pieces_held hand ++ pieces_to_come entries next places) known;
  head = head_of (pieces_held hand);
}

-- where it stands
abbrev pub stands_by : Option (List FilePiece) → Head → Head
stands_by (Some pieces) head = head_of pieces
stands_by None head = head

pub stands_first : (left : Option (List FilePiece)) (head : Head)
    → IfSome left (λ pieces. stands_by left head ≡ head_of pieces)
stands_first (Some pieces) head = refl
stands_first None head = tt
