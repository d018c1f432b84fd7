-- A piece that is taken of a channel: what is in hand, and what is still to come.
use Rattle.std.proofs.Common.{ℕ, ◌≡◌, ◌≢◌, ◌≤◌, List, [], ◌∷◌, ◌++◌, length, Option, None, Some}
use Rattle.std.proofs.Common.{sym, ◌∙◌, ap, subst, append_assoc}
use Rattle.std.specs.Prelude.{IfSome}
use Rattle.std.specs.List.{flat_map}
use Rattle.std.proofs.lemmas.List.{drop_all}
use Rattle.ch11_merge.specs.declared.source.Head.TheVariants.{End}
use Rattle.ch11_merge.specs.Merging.{FilePiece, StandsFirst, head_of, TakesPart, part_from}
use Rattle.rec_pieces.specs.declared.entry.PieceEntry.{PieceEntry}
use Rattle.rec_pieces.specs.declared.hand.InHand.{InHand}
use Rattle.rec_pieces.specs.Entries.{PacketPlaces, pieces_at}
use Rattle.rec_pieces.specs.Sources.{hand_pieces, pieces_held, pieces_to_come, source_state, stands_by}

-- what comes behind the pieces stays
takes_ahead : (tick : ℕ) (old : List FilePiece) (piece : FilePiece) (new rest : List FilePiece) → TakesPart tick old piece new
    → TakesPart tick (old ++ rest) piece (new ++ rest)
takes_ahead tick [] piece new rest taken = absurd taken
takes_ahead tick (p ∷ ps) piece new rest taken =
    (taken.0, ap (λ l. l ++ rest) taken.1 ∙ append_assoc (part_from tick p) ps rest)

-- the last piece in hand was taken
pub last_taken : (known : Option PacketPlaces) (come more : PacketPlaces → List FilePiece) (hand : List FilePiece) (tick : ℕ) (old : List FilePiece)
    (piece : FilePiece) (new : List FilePiece) → IfSome known (λ places. come places ≡ hand ++ more places) → TakesPart tick old piece new → new ≡ []
    → IfSome known (λ places. TakesPart tick (old ++ come places) piece (hand ++ more places))
last_taken None come more hand tick old piece new comes taken none = tt
last_taken (Some places) come more hand tick old piece new comes taken none =
    subst (λ l. TakesPart tick (old ++ come places) piece l) (ap (λ l. l ++ come places) none ∙ comes) (takes_ahead tick old piece new (come places) taken)

-- ---- a source

nothing_to_come : (entries : List PieceEntry) (next : ℕ) (places : PacketPlaces) → length entries ≤ next → pieces_to_come entries next places ≡ []
nothing_to_come entries next places all = ap (flat_map (pieces_at places)) (drop_all next entries all)

ends_there : (known : Option PacketPlaces) (entries : List PieceEntry) (next : ℕ) (hand : Option InHand)
    → (pieces_held hand ≡ [] → length entries ≤ next) → pieces_held hand ≡ []
    → stands_by (source_state known entries next hand).left (source_state known entries next hand).head ≡ End
ends_there None entries next hand fetched none = ap head_of none
ends_there (Some places) entries next hand fetched none =
    ap head_of (ap (λ l. l ++ pieces_to_come entries next places) none ∙ nothing_to_come entries next places (fetched none))

-- a source that isn't at its end has a piece in hand
pub some_in_source : (known : Option PacketPlaces) (entries : List PieceEntry) (next : ℕ) (slot : Option InHand) (hand : InHand) → Some hand ≡ slot
    → (pieces_held slot ≡ [] → length entries ≤ next)
    → stands_by (source_state known entries next slot).left (source_state known entries next slot).head ≢ End → hand_pieces hand ≢ []
some_in_source known entries next slot hand is fetched some none =
    some (ends_there known entries next slot fetched (ap pieces_held (sym is) ∙ none))

first_ahead : (pieces rest : List FilePiece) (place : ℕ) → StandsFirst pieces place → StandsFirst (pieces ++ rest) place
first_ahead [] rest place first = absurd first
first_ahead (p ∷ ps) rest place first = first

-- its first piece is of the packet in hand
pub first_in_source : (known : Option PacketPlaces) (entries : List PieceEntry) (next place : ℕ) (slot : Option InHand) (hand : InHand) → Some hand ≡ slot
    → StandsFirst (hand_pieces hand) place → IfSome (source_state known entries next slot).left (λ pieces. StandsFirst pieces place)
first_in_source None entries next place slot hand is first = tt
first_in_source (Some places) entries next place slot hand is first =
    first_ahead (pieces_held slot) (pieces_to_come entries next places) place (subst (λ s. StandsFirst (pieces_held s) place) is first)
