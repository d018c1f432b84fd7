-- A channel's ring.
use Rattle.std.specs.Prelude.{ℕ, ◌≤◌, List, [], ◌∷◌, ◌++◌, drop}
use Rattle.rec_lane.specs.Pieces.{PieceData}

-- how many pieces it has room for, and those in it
pub record RingState : Type 0 where
  pub places : ℕ
  pub pieces : List PieceData

abbrev pub empty_ring : ℕ → RingState
empty_ring places = record { places = places; pieces = [] }

-- with a piece more behind the others
abbrev pub with_piece : RingState → PieceData → RingState
with_piece ring piece = record ring { pieces = ring.pieces ++ piece ∷ [] }

-- without its first piece
abbrev pub without_first : RingState → RingState
without_first ring = record ring { pieces = drop 1 ring.pieces }

-- what its fields hold: there are not more pieces than places, and memory for as many
pub record IsRing (places len room : ℕ) : Type 0 where
  pub within : len ≤ places
  pub enough : places ≤ room
