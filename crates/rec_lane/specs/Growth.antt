-- How the pieces of a channel grow: by few of them at a time.
use Rattle.std.specs.Prelude.{ℕ, ◌+◌, ◌≡◌, ◌≤◌, List, [], ◌∷◌, ◌++◌, length}
use Rattle.rec_lane.specs.Pieces.{PieceData}
use Rattle.rec_lane.specs.Pieces.PieceData.{OfFrames}

-- how many of the pieces are packets of frames
abbrev pub packets_in : List PieceData → ℕ
packets_in [] = 0
packets_in (OfFrames channel body ∷ pieces) = packets_in pieces + 1
packets_in (piece ∷ pieces) = packets_in pieces

-- the pieces are two at most, and one of them at most is a packet of frames
pub record AreFew (pieces : List PieceData) : Type 0 where
  pub two : length pieces ≤ 2
  pub one_packet : packets_in pieces ≤ 1

-- there are few pieces more than there were, behind the others
abbrev pub GrowsByFew : (old new : List PieceData) → Type 0
GrowsByFew old new = (more : List PieceData) × (new ≡ old ++ more) × AreFew more
