-- The part of a packet's frames that goes out in one piece, and what is left of the packet.
use Rattle.std.specs.Prelude.{ℕ, ◌≡◌, ◌-◌, ◌≤◌, List, length, take, drop}
use Rattle.ch11_packet.specs.FramesRead.{first_reads}
use Rattle.ch11_merge.specs.declared.piece.PieceSoFar.{PieceSoFar}
use Rattle.ch11_merge.specs.Parts.{IsPartOf}
use Rattle.ch11_merge.specs.Merging.FilePiece.{OfFrames}
use Rattle.ch11_file.specs.OwnedPieces.{owned_data}
use Rattle.rec_pieces.specs.declared.part.PartTaken.{PartTaken}

-- of `count` frames in these bytes, of the packet at a place, of which the first belongs to a
-- piece, the first ones up to the tick were taken, and these are left
pub record IsPartTaken (tick place : ℕ) (ahead : PieceSoFar) (count : ℕ) (bytes : List ℕ)
    (part : PartTaken) : Type 0 where
  pub taken : ℕ
  pub is_part : IsPartOf tick ahead (first_reads count bytes) taken part.ahead
  pub piece : owned_data part.piece ≡ OfFrames place (take taken (first_reads count bytes))
  pub within : part.len ≤ length bytes
  pub left : first_reads part.count (drop (length bytes - part.len) bytes) ≡ drop taken
      (first_reads count bytes)
