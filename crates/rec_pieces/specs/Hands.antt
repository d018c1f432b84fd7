-- What is left of a packet of frames.
use Rattle.std.specs.Prelude.{ℕ, ◌≤◌, List, length, drop}
use Rattle.ch11_packet.specs.FramesRead.{first_reads, AreFrames}
use Rattle.ch11_merge.specs.declared.piece.PieceSoFar.{PieceSoFar}
use Rattle.ch11_merge.specs.Merging.{FilePiece}
use Rattle.ch11_merge.specs.Parts.{pieces_left}
use Rattle.rec_pieces.specs.BodiesSoFar.{IsBodySoFar}

-- its pieces, of so many frames from this byte of its data on
unfoldable pub pieces_in_hand : (place : ℕ) → (ahead : PieceSoFar) → (count at : ℕ) → List ℕ
    → List FilePiece
pieces_in_hand place ahead count at bytes =
    pieces_left place ahead (first_reads count (drop at bytes))

-- so many frames stand there
pub record IsInHand (ahead : PieceSoFar) (count at : ℕ) (bytes : List ℕ) : Type 0 where
  pub within : at ≤ length bytes
  pub held : ∥ AreFrames count (drop at bytes) ∥₁
  pub body : IsBodySoFar ahead
