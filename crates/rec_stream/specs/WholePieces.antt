-- Pieces of which no part stays behind: records.
use Rattle.std.specs.Prelude.{ℕ, ◌≡◌, []}
use Rattle.ch11_merge.specs.Merging.{FilePiece, part_before, part_from}

-- no part of the piece stays behind
abbrev pub IsOnePart : FilePiece → Type 0
IsOnePart piece = (tick : ℕ) → (part_before tick piece ≡ piece) × (part_from tick piece ≡ [])
