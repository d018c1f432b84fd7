-- Numbers as bytes at a place, the lowest byte first.
use Rattle.std.specs.Prelude.{ℕ, ◌+◌, ◌<◌, List, [], ◌∷◌, slice_index}
use Rattle.std.specs.Int.{w16, w32, w64, from_le_bytes}

-- each element is a byte
abbrev pub AreBytes : List ℕ → Type 0
AreBytes bytes = (i : ℕ) → slice_index bytes i < 256

-- the number of the two bytes at a place
abbrev pub u16_at : List ℕ → ℕ → ℕ
u16_at bytes at = from_le_bytes w16 (slice_index bytes at ∷ slice_index bytes (at + 1) ∷ [])

-- the number of the four bytes at a place
abbrev pub u32_at : List ℕ → ℕ → ℕ
u32_at bytes at =
    from_le_bytes w32 (slice_index bytes at ∷ slice_index bytes (at + 1)
    ∷ slice_index bytes (at + 2) ∷ slice_index bytes (at + 3) ∷ [])

-- the number of the six bytes at a place
abbrev pub u48_at : List ℕ → ℕ → ℕ
u48_at bytes at =
    from_le_bytes w64 (slice_index bytes at ∷ slice_index bytes (at + 1)
    ∷ slice_index bytes (at + 2) ∷ slice_index bytes (at + 3)
    ∷ slice_index bytes (at + 4) ∷ slice_index bytes (at + 5) ∷ 0 ∷ 0 ∷ [])

-- the number of the eight bytes at a place
abbrev pub u64_at : List ℕ → ℕ → ℕ
u64_at bytes at =
    from_le_bytes w64 (slice_index bytes at ∷ slice_index bytes (at + 1)
    ∷ slice_index bytes (at + 2) ∷ slice_index bytes (at + 3)
    ∷ slice_index bytes (at + 4) ∷ slice_index bytes (at + 5)
    ∷ slice_index bytes (at + 6) ∷ slice_index bytes (at + 7) ∷ [])
