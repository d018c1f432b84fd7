-- Parts of a text with their offsets: what lies between cuts, and what is left without the ends.
use Rattle.std.specs.Prelude.{ℕ, ◌+◌, ◌-◌, Bool, true, false, not, if◌then◌else◌, List, [], ◌∷◌}
use Rattle.std.specs.Prelude.{filter, length, take, drop}
use Rattle.std.specs.List.{prefix_len, suffix_len}

-- a part of a text: the offset of its first byte in the text, and its bytes
pub record Part : Type 0 where
  pub at : ℕ
  pub bytes : List ℕ

abbrev pub is_empty : List ℕ → Bool
is_empty [] = true
is_empty (b ∷ bs) = false

-- the parts, where the first one has one more byte in front
abbrev pub with_byte : ℕ → ℕ → List Part → List Part
with_byte at b [] = record { at = at; bytes = b ∷ [] } ∷ []
with_byte at b (part ∷ parts) = record { at = at; bytes = b ∷ part.bytes } ∷ parts

-- what lies before, between and after the picked bytes of a text that begins at this offset; a part
-- may be empty
abbrev pub cut : (ℕ → Bool) → ℕ → List ℕ → List Part
cut picks at [] = record { at = at; bytes = [] } ∷ []
cut picks at (b ∷ bs) =
    if picks b then record { at = at; bytes = [] } ∷ cut picks (at + 1) bs
    else with_byte at b (cut picks (at + 1) bs)

-- the parts that have a byte
abbrev pub non_empty : List Part → List Part
non_empty parts = filter (λ part. not (is_empty part.bytes)) parts

-- bytes without the picked ones at their end
abbrev pub without_end : (ℕ → Bool) → List ℕ → List ℕ
without_end picks bytes =
    take (length bytes - suffix_len picks bytes) bytes

-- a part without the picked bytes at both ends
abbrev pub without_ends : (ℕ → Bool) → Part → Part
without_ends picks part =
    let front = prefix_len picks part.bytes in
    record { at = part.at + front; bytes = without_end picks (drop front part.bytes) }
