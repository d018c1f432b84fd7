-- What a text is once its comments are blanks, said by the comments that it is put together from.
use Rattle.std.specs.Prelude.{ℕ, ◌≡◌, false, codes, List, [], ◌∷◌, ◌++◌, map, ◌≢◌}
use Rattle.bpf_asm.specs.Blanked.{begins_with, blank_of}

-- the bytes of a comment as blanks
abbrev pub blanks : List ℕ → List ℕ
blanks bytes = map blank_of bytes

-- a star and a slash stand nowhere in these bytes
abbrev pub HasNoEnd : List ℕ → Type 0
HasNoEnd [] = Unit {0}
HasNoEnd (b ∷ bs) = (begins_with (b ∷ bs) (codes "*/") ≡ false) × HasNoEnd bs

-- no line feed stands in these bytes
abbrev pub IsOneLine : List ℕ → Type 0
IsOneLine [] = Unit {0}
IsOneLine (b ∷ bs) = (b ≢ 10) × IsOneLine bs

-- a line ends here: with the text, or by a line feed
abbrev pub IsAtLineEnd : List ℕ → Type 0
IsAtLineEnd [] = Unit {0}
IsAtLineEnd (b ∷ bs) = b ≡ 10

-- a text, and what it is with its comments blanked
pub data Blanks : List ℕ → List ℕ → Type 0 where
  -- nothing
  Nothing : Blanks [] []
  -- a byte that begins no comment, and the rest
  Byte : (b : ℕ) (rest shown : List ℕ) → b ≢ 59 → begins_with (b ∷ rest) (codes "/*") ≡ false
      → Blanks rest shown → Blanks (b ∷ rest) (b ∷ shown)
  -- a semicolon with what follows it in its line, and the rest
  LineComment : (inside rest shown : List ℕ) → IsOneLine inside → IsAtLineEnd rest
      → Blanks rest shown → Blanks (59 ∷ (inside ++ rest)) (blanks (59 ∷ inside) ++ shown)
  -- a slash and a star, what stands before the next star and slash, these two, and the rest; the
  -- star of the one is not that of the other
  Comment : (inside rest shown : List ℕ) → HasNoEnd (inside ++ 42 ∷ []) → Blanks rest shown
      → Blanks (codes "/*" ++ (inside ++ (codes "*/" ++ rest)))
      (blanks (codes "/*" ++ (inside ++ codes "*/")) ++ shown)
  -- a slash and a star that no star and slash follow: the slash stays, and it is no byte that a
  -- line may have
  OpenComment : (inside : List ℕ) → HasNoEnd inside
      → Blanks (codes "/*" ++ inside) (47 ∷ blanks (42 ∷ inside))
