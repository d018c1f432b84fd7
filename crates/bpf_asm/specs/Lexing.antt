-- The tokens of a line, said by how the line is put together from them.
use Rattle.std.specs.Prelude.{ℕ, ◌≡◌, true, false, List, [], ◌∷◌, ◌++◌}
use Rattle.std.specs.Char.{is_ascii_digit}
use Rattle.bpf_asm.specs.Tokens.{is_text_blank, is_word}

-- letters, digits and _ alone
abbrev pub IsWords : List ℕ → Type 0
IsWords [] = Unit {0}
IsWords (b ∷ bs) = (is_word b ≡ true) × IsWords bs

-- no letter, digit or _ stands in front
abbrev pub NoWordFirst : List ℕ → Type 0
NoWordFirst [] = Unit {0}
NoWordFirst (b ∷ bs) = is_word b ≡ false

-- no digit stands in front
abbrev pub NoDigitFirst : List ℕ → Type 0
NoDigitFirst [] = Unit {0}
NoDigitFirst (b ∷ bs) = is_ascii_digit b ≡ false

-- a line, and the spellings of its tokens
pub data Spells : List ℕ → List (List ℕ) → Type 0 where
  -- nothing
  Nothing : Spells [] []
  -- a blank, and the rest
  Blank : (b : ℕ) (rest : List ℕ) (lexemes : List (List ℕ)) → is_text_blank b ≡ true
      → Spells rest lexemes → Spells (b ∷ rest) lexemes
  -- a letter, a digit or _, with all of them that follow, and the rest
  Word : (b : ℕ) (word rest : List ℕ) (lexemes : List (List ℕ)) → is_word b ≡ true
      → IsWords word → NoWordFirst rest → Spells rest lexemes
      → Spells (b ∷ (word ++ rest)) ((b ∷ word) ∷ lexemes)
  -- a minus and a digit right after it, with all letters, digits and _ that follow, and the rest
  Minus : (d : ℕ) (word rest : List ℕ) (lexemes : List (List ℕ)) → is_ascii_digit d ≡ true
      → IsWords word → NoWordFirst rest → Spells rest lexemes
      → Spells (45 ∷ d ∷ (word ++ rest)) ((45 ∷ d ∷ word) ∷ lexemes)
  -- any other byte by itself, a minus only where no digit follows it
  Single : (b : ℕ) (rest : List ℕ) (lexemes : List (List ℕ)) → is_text_blank b ≡ false
      → is_word b ≡ false → (b ≡ 45 → NoDigitFirst rest) → Spells rest lexemes
      → Spells (b ∷ rest) ((b ∷ []) ∷ lexemes)
