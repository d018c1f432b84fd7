-- Letters, digits and _ in a line: they are one token as far as they go.
use Rattle.std.proofs.Common.{ℕ, ◌≡◌, ◌⊎◌, inl, inr, true, false, ◌&&◌, eqb, List, [], ◌∷◌, ◌++◌, refl, sym, ◌∙◌, ap}
use Rattle.std.specs.Char.{is_ascii_digit}
use Rattle.std.specs.List.{list_all}
use Rattle.std.proofs.lemmas.Bool.{cases_Bool, both_ways, and_parts, and_from, and_left, and_right, or_from, or_left, ne_eqb}
use Rattle.bpf_asm.specs.Blanked.{with_first_byte}
use Rattle.bpf_asm.specs.Tokens.{is_text_blank, is_word, are_joined, lexemes}
use Rattle.bpf_asm.specs.Lexing.{NoWordFirst}

abbrev pub AreWords : List ℕ → Type 0
AreWords bs = list_all is_word bs ≡ true

pub digit_word : (b : ℕ) → is_ascii_digit b ≡ true → is_word b ≡ true
digit_word b e = or_left _ _ (or_left _ _ (or_left _ _ e))

-- a byte of a word is none that the test of words refuses
pub word_apart : (b c : ℕ) → is_word b ≡ true → is_word c ≡ false → eqb b c ≡ false
word_apart b c word other = ne_eqb b c (λ e. both_ways (is_word c) other (sym (ap is_word e) ∙ word))

word_solid : (b : ℕ) → is_word b ≡ true → is_text_blank b ≡ false
word_solid b word = or_from _ _ (or_from _ _ (word_apart b 32 word refl) (word_apart b 9 word refl)) (word_apart b 13 word refl)

no_digit : (c : ℕ) → is_word c ≡ false → (is_ascii_digit c ≡ true) ⊎ (is_ascii_digit c ≡ false) → is_ascii_digit c ≡ false
no_digit c other (inl digit) = absurd (both_ways (is_word c) other (digit_word c digit))
no_digit c other (inr none) = none

-- nothing joins a byte before which no word stands
ends : (b : ℕ) (rest : List ℕ) → NoWordFirst rest → are_joined b rest ≡ false
ends b [] none = refl
ends b (c ∷ rest) none = or_from _ _ (and_right (is_word b) _ none) (and_right (eqb b 45) _ (no_digit c none (cases_Bool _)))

-- a word is one token
pub word_lexeme : (b : ℕ) (word rest : List ℕ) → AreWords (b ∷ word) → NoWordFirst rest → lexemes (b ∷ (word ++ rest)) ≡ (b ∷ word) ∷ lexemes rest
word_lexeme b [] rest h none =
    let first = and_parts (is_word b) true h in
    rw (word_solid b first.0, ends b rest none) refl
word_lexeme b (c ∷ word) rest h none =
    let first = and_parts (is_word b) (is_word c && list_all is_word word) h in
    let second = and_parts (is_word c) (list_all is_word word) first.1 in
    let together : are_joined b (c ∷ (word ++ rest)) ≡ true = or_left _ _ (and_from (is_word b) (is_word c) first.0 second.0) in
    rw (word_solid b first.0, together) (ap (with_first_byte b) (word_lexeme c word rest first.1 none))

-- a byte that is no blank, no minus and of no word is a token by itself
apart : (c : ℕ) (rest : List ℕ) → is_word c ≡ false → eqb c 45 ≡ false → are_joined c rest ≡ false
apart c [] other minus = refl
apart c (d ∷ rest) other minus = or_from _ _ (and_left _ (is_word d) other) (and_left _ (is_ascii_digit d) minus)

pub sign_lexeme : (c : ℕ) (rest : List ℕ) → is_text_blank c ≡ false → is_word c ≡ false → eqb c 45 ≡ false → lexemes (c ∷ rest) ≡ (c ∷ []) ∷ lexemes rest
sign_lexeme c rest solid other minus = rw (solid, apart c rest other minus) refl
