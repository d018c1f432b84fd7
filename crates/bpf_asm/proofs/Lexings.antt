-- A line is put together from its tokens and blanks.
use Rattle.std.proofs.Common.{ℕ, zero, suc, ◌≡◌, ◌≤◌, ◌⊎◌, inl, inr, true, false, ◌&&◌, eqb, List, [], ◌∷◌}
use Rattle.std.proofs.Common.{◌++◌, length, refl, sym, ◌∙◌, ap, arith, subst, length-append}
use Rattle.std.specs.Char.{is_ascii_digit}
use Rattle.std.proofs.lemmas.Bool.{cases_Bool, eqb-true, eq-eqb, both_ways, and_left, and_right, and_from, or_from, or_left}
use Rattle.bpf_asm.specs.Blanked.{with_first_byte}
use Rattle.bpf_asm.specs.Tokens.{is_text_blank, is_word, are_joined, lexemes}
use Rattle.bpf_asm.specs.Lexing.{IsWords, NoWordFirst, NoDigitFirst, Spells}
use Rattle.bpf_asm.specs.Lexing.Spells.{Nothing, Blank, Word, Minus, Single}
use Rattle.bpf_asm.proofs.Lexemes.{digit_word, joins_none, single, joined, word_solid}

run_word : (b : ℕ) (word rest : List ℕ) → is_word b ≡ true → IsWords word → NoWordFirst rest → lexemes (b ∷ (word ++ rest)) ≡ (b ∷ word) ∷ lexemes rest
run_word b [] rest e words none = single b rest (word_solid b e) (joins_none b rest none)
run_word b (c ∷ word) rest e words none =
    let together : are_joined b (c ∷ (word ++ rest)) ≡ true = or_left _ _ (and_from _ _ e words.0) in
    joined b (c ∷ (word ++ rest)) (word_solid b e) together ∙ ap (with_first_byte b) (run_word c word rest words.0 words.1 none)

run_minus : (d : ℕ) (word rest : List ℕ) → is_ascii_digit d ≡ true → IsWords word → NoWordFirst rest
    → lexemes (45 ∷ d ∷ (word ++ rest)) ≡ (45 ∷ d ∷ word) ∷ lexemes rest
run_minus d word rest e words none = joined 45 (d ∷ (word ++ rest)) refl e ∙ ap (with_first_byte 45) (run_word d word rest (digit_word d e) words none)

minus_cases : (b c : ℕ) (rest : List ℕ) → (b ≡ 45 → is_ascii_digit c ≡ false) → (eqb b 45 ≡ true) ⊎ (eqb b 45 ≡ false)
    → (eqb b 45 && is_ascii_digit c) ≡ false
minus_cases b c rest minus (inl e) = and_right (eqb b 45) _ (minus (eqb-true b 45 e))
minus_cases b c rest minus (inr e) = and_left _ (is_ascii_digit c) e

apart_from : (b : ℕ) (rest : List ℕ) → is_word b ≡ false → (b ≡ 45 → NoDigitFirst rest) → are_joined b rest ≡ false
apart_from b [] other minus = refl
apart_from b (c ∷ rest) other minus = or_from _ _ (and_left _ (is_word c) other) (minus_cases b c rest minus (cases_Bool (eqb b 45)))

-- a line that is put together so has these tokens
pub spelled_is : (line : List ℕ) (ls : List (List ℕ)) → Spells line ls → lexemes line ≡ ls
spelled_is line ls Nothing = refl
spelled_is line ls (Blank b rest after blank d) = rw blank (spelled_is rest after d)
spelled_is line ls (Word b word rest after e words none d) = run_word b word rest e words none ∙ ap (λ xs. (b ∷ word) ∷ xs) (spelled_is rest after d)
spelled_is line ls (Minus d word rest after e words none h) = run_minus d word rest e words none ∙ ap (λ xs. (45 ∷ d ∷ word) ∷ xs) (spelled_is rest after h)
spelled_is line ls (Single b rest after solid other minus d) =
    single b rest solid (apart_from b rest other minus) ∙ ap (λ xs. (b ∷ []) ∷ xs) (spelled_is rest after d)

-- The letters, digits and _ in front, and the rest.
record WordSplit (bs : List ℕ) : Type 0 where
  word : List ℕ
  rest : List ℕ
  whole : bs ≡ word ++ rest
  words : IsWords word
  none : NoWordFirst rest

split_cases : (b : ℕ) (bs : List ℕ) → WordSplit bs → (is_word b ≡ true) ⊎ (is_word b ≡ false) → WordSplit (b ∷ bs)
split_cases b bs more (inl e) = record {
  word = b ∷ more.word;
  rest = more.rest;
  whole = ap (λ xs. b ∷ xs) more.whole;
  words = (e, more.words);
  none = more.none;
}
split_cases b bs more (inr e) = record { word = []; rest = b ∷ bs; whole = refl; words = tt; none = e }

split_word : (bs : List ℕ) → WordSplit bs
split_word [] = record { word = []; rest = []; whole = refl; words = tt; none = tt }
split_word (b ∷ bs) = split_cases b bs (split_word bs) (cases_Bool (is_word b))

-- shorter lines are put together so
abbrev Shorter : ℕ → Type 0
Shorter n = (cs : List ℕ) → length cs ≤ n → Spells cs (lexemes cs)

so : (line : List ℕ) (ls ls' : List (List ℕ)) → ls ≡ ls' → Spells line ls' → Spells line ls
so line ls ls' e h = let P : List (List ℕ) → Type 0 = λ xs. Spells line xs in subst P (sym e) h

word_spelled : (b : ℕ) (bs : List ℕ) → Shorter (length bs) → is_word b ≡ true → Spells (b ∷ bs) (lexemes (b ∷ bs))
word_spelled b bs shorter e =
    let d = split_word bs in
    let short : length d.rest ≤ length bs = omega (arith, ap length d.whole, length-append d.word d.rest) in
    let P : List ℕ → Type 0 = λ xs. Spells (b ∷ xs) (lexemes (b ∷ xs)) in
    subst P (sym d.whole) (so _ _ _ (run_word b d.word d.rest e d.words d.none)
    (Word b d.word d.rest (lexemes d.rest) e d.words d.none (shorter d.rest short)))

minus_spelled : (c : ℕ) (bs : List ℕ) → Shorter (suc (length bs)) → is_ascii_digit c ≡ true → Spells (45 ∷ c ∷ bs) (lexemes (45 ∷ c ∷ bs))
minus_spelled c bs shorter e =
    let d = split_word bs in
    let short : length d.rest ≤ suc (length bs) = omega (arith, ap length d.whole, length-append d.word d.rest) in
    let P : List ℕ → Type 0 = λ xs. Spells (45 ∷ c ∷ xs) (lexemes (45 ∷ c ∷ xs)) in
    subst P (sym d.whole) (so _ _ _ (run_minus c d.word d.rest e d.words d.none)
    (Minus c d.word d.rest (lexemes d.rest) e d.words d.none (shorter d.rest short)))

single_spelled : (b : ℕ) (bs : List ℕ) → Shorter (length bs) → is_text_blank b ≡ false → is_word b ≡ false → (b ≡ 45 → NoDigitFirst bs)
    → Spells (b ∷ bs) (lexemes (b ∷ bs))
single_spelled b bs shorter solid other minus =
    so _ _ _ (single b bs solid (apart_from b bs other minus)) (Single b bs (lexemes bs) solid other minus (shorter bs (omega arith)))

digit_cases : (b c : ℕ) (bs : List ℕ) → Shorter (suc (length bs)) → is_text_blank b ≡ false → is_word b ≡ false → (eqb b 45 ≡ true) ⊎ (eqb b 45 ≡ false)
    → (is_ascii_digit c ≡ true) ⊎ (is_ascii_digit c ≡ false) → Spells (b ∷ c ∷ bs) (lexemes (b ∷ c ∷ bs))
digit_cases b c bs shorter solid other (inl minus) (inl digit) =
    let P : ℕ → Type 0 = λ x. Spells (x ∷ c ∷ bs) (lexemes (x ∷ c ∷ bs)) in
    subst P (sym (eqb-true b 45 minus)) (minus_spelled c bs shorter digit)
digit_cases b c bs shorter solid other (inl minus) (inr none) = single_spelled b (c ∷ bs) shorter solid other (λ _. none)
digit_cases b c bs shorter solid other (inr fails) digit = single_spelled b (c ∷ bs) shorter solid other (λ e. absurd (both_ways _ fails (eq-eqb b 45 e)))

other_spelled : (b : ℕ) (bs : List ℕ) → Shorter (length bs) → is_text_blank b ≡ false → is_word b ≡ false → Spells (b ∷ bs) (lexemes (b ∷ bs))
other_spelled b [] shorter solid other = single_spelled b [] shorter solid other (λ _. tt)
other_spelled b (c ∷ bs) shorter solid other = digit_cases b c bs shorter solid other (cases_Bool _) (cases_Bool _)

begin_cases : (b : ℕ) (bs : List ℕ) → Shorter (length bs) → (is_text_blank b ≡ true) ⊎ (is_text_blank b ≡ false) → (is_word b ≡ true) ⊎ (is_word b ≡ false)
    → Spells (b ∷ bs) (lexemes (b ∷ bs))
begin_cases b bs shorter (inl blank) word = so _ _ (lexemes bs) (rw blank refl) (Blank b bs (lexemes bs) blank (shorter bs (omega arith)))
begin_cases b bs shorter (inr solid) (inl word) = word_spelled b bs shorter word
begin_cases b bs shorter (inr solid) (inr other) = other_spelled b bs shorter solid other

upto : (n : ℕ) (bs : List ℕ) → length bs ≤ n → Spells bs (lexemes bs)
upto n [] h = Nothing
upto zero (b ∷ bs) h = absurd (omega (arith, h))
upto (suc n) (b ∷ bs) h = begin_cases b bs (λ cs short. upto n cs (omega (arith, short, h))) (cases_Bool _) (cases_Bool _)

-- a line is put together so from its tokens
pub line_spelled : (line : List ℕ) → Spells line (lexemes line)
line_spelled line = upto (length line) line (omega arith)
