-- A number in decimal is one token of a line, and that number.
use Rattle.std.proofs.Common.{ℕ, ◌<◌, ◌≤◌, ◌^◌, ◌≡◌, ◌⊎◌, inl, inr, true, false, eqb, leb, List, [], ◌∷◌}
use Rattle.std.proofs.Common.{length, get_or, decimal, Some, Ok, refl, sym, ap, subst, arith}
use Rattle.std.specs.Char.{is_ascii_digit}
use Rattle.std.specs.Str.Parse.{AllDigits, digits_value}
use Rattle.std.proofs.lemmas.Bool.{cases_eq, and_from, le-leb, lt-ltb, ne_eqb}
use Rattle.std.proofs.lemmas.Fmt.{decimal_is_IsNumeral, decimal_digit, first_decimal}
use Rattle.std.proofs.lemmas.Str.Parse.{digit_from_value}
use Rattle.bpf_asm.specs.Tokens.{token_of, number_token}
use Rattle.bpf_asm.specs.Tokens.Token.{NumberToken}
use Rattle.bpf_asm.specs.Numbers.{are_digits, spelled_number}
use Rattle.bpf_dis.proofs.WordTokens.{AreWords, digit_word}

digit_is : (b : ℕ) (bs : List ℕ) → AllDigits 10 (b ∷ bs) → is_ascii_digit b ≡ true
digit_is b bs h = let range = digit_from_value b h.0 in and_from _ _ (le-leb 48 b range.0) (le-leb b 57 range.1)

digits_words : (bs : List ℕ) → AllDigits 10 bs → AreWords bs
digits_words [] h = refl
digits_words (b ∷ bs) h = and_from _ _ (digit_word b (digit_is b bs h)) (digits_words bs h.1)

digits_are : (bs : List ℕ) → AllDigits 10 bs → are_digits 10 bs ≡ true
digits_are [] h = refl
digits_are (b ∷ bs) h = and_from _ _ (lt-ltb _ 10 h.0) (digits_are bs h.1)

-- digits, a first one that isn't 0, and their value
number_read : (b : ℕ) (bs : List ℕ) (n : ℕ) → AllDigits 10 (b ∷ bs) → 48 < b → digits_value 10 (b ∷ bs) ≡ n → n ≤ 4294967295 → spelled_number (b ∷ bs) ≡ Some n
number_read b bs n digits first value within =
    let minus : eqb b 45 ≡ false = ne_eqb b 45 (λ e. absurd (omega (arith, e, first))) in
    let zero_ : eqb b 48 ≡ false = ne_eqb b 48 (λ e. absurd (omega (arith, e, first))) in
    let small : leb (digits_value 10 (b ∷ bs)) 4294967295 ≡ true = le-leb _ _ (omega (arith, value, within)) in
    rw (minus, zero_) (rw (digits_are (b ∷ bs) digits, small) (ap Some value))

number_is : (b : ℕ) (bs : List ℕ) (n : ℕ) → AllDigits 10 (b ∷ bs) → spelled_number (b ∷ bs) ≡ Some n → token_of (b ∷ bs) ≡ Ok (NumberToken n)
number_is b [] n digits e = rw (digit_is b [] digits) (ap number_token e)
number_is b (c ∷ bs) n digits e = rw (digit_is b (c ∷ bs) digits) (ap number_token e)

digits_token : (ds : List ℕ) (n : ℕ) → AllDigits 10 ds → 48 < get_or ds 0 0 → digits_value 10 ds ≡ n → n ≤ 4294967295 → token_of ds ≡ Ok (NumberToken n)
digits_token [] n digits first value within = absurd (omega (arith, first))
digits_token (b ∷ bs) n digits first value within = number_is b bs n digits (number_read b bs n digits first value within)

token_cases : (n : ℕ) → n ≤ 4294967295 → (n ≡ 0) ⊎ (n ≡ 0 → ⊥) → token_of (decimal n) ≡ Ok (NumberToken n)
token_cases n within (inl e) =
    let P : ℕ → Type 0 = λ k. token_of (decimal k) ≡ Ok (NumberToken k) in
    subst P (sym e) (ap token_of (decimal_digit 0 (omega arith)))
token_cases n within (inr some) =
    let small : n < 2 ^ 64 = omega (arith, within) in
    let numeral_ = decimal_is_IsNumeral n small in
    let above : 0 < n = omega (arith, some) in
    digits_token (decimal n) n numeral_.0.1 (first_decimal n above small) numeral_.1 within

-- a number of 32 bits in decimal is that number's token
pub decimal_token : (n : ℕ) → n ≤ 4294967295 → token_of (decimal n) ≡ Ok (NumberToken n)
decimal_token n within = token_cases n within (cases_eq n 0)

-- a number in decimal has a digit, and digits alone
pub decimal_words : (n : ℕ) → n < 2 ^ 64 → (0 < length (decimal n)) × AreWords (decimal n)
decimal_words n small = let numeral_ = decimal_is_IsNumeral n small in (numeral_.0.0, digits_words (decimal n) numeral_.0.1)
