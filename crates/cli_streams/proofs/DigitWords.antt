-- What `parse` answers at a word of decimal digits.
use Rattle.std.proofs.Common.{◌≡◌, ℕ, ◌^◌, ◌≤◌, Bool, true, false, List, get_or, refl, sym, ◌∙◌, arith, true≢false}
use Rattle.std.specs.Prelude.{◌==◌, ◌≢◌, nat_lt, Ok, Err}
use Rattle.std.specs.Str.Parse.{ParsesUnsigned}
use Rattle.std.proofs.lemmas.Bool.{eq-eqb, ltb-true, ltb-false}
use Rattle.std.proofs.lemmas.Str.Parse.{IsDigitsTest, WeighsDigits, IsNumeralModel, numerals_by_weight, parse_plain, parse_gives}
use Rattle.cli_streams.specs.Digits.{AreDecimalDigits, number_written, SaysNumber}

tests_digits : IsDigitsTest AreDecimalDigits
tests_digits = record { empty = tt; parts = λ c cs are. are; more = λ c cs is are. (is, are) }

weighs_digits : WeighsDigits number_written
weighs_digits = record { empty = refl; more = λ c cs is. refl }

digit_words : IsNumeralModel AreDecimalDigits number_written
digit_words = numerals_by_weight AreDecimalDigits tests_digits number_written weighs_digits

-- the first byte is no plus
no_plus : (word : List ℕ) → false ≡ (get_or word 0 0 == 43) → get_or word 0 0 ≢ 43
no_plus word isnt = λ is. true≢false (sym (eq-eqb (get_or word 0 0) 43 is) ∙ sym isnt)

-- the number that is read is the one that is said
pub read_is_said : (bits : ℕ) (word : List ℕ) (number : ℕ) → false ≡ (get_or word 0 0 == 43) → ParsesUnsigned {E = ℕ} bits 10 word (Ok number)
    → SaysNumber word number
read_is_said bits word number isnt parsed =
    let is = parse_plain digit_words {E = ℕ} bits word (Ok number) parsed (no_plus word isnt) in
    record { some = is.0.1; digits = is.0.0; value = sym is.1 }

-- where none is read, the number that is said is too great
pub unread_is_great : {E : Type 0} (bits : ℕ) (word : List ℕ) (error : E) → ParsesUnsigned bits 10 word (Err error)
    → (number : ℕ) → SaysNumber word number → 2 ^ bits ≤ number
unread_is_great bits word error parsed number says = by_size (nat_lt number (2 ^ bits)) refl
  where
    err_isnt_ok : Err error ≡ Ok (number_written word) → ⊥
    err_isnt_ok same = cc

    by_size : (b : Bool) → nat_lt number (2 ^ bits) ≡ b → 2 ^ bits ≤ number
    by_size false great = ltb-false number (2 ^ bits) great
    by_size true less =
        let small = ltb-true number (2 ^ bits) less in
        absurd (err_isnt_ok (parse_gives digit_words bits word (Err error) parsed says.digits says.some (let is = says.value in omega (arith, is, small))))

-- a word says one number
pub one_number : (word : List ℕ) (number other : ℕ) → SaysNumber word number → SaysNumber word other → number ≡ other
one_number word number other says also = sym says.value ∙ also.value
