-- Reading a number digit by digit.
use Rattle.std.proofs.Common.{ℕ, ◌+◌, ◌*◌, ◌-◌, ◌<◌, ◌≤◌, ◌≡◌, ◌⊎◌, inl, inr, List, length, take, get_or, true, false, arith}
use Rattle.std.specs.List.{list_all}
use Rattle.std.specs.Char.{is_ascii_digit, digit_value}
use Rattle.std.specs.Str.Parse.{digits_value}
use Rattle.std.proofs.lemmas.Bool.{cases_Bool, and_parts, leb-true, both_ways}
use Rattle.std.proofs.lemmas.List.Folds.{list_all_at}
use Rattle.std.proofs.lemmas.Str.{digit_value_digit}
use Rattle.std.proofs.lemmas.Int.Digits.{digits_value_more}
use Rattle.std.proofs.lemmas.Str.Parse.{digits_value-take-le}

digit_cases : (ds : List ℕ) (i : ℕ) → list_all is_ascii_digit ds ≡ true → i < length ds
    → (is_ascii_digit (get_or ds i 0) ≡ true) ⊎ (is_ascii_digit (get_or ds i 0) ≡ false) → digit_value (get_or ds i 0) + 48 ≡ get_or ds i 0
digit_cases ds i all within (inl e) =
    let both = and_parts _ _ e in
    digit_value_digit (get_or ds i 0) (leb-true _ _ both.0, leb-true _ _ both.1)
digit_cases ds i all within (inr e) = absurd (both_ways _ (list_all_at is_ascii_digit ds i 0 within e) all)

-- the value of a decimal digit
pub digit_is : (ds : List ℕ) (i : ℕ) → list_all is_ascii_digit ds ≡ true → i < length ds → digit_value (get_or ds i 0) + 48 ≡ get_or ds i 0
digit_is ds i all within = digit_cases ds i all within (cases_Bool (is_ascii_digit (get_or ds i 0)))

-- one more digit
pub value_more : (ds : List ℕ) (i value digit : ℕ) → list_all is_ascii_digit ds ≡ true → i < length ds → value ≡ digits_value 10 (take i ds)
    → digit ≡ get_or ds i 0 - 48
    → digits_value 10 (take (i + 1) ds) ≡ value * 10 + digit
value_more ds i value digit all within so_far is =
    let more = digits_value_more 10 ds i within in
    let last = digit_is ds i all within in
    omega (arith, more, last, so_far, is)

-- a number that is too large with some of its digits is too large with all
pub value_over : (ds : List ℕ) (i value digit most : ℕ) → list_all is_ascii_digit ds ≡ true → i < length ds → value ≡ digits_value 10 (take i ds)
    → digit ≡ get_or ds i 0 - 48
    → most ≤ value * 10 + digit → digits_value 10 ds < most → ⊥
value_over ds i value digit most all within so_far is over below =
    let more = value_more ds i value digit all within so_far is in
    let whole = digits_value-take-le 10 ds (i + 1) (let h : 1 ≤ 10 = omega arith in h) in
    omega (arith, more, whole)
