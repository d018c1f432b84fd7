-- Reading a number digit by digit.
use Rattle.std.proofs.Common.{ℕ, zero, suc, ◌^◌, ◌-◌, [], ◌∷◌, true, ◌+◌, ◌*◌, ◌<◌, ◌≤◌, ◌≡◌, List, length, take, get_or, arith, refl}
use Rattle.std.specs.Char.{digit_value, is_digit}
use Rattle.std.specs.List.{list_all}
use Rattle.std.specs.Str.Parse.{digits_value, AllDigits}
use Rattle.std.proofs.lemmas.Bool.{and_parts, and_from, lt-ltb}
use Rattle.std.proofs.lemmas.Int.Digits.{digits_value_more, digits_value-lt}
use Rattle.std.proofs.lemmas.Grind.{common_steps}
use Rattle.std.proofs.Math.Nat.{pow-le-pow_right}
use borrow.Author.Tests.{ltb-true}

-- one more digit
pub value_more : (ds : List ℕ) (i value digit : ℕ) → i < length ds → value ≡ digits_value 10 (take i ds) → digit ≡ digit_value (get_or ds i 0)
    → digits_value 10 (take (i + 1) ds) ≡ value * 10 + digit
value_more ds i value digit within so_far is =
    let more = digits_value_more 10 ds i within in
    rw (so_far, is) more

-- the two ways to say that all are digits
pub all_digits : (ds : List ℕ) → list_all (λ d. is_digit d 10) ds ≡ true → AllDigits 10 ds
all_digits [] h = tt
all_digits (d ∷ ds) h = let both = and_parts (is_digit d 10) (list_all (λ d. is_digit d 10) ds) h in (ltb-true _ _ both.0, all_digits ds both.1)

pub digits_all : (ds : List ℕ) → AllDigits 10 ds → list_all (λ d. is_digit d 10) ds ≡ true
digits_all [] h = refl
digits_all (d ∷ ds) h = and_from (is_digit d 10) (list_all (λ d. is_digit d 10) ds) (lt-ltb _ _ h.0) (digits_all ds h.1)

-- n digits write a number below 10^n, so at most 12 of them one below 10^12
pub below_power : (ds : List ℕ) (value : ℕ) → list_all (λ d. is_digit d 10) ds ≡ true → value ≡ digits_value 10 ds → value < 10 ^ length ds
below_power ds value all is = rw is (digits_value-lt 10 ds (all_digits ds all))

pub below_most : (n most value : ℕ) → n ≤ most → value < 10 ^ n → value < 10 ^ most
below_most n most value few small =
    let more : 10 ^ n ≤ 10 ^ most = pow-le-pow_right (let h : 0 < 10 = omega arith in h) few in
    omega (arith, more)

pub below_so_far : (ds : List ℕ) (i value : ℕ) → length ds ≤ 12 → list_all (λ d. is_digit d 10) (take i ds) ≡ true → value ≡ digits_value 10 (take i ds)
    → value < 1_000_000_000_000
below_so_far ds i value few all is =
    let short : length (take i ds) ≤ 12 = grind (arith, common_steps) in
    below_most (length (take i ds)) 12 value short (below_power (take i ds) value all is)

-- a number of n digits and 9 - n zeros behind them
pub scaled : (value n : ℕ) → n ≤ 9 → value < 10 ^ n → value * 10 ^ (9 - n) < 1_000_000_000
scaled value zero h small = omega arith
scaled value (suc zero) h small = omega arith
scaled value (suc (suc zero)) h small = omega arith
scaled value (suc (suc (suc zero))) h small = omega arith
scaled value (suc (suc (suc (suc zero)))) h small = omega arith
scaled value (suc (suc (suc (suc (suc zero))))) h small = omega arith
scaled value (suc (suc (suc (suc (suc (suc zero)))))) h small = omega arith
scaled value (suc (suc (suc (suc (suc (suc (suc zero))))))) h small = omega arith
scaled value (suc (suc (suc (suc (suc (suc (suc (suc zero)))))))) h small = omega arith
scaled value (suc (suc (suc (suc (suc (suc (suc (suc (suc zero))))))))) h small = omega arith
scaled value (suc (suc (suc (suc (suc (suc (suc (suc (suc (suc n)))))))))) h small = absurd (omega arith)
