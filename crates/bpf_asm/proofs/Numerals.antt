-- Reading a number digit by digit.
use Rattle.std.proofs.Common.{ℕ, ◌+◌, ◌*◌, ◌<◌, ◌≤◌, ◌≡◌, List, length, take, get_or, Some, None, arith}
use Rattle.std.specs.Char.{digit_value}
use Rattle.std.specs.Str.Parse.{digits_value}
use Rattle.std.proofs.lemmas.Bool.{and_right, lt-leb, cond-false}
use Rattle.std.proofs.lemmas.Int.Digits.{digits_value_more}
use Rattle.std.proofs.lemmas.Str.Parse.{digits_value-take-le}
use Rattle.bpf_asm.specs.Numbers.{are_digits, digits_number}

-- one more digit
pub value_more : (base : ℕ) (ds : List ℕ) (i value digit : ℕ) → i < length ds → value ≡ digits_value base (take i ds) → digit ≡ digit_value (get_or ds i 0)
    → digits_value base (take (i + 1) ds) ≡ value * base + digit
value_more base ds i value digit within so_far is =
    let more = digits_value_more base ds i within in
    rw (so_far, is) more

-- a number that is too large with some of its digits is too large with all
pub too_large : (base most : ℕ) (ds : List ℕ) (i value digit : ℕ) → 2 ≤ base → i < length ds → value ≡ digits_value base (take i ds)
    → digit ≡ digit_value (get_or ds i 0)
    → most < value * base + digit → digits_number base most ds ≡ None
too_large base most ds i value digit least within so_far is over =
    let more = value_more base ds i value digit within so_far is in
    let whole = digits_value-take-le base ds (i + 1) (let h : 1 ≤ base = omega arith in h) in
    let past : most < digits_value base ds = omega (arith, more, whole) in
    cond-false _ (Some (digits_value base ds)) None (and_right (are_digits base ds) _ (lt-leb (digits_value base ds) most past))
