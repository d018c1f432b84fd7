-- The text of an origin: seconds since 1970-01-01 as a decimal number, with a minus ahead of a time
-- before it, 1 to 12 digits, and where they have a fraction a point and 1 to 9 digits.
use Rattle.std.specs.Prelude.{ℕ, ◌+◌, ◌-◌, ◌*◌, ◌^◌, ◌<◌, ◌≤◌, ◌≡◌, ◌⊎◌, ◌==◌, ◌&&◌, nat_lt, nat_le}
use Rattle.std.specs.Prelude.{if◌then◌else◌}
use Rattle.std.specs.Prelude.{List, [], ◌∷◌, ◌++◌, length, take, drop, position, Option, None, Some}
use Rattle.std.specs.Prelude.{option_and_then}
use Rattle.std.specs.Prelude.{ℤ, pos, neg_ℤ}
use Rattle.std.specs.Option.{option_map}
use Rattle.std.specs.Char.{is_digit}
use Rattle.std.specs.List.{list_all}
use Rattle.std.specs.Str.Parse.{digits_value, AllDigits}

-- ---- what a text says

-- decimal digits, from one to a greatest number of them
pub record AreDigits (most : ℕ) (text : List ℕ) : Type 0 where
  pub digits : AllDigits 10 text
  pub some : 0 < length text
  pub few : length text ≤ most

-- what stands behind whole seconds says these nanoseconds: a point and the digits of a fraction, or
-- nothing
abbrev pub IsFraction : (text : List ℕ) (nanos : ℕ) → Type 0
IsFraction text nanos =
    ((text ≡ []) × (nanos ≡ 0))
    ⊎ ((digits : List ℕ) × (text ≡ 46 ∷ digits) × AreDigits 9 digits
    × (nanos ≡ digits_value 10 digits * 10 ^ (9 - length digits)))

-- a text without a sign says these nanoseconds
pub record SaysNanos (text : List ℕ) (nanos : ℕ) : Type 0 where
  pub whole : List ℕ
  pub rest : List ℕ
  pub fraction : ℕ
  pub parts : text ≡ whole ++ rest
  pub seconds : AreDigits 12 whole
  pub is_fraction : IsFraction rest fraction
  pub is : nanos ≡ digits_value 10 whole * 1_000_000_000 + fraction

-- a text says these nanoseconds since 1970-01-01
abbrev pub SaysOrigin : (text : List ℕ) (nanos : ℤ) → Type 0
SaysOrigin text nanos =
    ((its : ℕ) × SaysNanos text its × (nanos ≡ pos its))
    ⊎ ((rest : List ℕ) × (its : ℕ) × (text ≡ 45 ∷ rest) × SaysNanos rest its
    × (nanos ≡ neg_ℤ (pos its)))

-- ---- how it is read

-- the number that decimal digits write
abbrev pub digits_said : List ℕ → Option ℕ
digits_said digits =
    if list_all (λ digit. is_digit digit 10) digits then Some (digits_value 10 digits) else None

-- the same, of one digit or more, and at most so many
abbrev pub number_said : (most : ℕ) → List ℕ → Option ℕ
number_said most digits =
    if nat_lt 0 (length digits) && nat_le (length digits) most then digits_said digits else None

-- the nanoseconds that the digits behind a point write
abbrev pub fraction_said : List ℕ → Option ℕ
fraction_said digits =
    option_map (λ value. value * 10 ^ (9 - length digits)) (number_said 9 digits)

-- the nanoseconds of seconds and the digits behind their point, whose index is given
abbrev pub nanos_said_at : (point : Option ℕ) → List ℕ → Option ℕ
nanos_said_at None text = option_map (λ seconds. seconds * 1_000_000_000) (number_said 12 text)
nanos_said_at (Some point) text =
    option_and_then
    (λ seconds. option_map (λ fraction. seconds * 1_000_000_000 + fraction)
    (fraction_said (drop (point + 1) text)))
    (number_said 12 (take point text))

-- the nanoseconds that a text without a sign says
abbrev pub nanos_said : List ℕ → Option ℕ
nanos_said text = nanos_said_at (position (λ byte. byte == 46) text) text

-- the nanoseconds since 1970-01-01 that a text says
abbrev pub origin_said : List ℕ → Option ℤ
origin_said [] = None
origin_said (byte ∷ text) =
    if byte == 45 then option_map (λ nanos. neg_ℤ (pos nanos)) (nanos_said text)
    else option_map (λ nanos. pos nanos) (nanos_said (byte ∷ text))
