-- The text of an origin is read as what it says.
use Rattle.std.proofs.Common.{ℕ, ◌+◌, ◌-◌, ◌*◌, ◌^◌, ◌<◌, ◌≡◌, ◌⊎◌, inl, inr, ◌==◌, ◌&&◌, nat_lt, nat_le, Bool, true, false, cond, List, [], ◌∷◌, ◌++◌}
use Rattle.std.proofs.Common.{length, take, drop, get_or, Option, None, Some, option_and_then, option_map, ℤ, refl, sym, ap, subst, ◌∙◌, append-nil, arith}
use Rattle.std.specs.Prelude.{◌↔◌}
use Rattle.std.specs.List.{list_all, position_or_len}
use Rattle.std.specs.Char.{digit_value, is_digit}
use Rattle.std.specs.Str.Parse.{digits_value, AllDigits}
use Rattle.std.proofs.lemmas.Bool.{cases_Bool, and_parts}
use Rattle.std.proofs.lemmas.Bool.Decides.{nat_tests}
use Rattle.std.proofs.lemmas.Option.{cond_some}
use Rattle.std.proofs.lemmas.List.{length-append}
use Rattle.std.proofs.lemmas.List.Sums.{split_at_first, passes_at_first}
use Rattle.std.proofs.lemmas.Str.Parse.{digit_from_value}
use Rattle.std.proofs.Math.Seq.{take-append_seam, drop-append-add}
use Rattle.ch11_clock.specs.OriginText.{AreDigits, IsFraction, SaysNanos, SaysOrigin, number_said, fraction_said, nanos_said_at, nanos_said, origin_said}
use Rattle.ch11_clock.proofs.DigitsRead.{all_digits, digits_all}

-- ---- options

mapped : {A B : Type 0} (f : A → B) (o : Option A) (y : B) → option_map f o ≡ Some y → (x : A) × (o ≡ Some x) × (y ≡ f x)
mapped f None y e = absurd (nothing e)
  where
    nothing : {B : Type 0} {y : B} → None ≡ Some y → ⊥
    nothing e = cc
mapped f (Some x) y e = (x, refl, sym (cond_some true (f x) y e).1)

chained : {A B : Type 0} (f : A → Option B) (o : Option A) (y : B) → option_and_then f o ≡ Some y → (x : A) × (o ≡ Some x) × (f x ≡ Some y)
chained f None y e = absurd (nothing e)
  where
    nothing : {B : Type 0} {y : B} → None ≡ Some y → ⊥
    nothing e = cc
chained f (Some x) y e = (x, refl, e)

-- ---- numbers

number_forth : (most : ℕ) (text : List ℕ) (number : ℕ) → number_said most text ≡ Some number → AreDigits most text × (number ≡ digits_value 10 text)
number_forth most text number e = by_case (cases_Bool (nat_lt 0 (length text) && nat_le (length text) most))
  where
    clash : {A : Type 0} {x : A} → None ≡ Some x → ⊥
    clash e = cc

    by_case : ((nat_lt 0 (length text) && nat_le (length text) most) ≡ true) ⊎ ((nat_lt 0 (length text) && nat_le (length text) most) ≡ false)
        → AreDigits most text × (number ≡ digits_value 10 text)
    by_case (inl h) =
        let both = and_parts (nat_lt 0 (length text)) (nat_le (length text) most) h in
        let read = cond_some (list_all (λ d. is_digit d 10) text) (digits_value 10 text) number (rw h at e) in
        (record { digits = all_digits text read.0; some = grind (arith, nat_tests); few = grind (arith, nat_tests) }, sym read.1)
    by_case (inr h) = absurd (clash (rw h at e))

number_back : (most : ℕ) (text : List ℕ) → AreDigits most text → number_said most text ≡ Some (digits_value 10 text)
number_back most text are =
    let some : nat_lt 0 (length text) ≡ true = let h = are.some in grind (arith, nat_tests) in
    let few : nat_le (length text) most ≡ true = let h = are.few in grind (arith, nat_tests) in
    rw (some, few, digits_all text are.digits) refl

-- ---- the point

abbrev is_point : ℕ → Bool
is_point byte = byte == 46

no_point : (byte : ℕ) → digit_value byte < 10 → (byte == 46) ≡ false
no_point byte h = let digit = digit_from_value byte h in grind (arith, nat_tests, digit)

point_behind : (whole rest : List ℕ) → AllDigits 10 whole → position_or_len is_point (whole ++ 46 ∷ rest) ≡ length whole
point_behind [] rest are = refl
point_behind (byte ∷ whole) rest are = rw (no_point byte are.0, point_behind whole rest are.1) (omega arith)

point_none : (whole : List ℕ) → AllDigits 10 whole → position_or_len is_point whole ≡ length whole
point_none [] are = refl
point_none (byte ∷ whole) are = rw (no_point byte are.0, point_none whole are.1) (omega arith)

-- ---- nanoseconds

nanos_forth : (text : List ℕ) (nanos : ℕ) → nanos_said text ≡ Some nanos → SaysNanos text nanos
nanos_forth text nanos e = by_case (cases_Bool (nat_lt (position_or_len is_point text) (length text)))
  where
    whole_more : (value : ℕ) → value * 1_000_000_000 ≡ value * 1_000_000_000 + 0
    whole_more value = omega arith

    at : ℕ
    at = position_or_len is_point text

    by_case : (nat_lt at (length text) ≡ true) ⊎ (nat_lt at (length text) ≡ false) → SaysNanos text nanos
    by_case (inl h) =
        let split = split_at_first is_point text 0 (grind (arith, nat_tests)) in
        let here : nanos_said_at (Some at) text ≡ Some nanos = subst (λ b. nanos_said_at (cond b (Some at) None) text ≡ Some nanos) h e in
        let seconds = chained _ (number_said 12 (take at text)) nanos here in
        let both = mapped _ (fraction_said (drop (at + 1) text)) nanos seconds.2 in
        let fraction = mapped _ (number_said 9 (drop (at + 1) text)) both.0 both.1 in
        let whole = number_forth 12 (take at text) seconds.0 seconds.1 in
        let digits = number_forth 9 (drop (at + 1) text) fraction.0 fraction.1 in
        let point : get_or text at 0 ≡ 46 = let passes = passes_at_first is_point text 0 (grind (arith, nat_tests)) in grind (arith, nat_tests, passes) in
        record {
          whole = take at text;
          rest = 46 ∷ drop (at + 1) text;
          fraction = both.0;
          parts = split ∙ ap (λ byte. take at text ++ byte ∷ drop (at + 1) text) point;
          seconds = whole.0;
          is_fraction = inr (drop (at + 1) text, refl, digits.0, fraction.2 ∙ ap (λ value. value * 10 ^ (9 - length (drop (at + 1) text))) digits.1);
          is = both.2 ∙ ap (λ value. value * 1_000_000_000 + both.0) whole.1;
        }
    by_case (inr h) =
        let here : nanos_said_at None text ≡ Some nanos = subst (λ b. nanos_said_at (cond b (Some at) None) text ≡ Some nanos) h e in
        let seconds = mapped _ (number_said 12 text) nanos here in
        let whole = number_forth 12 text seconds.0 seconds.1 in
        record {
          whole = text;
          rest = [];
          fraction = 0;
          parts = sym (append-nil text);
          seconds = whole.0;
          is_fraction = inl (refl, refl);
          is = seconds.2 ∙ ap (λ value. value * 1_000_000_000) whole.1 ∙ whole_more (digits_value 10 text);
        }

nanos_back : (text : List ℕ) (nanos : ℕ) → SaysNanos text nanos → nanos_said text ≡ Some nanos
nanos_back text nanos says = by_case says.is_fraction
  where
    whole : List ℕ
    whole = says.whole

    value : ℕ
    value = digits_value 10 whole

    read : number_said 12 whole ≡ Some value
    read = number_back 12 whole says.seconds

    alone : text ≡ whole → says.fraction ≡ 0 → nanos_said text ≡ Some nanos
    alone e zero =
        let end : nat_lt (position_or_len is_point whole) (length whole)
        ≡ false = let none = point_none whole says.seconds.digits in grind (arith, nat_tests, none) in
        let is : value * 1_000_000_000 ≡ nanos = let sum = says.is in omega (arith, sum, zero) in
        ap nanos_said e ∙ ap (λ b. nanos_said_at (cond b (Some (position_or_len is_point whole)) None) whole) end
        ∙ ap (λ o. option_map (λ seconds. seconds * 1_000_000_000) o) read ∙ ap Some is

    behind : (digits : List ℕ) → text ≡ whole ++ 46 ∷ digits → AreDigits 9 digits → says.fraction ≡ digits_value 10 digits * 10 ^ (9 - length digits)
        → nanos_said text ≡ Some nanos
    behind digits e are is =
        let all = whole ++ 46 ∷ digits in
        let at : position_or_len is_point all ≡ length whole = point_behind whole digits says.seconds.digits in
        let inside : nat_lt (length whole) (length all) ≡ true = let long = length-append whole (46 ∷ digits) in grind (arith, nat_tests, long) in
        let front : take (length whole) all ≡ whole = take-append_seam whole (46 ∷ digits) in
        let back : drop (length whole + 1) all ≡ digits = drop-append-add whole (46 ∷ digits) 1 in
        let sum : value * 1_000_000_000 + digits_value 10 digits * 10 ^ (9 - length digits) ≡ nanos = ap (λ f. value * 1_000_000_000 + f) (sym is)
        ∙ sym says.is in
        ap nanos_said e ∙ ap (λ n. nanos_said_at (cond (nat_lt n (length all)) (Some n) None) all) at
        ∙ ap (λ b. nanos_said_at (cond b (Some (length whole)) None) all) inside
        ∙ rw (front, back, read, number_back 9 digits are) (ap Some sum)

    by_case : IsFraction says.rest says.fraction → nanos_said text ≡ Some nanos
    by_case (inl none) = alone (says.parts ∙ ap (λ l. whole ++ l) none.0 ∙ append-nil whole) none.1
    by_case (inr (digits, e, are, is)) = behind digits (says.parts ∙ ap (λ l. whole ++ l) e) are is

-- ---- the sign

-- a text without a sign begins with a digit
no_minus : (byte : ℕ) (text : List ℕ) (its : ℕ) → SaysNanos (byte ∷ text) its → (byte == 45) ≡ true → ⊥
no_minus byte text its has e = first has.whole has.rest has.seconds has.parts
  where
    first : (whole rest : List ℕ) → AreDigits 12 whole → byte ∷ text ≡ whole ++ rest → ⊥
    first [] rest are same = let some = are.some in omega (arith, some)
    first (digit ∷ whole) rest are same =
        let is : byte ≡ digit = ap (λ l. get_or l 0 0) same in
        let within = digit_from_value digit are.digits.0 in
        grind (arith, nat_tests, within, is)

pub origin_read : (text : List ℕ) (nanos : ℤ) → origin_said text ≡ Some nanos ↔ SaysOrigin text nanos
origin_read [] nanos = (
  λ e. absurd (nothing e),
  λ says. elim says [
    | inl (its, has, e) ↦ absurd (no_digits its has)
    | inr (rest, its, e, has, is) ↦ absurd
        (no_sign rest e)
  ],
)
  where
    nothing : None ≡ Some nanos → ⊥
    nothing e = cc

    no_digits : (its : ℕ) → SaysNanos [] its → ⊥
    no_digits its has = let some = has.seconds.some in let long = ap length has.parts ∙ length-append has.whole has.rest in omega (arith, some, long)

    no_sign : (rest : List ℕ) → [] ≡ 45 ∷ rest → ⊥
    no_sign rest e = let long = ap length e in omega (arith, long)
origin_read (byte ∷ text) nanos = by_case (cases_Bool (byte == 45))
  where
    by_case : ((byte == 45) ≡ true) ⊎ ((byte == 45) ≡ false) → origin_said (byte ∷ text) ≡ Some nanos ↔ SaysOrigin (byte ∷ text) nanos
    by_case (inl e) = (minus, back)
      where
        sign : byte ≡ 45
        sign = grind (arith, nat_tests)

        minus : origin_said (byte ∷ text) ≡ Some nanos → SaysOrigin (byte ∷ text) nanos
        minus read =
            let its = mapped _ (nanos_said text) nanos (rw e at read) in
            inr (text, its.0, ap (λ b. b ∷ text) sign, nanos_forth text its.0 its.1, its.2)

        back : SaysOrigin (byte ∷ text) nanos → origin_said (byte ∷ text) ≡ Some nanos
        back (inl (its, has, is)) = absurd (no_minus byte text its has e)
        back (inr (rest, its, same, has, is)) =
            let left : text ≡ rest = ap (drop 1) same in
            rw e (rw (nanos_back text its (subst (λ l. SaysNanos l its) (sym left) has)) (ap Some (sym is)))
    by_case (inr e) = (plain, back)
      where
        plain : origin_said (byte ∷ text) ≡ Some nanos → SaysOrigin (byte ∷ text) nanos
        plain read =
            let its = mapped _ (nanos_said (byte ∷ text)) nanos (rw e at read) in
            inl (its.0, nanos_forth (byte ∷ text) its.0 its.1, its.2)

        back : SaysOrigin (byte ∷ text) nanos → origin_said (byte ∷ text) ≡ Some nanos
        back (inl (its, has, is)) = rw e (rw (nanos_back (byte ∷ text) its has) (ap Some (sym is)))
        back (inr (rest, its, same, has, is)) = absurd (let first = ap (λ l. get_or l 0 0) same in grind (arith, nat_tests, first))
