-- The earliest of some origins, and the counters behind it.
use Rattle.std.proofs.Common.{ℕ, ◌≡◌, inl, inr, List, [], ◌∷◌, refl, arith, ℤ, pos, ◌+ℤ◌, ◌-ℤ◌, ◌≤ℤ◌, ◌+◌, ◌/◌, ◌<◌, ◌^◌}
use Rattle.std.specs.Prelude.{Bool, true, false, if◌then◌else◌, int_lt}
use lib.IntN.{negsuc}
use Rattle.std.specs.List.{AllByRecursion}
use Rattle.std.proofs.lemmas.Int.{ints}
use Rattle.jiff_core.proofs.SignedLemmas.{signed_arith}
use Rattle.ch11_clock.specs.declared.origin.Origin.{Origin}
use Rattle.ch11_clock.specs.Clock.{clock_time, origin_at, time_under}
use Rattle.ch11_clock.specs.Moments.{IsTime}
use Rattle.ch11_moved.specs.MovedCounters.{IsMoved}
use Rattle.ch11_moved.specs.FileStarts.{earliest_from, IsOneOrigin, IsRoundedDown}

before : (a b : ℤ) → int_lt a b ≡ true → a ≤ℤ b
before a b e = grind (arith, ints)

behind : (a b : ℤ) → int_lt a b ≡ false → b ≤ℤ a
behind a b e = grind (arith, ints)

one_behind : (first other : Origin) (origins : List Origin) (is : Origin) → IsOneOrigin is (first ∷ origins) → IsOneOrigin is (first ∷ other ∷ origins)
one_behind first other origins is (inl here) = inl here
one_behind first other origins is (inr there) = inr (inr there)

chosen_one : (is : Bool) (first origin : Origin) (origins : List Origin)
    → IsOneOrigin (earliest_from (if is then origin else first) origins) ((if is then origin else first) ∷ origins)
    → IsOneOrigin (earliest_from (if is then origin else first) origins) (first ∷ origin ∷ origins)
chosen_one true first origin origins one = inr one
chosen_one false first origin origins one = one_behind first origin origins (earliest_from first origins) one

pub one_of : (first : Origin) (origins : List Origin) → IsOneOrigin (earliest_from first origins) (first ∷ origins)
one_of first [] = inl refl
one_of first (origin ∷ origins) =
    let is = int_lt origin.nanos first.nanos in
    chosen_one is first origin origins (one_of (if is then origin else first) origins)

abbrev AreFrom : ℤ → List Origin → Type 0
AreFrom least origins = AllByRecursion (λ (origin : Origin). least ≤ℤ origin.nanos) origins

earlier : (a b c : ℤ) → a ≤ℤ b → b ≤ℤ c → a ≤ℤ c
earlier a b c p q = omega (arith, ints)

chosen_least : (is : Bool) (first origin : Origin) (origins : List Origin) → int_lt origin.nanos first.nanos ≡ is
    → AreFrom (earliest_from (if is then origin else first) origins).nanos ((if is then origin else first) ∷ origins)
    → AreFrom (earliest_from (if is then origin else first) origins).nanos (first ∷ origin ∷ origins)
chosen_least true first origin origins is rest = (earlier _ _ _ rest.0 (before _ _ is), rest)
chosen_least false first origin origins is rest = (rest.0, (earlier _ _ _ rest.0 (behind _ _ is), rest.1))

pub none_earlier : (first : Origin) (origins : List Origin) → AreFrom (earliest_from first origins).nanos (first ∷ origins)
none_earlier first [] = (omega (arith, ints), tt)
none_earlier first (origin ∷ origins) =
    let is = int_lt origin.nanos first.nanos in
    chosen_least is first origin origins refl (none_earlier (if is then origin else first) origins)

-- ---- moved counters

-- the counter of a time that lies so far ahead of the beginning
moved_of : (start time : ℤ) (ahead : ℕ) → time ≡ start +ℤ pos ahead → IsMoved start time ((ahead + 50) / 100)
moved_of start time ahead is = record {
  not_late = omega (arith, ints, is);
  not_early = omega (arith, ints, is);
}

natural : (z : ℤ) → pos 0 ≤ℤ z → (n : ℕ) × (z ≡ pos n)
natural (pos n) h = (n, refl)
natural (negsuc n) h = absurd (omega (arith, signed_arith, h))

far_ahead : (start time : ℤ) → start ≤ℤ time → (ahead : ℕ) × (time ≡ start +ℤ pos ahead)
far_ahead start time h =
    let ahead = natural (time -ℤ start) (omega (arith, signed_arith, h)) in
    let is = ahead.1 in
    (ahead.0, omega (arith, signed_arith, is))

pub some_moved : (first start time : ℤ) → IsRoundedDown first start → first ≤ℤ time → (moved : ℕ) × IsMoved start time moved
some_moved first start time rounded h =
    let ahead = far_ahead start time (earlier start first time rounded.not_behind h) in
    ((ahead.0 + 50) / 100, moved_of start time ahead.0 ahead.1)

pub moved_ahead : (start time ahead : ℤ) (moved : ℕ) → ahead ≡ time -ℤ start → IsMoved start time moved → IsMoved (pos 0) ahead moved
moved_ahead start time ahead moved is m = record {
  not_late = omega (arith, signed_arith, is, m.not_late);
  not_early = omega (arith, signed_arith, is, m.not_early);
}

-- ---- the times that counters can have

under_in : (origin : Origin) (counter : ℕ) → counter < 2 ^ 48 → IsTime (time_under origin counter)
under_in origin counter h =
    let least = origin.in_range.least in
    let most = origin.in_range.most in
    record { least = omega (arith, signed_arith, least, h); most = omega (arith, signed_arith, most, h) }

pub time_in : (rules : List Origin) (counter : ℕ) → counter < 2 ^ 48 → IsTime (clock_time rules counter)
time_in [] counter h = record { least = omega (arith, ints); most = omega (arith, ints) }
time_in (first ∷ origins) counter h = under_in (origin_at first origins counter) counter h
