-- The clock's time of the ticks of time packets.
use Rattle.std.proofs.Common.{◌≡◌, ℕ, ◌<◌, ◌≤◌, ◌⊎◌, inl, inr, List, [], ◌∷◌, refl, sym, subst, ap, ◌∙◌, arith, ℤ, pos, ◌+ℤ◌, ◌<ℤ◌, ◌≤ℤ◌, true, false, cond}
use Rattle.std.proofs.Common.{nat_le}
use Rattle.std.proofs.lemmas.Bool.{cases_Bool}
use Rattle.std.proofs.lemmas.Bool.Decides.{nat_tests}
use Rattle.ch11_clock.specs.declared.origin.Origin.{Origin}
use Rattle.ch11_clock.specs.Clock.{time_under, origin_at, IsClock, BeginBehind, AreAscending, rule_end}
use Rattle.ch11_clock.specs.Moments.{IsTick, nanos_of}
use Rattle.ch11_clock.specs.TimePoints.{IsPointOf, IsLaterPoint, IsPointFrom, IsTimePoint, AgreesWithClock}
use Rattle.ch11_clock.proofs.PointSteps.{later_from, end_behind, ascending_rest}

-- ---- the origin that holds at a counter

-- where no origin of a list has begun, the first holds
none_begun : (begins : ℕ) (first : Origin) (rules : List Origin) (counter : ℕ) → BeginBehind begins rules → counter < begins
    → origin_at first rules counter ≡ first
none_begun begins first [] counter are h = refl
none_begun begins first (rule ∷ rules) counter are h =
    let lt = are.0 in
    let test : nat_le rule.counter counter ≡ false = grind (arith, nat_tests) in
    ap (λ b. origin_at (cond b rule first) rules counter) test ∙ none_begun rule.counter first rules counter are.1 (omega (arith, lt, h))

first_holds : (first : Origin) (rules : List Origin) (counter : ℕ) → AreAscending rules → counter < rule_end rules → origin_at first rules counter ≡ first
first_holds first [] counter are h = refl
first_holds first (rule ∷ rules) counter are h =
    let test : nat_le rule.counter counter ≡ false = grind (arith, nat_tests) in
    ap (λ b. origin_at (cond b rule first) rules counter) test ∙ none_begun rule.counter first rules counter are h

-- where the first of some origins has begun, no other ahead of them holds
begun_holds : (first rule : Origin) (rules : List Origin) (counter : ℕ) → rule.counter ≤ counter
    → origin_at first (rule ∷ rules) counter ≡ origin_at rule rules counter
begun_holds first rule rules counter h =
    let test : nat_le rule.counter counter ≡ true = grind (arith, nat_tests) in
    ap (λ b. origin_at (cond b rule first) rules counter) test

-- ---- the origin that holds at a time packet

under : (rule held : Origin) (moment : ℤ) (tick : ℕ) → held ≡ rule → IsTick rule moment tick → IsTick held moment tick
under rule held moment tick e is = subst (λ o. IsTick o moment tick) (sym e) is

-- a time packet of a rule stands where the rule holds
point_holds : (first rule : Origin) (rules : List Origin) (start moment : ℤ) (tick : ℕ) → AreAscending (rule ∷ rules)
    → IsPointOf rule (rule_end rules) start moment tick → IsTick (origin_at first (rule ∷ rules) tick) moment tick
point_holds first rule rules start moment tick are point =
    under rule (origin_at first (rule ∷ rules) tick) moment tick
    (begun_holds first rule rules tick point.has.begun ∙ first_holds rule rules tick (ascending_rest rule.counter rules are) point.has.within) point.has.is

later_holds : (first : Origin) (rules : List Origin) (moment : ℤ) (tick : ℕ) → AreAscending rules → IsLaterPoint rules moment tick
    → IsTick (origin_at first rules tick) moment tick
later_holds first [] moment tick are point = absurd point
later_holds first (rule ∷ rules) moment tick are (inl (start, begins, point)) = point_holds first rule rules start moment tick are point
later_holds first (rule ∷ rules) moment tick are (inr point) =
    let from = later_from rule.counter rules moment tick are point in
    let end = end_behind rule.counter rules moment tick are point in
    let here = later_holds rule rules moment tick (ascending_rest rule.counter rules are) point in
    under (origin_at rule rules tick) (origin_at first (rule ∷ rules) tick) moment tick (begun_holds first rule rules tick (omega (arith, from, end))) here

from_first : (rule : Origin) (rules : List Origin) (start moment : ℤ) (tick : ℕ) → AreAscending (rule ∷ rules)
    → IsPointFrom (rule ∷ rules) start moment tick → rule.counter ≤ tick
from_first rule rules start moment tick are (inl point) = point.has.begun
from_first rule rules start moment tick are (inr point) =
    let from = later_from rule.counter rules moment tick are point in
    let end = end_behind rule.counter rules moment tick are point in
    omega (arith, from, end)

pub some_behind : (begins least : ℕ) (rules : List Origin) (moment : ℤ) (tick : ℕ) → BeginBehind begins rules → IsTimePoint least rules moment tick
    → begins < rule_end rules
some_behind begins least [] moment tick are point = absurd point
some_behind begins least (rule ∷ rules) moment tick are point = are.0

-- a recording's time packets stand where the first origin holds, or behind that
pub point_from : (least : ℕ) (rules : List Origin) (moment : ℤ) (tick : ℕ) → AreAscending rules → IsTimePoint least rules moment tick → rule_end rules ≤ tick
point_from least [] moment tick are point = absurd point
point_from least (rule ∷ rules) moment tick are (inl (within, start, begins, point)) = from_first rule rules start moment tick are point
point_from least (rule ∷ rules) moment tick are (inr (far, point)) =
    let from = point_from least rules moment tick (ascending_rest rule.counter rules are) point in
    let end = some_behind rule.counter least rules moment tick are point in
    omega (arith, from, end)

time_point_holds : (first : Origin) (least : ℕ) (rules : List Origin) (moment : ℤ) (tick : ℕ) → AreAscending rules
    → IsTimePoint least rules moment tick → IsTick (origin_at first rules tick) moment tick
time_point_holds first least [] moment tick are point = absurd point
time_point_holds first least (rule ∷ rules) moment tick are (inl (within, start, begins, inl point)) = point_holds first rule rules start moment tick are
    point
time_point_holds first least (rule ∷ rules) moment tick are (inl (within, start, begins, inr point)) =
    later_holds first (rule ∷ rules) moment tick are (inr point)
time_point_holds first least (rule ∷ rules) moment tick are (inr (far, point)) =
    let after = ascending_rest rule.counter rules are in
    let here = time_point_holds rule least rules moment tick after point in
    let from = point_from least rules moment tick after point in
    let end = some_behind rule.counter least rules moment tick are point in
    under (origin_at rule rules tick) (origin_at first (rule ∷ rules) tick) moment tick (begun_holds first rule rules tick (omega (arith, from, end))) here

-- a time packet's tick is the first counter to which the clock gives its moment's time, or a later one
pub point_agrees : (least : ℕ) (rules : List Origin) (moment : ℤ) (tick : ℕ) → IsClock rules → IsTimePoint least rules moment tick
    → AgreesWithClock rules moment tick
point_agrees least [] moment tick clock point = absurd point
point_agrees least (rule ∷ rules) moment tick clock point =
    let is = time_point_holds rule least (rule ∷ rules) moment tick clock.ascending point in
    let same = first_among rule rules tick in
    (subst (λ o. nanos_of moment ≤ℤ time_under o tick) same is.reached, subst (λ o. time_under o tick <ℤ (nanos_of moment +ℤ pos 100)) same is.first)
  where
    first_among : (rule : Origin) (rules : List Origin) (tick : ℕ) → origin_at rule (rule ∷ rules) tick ≡ origin_at rule rules tick
    first_among rule rules tick = by_case (cases_Bool (nat_le rule.counter tick))
      where
        by_case : (nat_le rule.counter tick ≡ true) ⊎ (nat_le rule.counter tick ≡ false) → origin_at rule (rule ∷ rules) tick ≡ origin_at rule rules tick
        by_case (inl e) = ap (λ b. origin_at (cond b rule rule) rules tick) e
        by_case (inr e) = ap (λ b. origin_at (cond b rule rule) rules tick) e
