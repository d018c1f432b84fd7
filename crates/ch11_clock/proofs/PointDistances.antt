-- How far behind a time packet a counter may lie until the next one stands.
use Rattle.std.proofs.Common.{◌≡◌, ℕ, ◌+◌, ◌*◌, ◌<◌, ◌≤◌, ◌^◌, inl, inr, List, [], ◌∷◌, refl, sym, ◌∙◌, ap, subst, arith, cond, ℤ, pos, ◌+ℤ◌, ◌*ℤ◌, ◌<ℤ◌, ◌≤ℤ◌}
use Rattle.std.specs.Prelude.{Bool, true, false, ◌&&◌, nat_lt, nat_le}
use Rattle.std.specs.Int.{int_div_euclid}
use Rattle.std.proofs.lemmas.Bool.{cases_Bool}
use Rattle.std.proofs.lemmas.Bool.Decides.{nat_tests}
use Rattle.std.proofs.lemmas.List.Sums.{sum_by-cons}
use Rattle.jiff_core.proofs.SignedLemmas.{signed_arith}
use Rattle.ch11_clock.specs.declared.origin.Origin.{Origin}
use Rattle.ch11_clock.specs.Clock.{time_under, BeginBehind, AreAscending, IsClock, rule_end}
use Rattle.ch11_clock.specs.Moments.{IsTick, IsFirstFrom, IsNextSecond, IsWholeSecond}
use Rattle.ch11_clock.specs.TimePoints.{IsPointOf, IsLaterPoint, IsPointFrom, IsTimePoint}
use Rattle.ch11_clock.specs.TimeDistances.{begun_between, IsNear, HasNoneBetween}
use Rattle.ch11_clock.proofs.TickOrder.{next_is, ticks_part}
use Rattle.ch11_clock.proofs.PointSteps.{has_first, has_later, not_ahead, end_behind, later_from, ascending_rest}
use Rattle.ch11_clock.proofs.PointTimes.{point_from, some_behind}

-- ---- origins that begin between

-- whether an origin begins between them
abbrev pub begins_between : (tick counter : ℕ) → Origin → Bool
begins_between tick counter rule = nat_lt tick rule.counter && nat_le rule.counter counter

begun_more : (rule : Origin) (rules : List Origin) (tick counter : ℕ)
    → begun_between tick counter (rule ∷ rules) ≡ cond (begins_between tick counter rule) 1 0 + begun_between tick counter rules
begun_more rule rules tick counter = sum_by-cons (λ (r : Origin). cond (begins_between tick counter r) 1 0) rule rules

begun_here : (rule : Origin) (rules : List Origin) (tick counter : ℕ) → tick < rule.counter → rule.counter ≤ counter
    → begun_between tick counter (rule ∷ rules) ≡ 1 + begun_between tick counter rules
begun_here rule rules tick counter behind within =
    let a : begins_between tick counter rule ≡ true = grind (arith, nat_tests) in
    begun_more rule rules tick counter ∙ ap (λ (b : Bool). cond b 1 0 + begun_between tick counter rules) a

begun_ahead : (rule : Origin) (rules : List Origin) (tick counter : ℕ) → rule.counter ≤ tick
    → begun_between tick counter (rule ∷ rules) ≡ begun_between tick counter rules
begun_ahead rule rules tick counter ahead =
    let a : begins_between tick counter rule ≡ false = grind (arith, nat_tests) in
    let more : begun_between tick counter (rule ∷ rules) ≡ 0 + begun_between tick counter rules = begun_more rule rules tick counter
    ∙ ap (λ (b : Bool). cond b 1 0 + begun_between tick counter rules) a in
    omega (arith, more)

near_more : (rule : Origin) (rules : List Origin) (tick counter : ℕ) → rule.counter ≤ tick → IsNear rules tick counter → IsNear (rule ∷ rules) tick counter
near_more rule rules tick counter ahead near =
    let same = begun_ahead rule rules tick counter ahead in
    subst (λ (n : ℕ). counter < tick + 10_000_000 + 100_000 * n) (sym same) near

-- ---- the next moment

-- a rule that has a moment has the next whole second a second later, at most
record IsSecondBehind (rule : Origin) (moment : ℤ) (tick : ℕ) : Type 0 where
  pub next : ℤ
  pub its : ℕ
  pub is : IsTick rule next its
  pub begun : rule.counter ≤ its
  pub whole : IsWholeSecond next
  pub behind : moment <ℤ next
  pub later : tick < its
  pub near : its ≤ tick + 10_000_000

second_behind : (rule : Origin) (moment : ℤ) (tick : ℕ) → IsTick rule moment tick → rule.counter ≤ tick → IsSecondBehind rule moment tick
second_behind rule moment tick is begun =
    let next = (int_div_euclid moment (pos 100) +ℤ pos 1) *ℤ pos 100 in
    let second : IsNextSecond moment next = next_is moment (int_div_euclid moment (pos 100)) next refl refl in
    let behind : moment <ℤ next = second.behind in
    let first : next ≤ℤ (moment +ℤ pos 100) = second.first in
    let has = has_later rule moment next (record { tick = tick; is = is; begun = begun }) (omega (arith, signed_arith, behind)) in
    let its = has.is in
    record {
      next = next;
      its = has.tick;
      is = its;
      begun = has.begun;
      whole = second.whole;
      behind = behind;
      later = ticks_part rule moment next tick has.tick is its behind;
      near = omega (arith, signed_arith, first, is, its);
    }

-- the first moment of a later rule is 10 ms behind its beginning, at most
record IsFirstBehind (rule : Origin) : Type 0 where
  pub start : ℤ
  pub is_first : IsFirstFrom (time_under rule rule.counter) start
  pub its : ℕ
  pub is : IsTick rule start its
  pub begun : rule.counter ≤ its
  pub near : its ≤ rule.counter + 100_000

first_of : (time start : ℤ) → start ≡ int_div_euclid (time +ℤ pos 9_999_999) (pos 10_000_000) → IsFirstFrom time start
first_of time start e = record { reached = omega (arith, signed_arith); first = omega (arith, signed_arith) }

first_behind : (rule : Origin) → IsFirstBehind rule
first_behind rule =
    let start = int_div_euclid (time_under rule rule.counter +ℤ pos 9_999_999) (pos 10_000_000) in
    let is_first : IsFirstFrom (time_under rule rule.counter) start = first_of (time_under rule rule.counter) start refl in
    let has = has_first rule start is_first in
    let is = has.is in
    record {
      start = start;
      is_first = is_first;
      its = has.tick;
      is = is;
      begun = has.begun;
      near = first_near rule start has.tick is is_first;
    }
  where
    first_near : (rule : Origin) (start : ℤ) (tick : ℕ) → IsTick rule start tick → IsFirstFrom (time_under rule rule.counter) start
        → tick ≤ rule.counter + 100_000
    first_near rule start tick is from = omega (arith, signed_arith)

-- ---- behind the beginning of a later rule

abbrev pub HasNoneLater : List Origin → (tick counter : ℕ) → Type 0
HasNoneLater rules tick counter = (moment : ℤ) (its : ℕ) → IsLaterPoint rules moment its → tick < its → counter < its

-- where the first moment of a rule doesn't stand, it lies behind the rule's end or the counter
first_missing : (rule : Origin) (rules : List Origin) (tick counter : ℕ) (first : IsFirstBehind rule) → tick < rule.counter
    → HasNoneLater (rule ∷ rules) tick counter → first.its < rule_end rules → counter < first.its
first_missing rule rules tick counter first behind none within =
    let begun = first.begun in
    none first.start first.its
    (inl (first.start, first.is_first, record { has = record { is = first.is; begun = begun; within = within }; due = inl refl }))
    (omega (arith, behind, begun))

later_near : (rule : Origin) (rules : List Origin) (tick counter : ℕ) → BeginBehind rule.counter rules → tick < rule.counter → rule.counter ≤ counter
    → counter < 2 ^ 48 → HasNoneLater (rule ∷ rules) tick counter
    → counter < rule.counter + 100_000 * begun_between tick counter (rule ∷ rules)
later_near rule [] tick counter ascending behind within fits none =
    let first = first_behind rule in
    let near = first.near in
    let count = begun_here rule [] tick counter behind within in
    elim (cases_Bool (nat_lt first.its (2 ^ 48))) as (λ _. counter < rule.counter + 100_000 * begun_between tick counter (rule ∷ [])) [
      | inl on ↦
          let lt : first.its < 2 ^ 48 = grind (arith, nat_tests) in
          let far = first_missing rule [] tick counter first behind none lt in
          omega (arith, near, far, count)
      | inr off ↦
          let ge : 2 ^ 48 ≤ first.its = grind (arith, nat_tests) in
          omega (arith, near, ge, fits, count)
    ]
later_near rule (next ∷ rules) tick counter ascending behind within fits none =
    let first = first_behind rule in
    let near = first.near in
    let count = begun_here rule (next ∷ rules) tick counter behind within in
    let ahead : rule.counter < next.counter = ascending.0 in
    elim (cases_Bool (nat_lt counter next.counter)) as (λ _. counter < rule.counter + 100_000 * begun_between tick counter (rule ∷ next ∷ rules)) [
      | inl on ↦
          let lt : counter < next.counter = grind (arith, nat_tests) in
          elim (cases_Bool (nat_lt first.its next.counter)) as (λ _. counter < rule.counter + 100_000 * begun_between tick counter (rule ∷ next ∷ rules)) [
            | inl early ↦
                let e : first.its < next.counter = grind (arith, nat_tests) in
                let far = first_missing rule (next ∷ rules) tick counter first behind none e in
                omega (arith, near, far, count)
            | inr late ↦
                let e : next.counter ≤ first.its = grind (arith, nat_tests) in
                omega (arith, near, e, lt, count)
          ]
      | inr off ↦
          let ge : next.counter ≤ counter = grind (arith, nat_tests) in
          let rest = later_near next rules tick counter ascending.1 (omega (arith, behind, ahead)) ge fits (λ moment its point. none moment its (inr point)) in
          let short : next.counter ≤ rule.counter + 100_000 = ends_soon first ge in
          omega (arith, rest, short, count)
    ]
  where
    ends_soon : (first : IsFirstBehind rule) → next.counter ≤ counter → next.counter ≤ rule.counter + 100_000
    ends_soon first ge =
        let near = first.near in
        elim (cases_Bool (nat_lt first.its next.counter)) as (λ _. next.counter ≤ rule.counter + 100_000) [
          | inl early ↦
              let e : first.its < next.counter = grind (arith, nat_tests) in
              let far = first_missing rule (next ∷ rules) tick counter first behind none e in
              absurd (omega (arith, far, e, ge))
          | inr late ↦
              let e : next.counter ≤ first.its = grind (arith, nat_tests) in
              omega (arith, near, e)
        ]

-- ---- behind a time packet

abbrev pub HasNoneFrom : List Origin → (start : ℤ) (tick counter : ℕ) → Type 0
HasNoneFrom rules start tick counter = (moment : ℤ) (its : ℕ) → IsPointFrom rules start moment its → tick < its → counter < its

-- where the next whole second doesn't stand, it lies behind the rule's end or the counter
second_missing : (rule : Origin) (rules : List Origin) (start moment : ℤ) (tick counter : ℕ) (second : IsSecondBehind rule moment tick)
    → IsPointOf rule (rule_end rules) start moment tick → HasNoneFrom (rule ∷ rules) start tick counter → second.its < rule_end rules
    → counter < second.its
second_missing rule rules start moment tick counter second point none within =
    let from : start ≤ℤ moment = not_ahead rule (rule_end rules) start moment tick point in
    let behind : moment <ℤ second.next = second.behind in
    none second.next second.its
    (inl (record {
      has = record { is = second.is; begun = second.begun; within = within };
      due = inr (second.whole, omega (arith, signed_arith, from, behind));
    })) second.later

point_near : (rule : Origin) (rules : List Origin) (start moment : ℤ) (tick counter : ℕ) → AreAscending (rule ∷ rules)
    → IsPointOf rule (rule_end rules) start moment tick → counter < 2 ^ 48 → HasNoneFrom (rule ∷ rules) start tick counter
    → IsNear (rule ∷ rules) tick counter
point_near rule [] start moment tick counter ascending point fits none =
    let second = second_behind rule moment tick point.has.is point.has.begun in
    let near = second.near in
    elim (cases_Bool (nat_lt second.its (2 ^ 48))) as (λ _. IsNear (rule ∷ []) tick counter) [
      | inl on ↦
          let lt : second.its < 2 ^ 48 = grind (arith, nat_tests) in
          let far = second_missing rule [] start moment tick counter second point none lt in
          omega (arith, near, far)
      | inr off ↦
          let ge : 2 ^ 48 ≤ second.its = grind (arith, nat_tests) in
          omega (arith, near, ge, fits)
    ]
point_near rule (next ∷ rules) start moment tick counter ascending point fits none =
    elim (cases_Bool (nat_lt counter next.counter)) as (λ _. IsNear (rule ∷ next ∷ rules) tick counter) [
      | inl on ↦ within_rule (grind (arith, nat_tests))
      | inr off ↦ behind_rule (grind (arith, nat_tests))
    ]
  where
    ends_soon : next.counter ≤ counter → next.counter ≤ tick + 10_000_000
    ends_soon ge =
        let near = (second_behind rule moment tick point.has.is point.has.begun).near in
        elim (cases_Bool (nat_lt (second_behind rule moment tick point.has.is point.has.begun).its next.counter))
        as (λ _. next.counter ≤ tick + 10_000_000) [
          | inl early ↦
              let e : (second_behind rule moment tick point.has.is point.has.begun).its < next.counter = grind (arith, nat_tests) in
              let far = second_missing rule (next ∷ rules) start moment tick counter
              (second_behind rule moment tick point.has.is point.has.begun) point none e in
              absurd (omega (arith, far, e, ge))
          | inr late ↦
              let e : next.counter ≤ (second_behind rule moment tick point.has.is point.has.begun).its = grind (arith, nat_tests) in
              omega (arith, near, e)
        ]

    within_rule : counter < next.counter → IsNear (rule ∷ next ∷ rules) tick counter
    within_rule lt =
        let near = (second_behind rule moment tick point.has.is point.has.begun).near in
        elim (cases_Bool (nat_lt (second_behind rule moment tick point.has.is point.has.begun).its next.counter))
        as (λ _. IsNear (rule ∷ next ∷ rules) tick counter) [
          | inl early ↦
              let e : (second_behind rule moment tick point.has.is point.has.begun).its < next.counter = grind (arith, nat_tests) in
              let far = second_missing rule (next ∷ rules) start moment tick counter
              (second_behind rule moment tick point.has.is point.has.begun) point none e in
              omega (arith, near, far)
          | inr late ↦
              let e : next.counter ≤ (second_behind rule moment tick point.has.is point.has.begun).its = grind (arith, nat_tests) in
              omega (arith, near, e, lt)
        ]

    behind_rule : next.counter ≤ counter → IsNear (rule ∷ next ∷ rules) tick counter
    behind_rule ge =
        let within : tick < next.counter = point.has.within in
        let begun : rule.counter ≤ tick = point.has.begun in
        let rest = later_near next rules tick counter ascending.1 within ge fits (λ moment its later. none moment its (inr later)) in
        let soon = ends_soon ge in
        let count = begun_ahead rule (next ∷ rules) tick counter begun in
        omega (arith, rest, soon, count)

later_point_near : (rules : List Origin) (moment : ℤ) (tick counter : ℕ) → AreAscending rules → IsLaterPoint rules moment tick → counter < 2 ^ 48
    → HasNoneLater rules tick counter → IsNear rules tick counter
later_point_near [] moment tick counter ascending point fits none = absurd point
later_point_near (rule ∷ rules) moment tick counter ascending (inl (start, first, point)) fits none =
    point_near rule rules start moment tick counter ascending point fits (λ other its is. none other its (later_of is))
  where
    later_of : {other : ℤ} {its : ℕ} → IsPointFrom (rule ∷ rules) start other its → IsLaterPoint (rule ∷ rules) other its
    later_of (inl is) = inl (start, first, is)
    later_of (inr is) = inr is
later_point_near (rule ∷ rules) moment tick counter ascending (inr point) fits none =
    let from = later_from rule.counter rules moment tick ascending point in
    let end = end_behind rule.counter rules moment tick ascending point in
    near_more rule rules tick counter (omega (arith, from, end))
    (later_point_near rules moment tick counter (ascending_rest rule.counter rules ascending) point fits (λ other its is. none other its (inr is)))

from_point_near : (rule : Origin) (rules : List Origin) (start moment : ℤ) (tick counter : ℕ) → AreAscending (rule ∷ rules)
    → IsPointFrom (rule ∷ rules) start moment tick → counter < 2 ^ 48 → HasNoneFrom (rule ∷ rules) start tick counter
    → IsNear (rule ∷ rules) tick counter
from_point_near rule rules start moment tick counter ascending (inl point) fits none =
    point_near rule rules start moment tick counter ascending point fits none
from_point_near rule rules start moment tick counter ascending (inr point) fits none =
    let from = later_from rule.counter rules moment tick ascending point in
    let end = end_behind rule.counter rules moment tick ascending point in
    near_more rule rules tick counter (omega (arith, from, end))
    (later_point_near rules moment tick counter (ascending_rest rule.counter rules ascending) point fits (λ other its is. none other its (inr is)))

time_point_near : (least : ℕ) (rules : List Origin) (moment : ℤ) (tick counter : ℕ) → AreAscending rules → IsTimePoint least rules moment tick
    → counter < 2 ^ 48 → HasNoneBetween least rules tick counter → IsNear rules tick counter
time_point_near least [] moment tick counter ascending point fits none = absurd point
time_point_near least (rule ∷ rules) moment tick counter ascending (inl (within, start, first, point)) fits none =
    from_point_near rule rules start moment tick counter ascending point fits (λ other its is. none other its (inl (within, start, first, is)))
time_point_near least (rule ∷ rules) moment tick counter ascending (inr (far, point)) fits none =
    let rest = ascending_rest rule.counter rules ascending in
    let from = point_from least rules moment tick rest point in
    let end = some_behind rule.counter least rules moment tick ascending point in
    near_more rule rules tick counter (omega (arith, from, end))
    (time_point_near least rules moment tick counter rest point fits (λ other its is. none other its (inr (far, is))))

pub counters_near : (least : ℕ) (rules : List Origin) (moment : ℤ) (tick counter : ℕ) → IsClock rules → IsTimePoint least rules moment tick
    → counter < 2 ^ 48 → HasNoneBetween least rules tick counter → IsNear rules tick counter
counters_near least rules moment tick counter clock = time_point_near least rules moment tick counter clock.ascending

-- ---- ticks have 48 bits

end_fits : (rules : List Origin) → rule_end rules ≤ 2 ^ 48
end_fits [] = omega arith
end_fits (rule ∷ rules) = let fits = rule.in_range.counter_in in omega (arith, fits)

later_fits : (rules : List Origin) (moment : ℤ) (tick : ℕ) → IsLaterPoint rules moment tick → tick < 2 ^ 48
later_fits [] moment tick point = absurd point
later_fits (rule ∷ rules) moment tick (inl (start, first, point)) =
    let within = point.has.within in
    let end = end_fits rules in
    omega (arith, within, end)
later_fits (rule ∷ rules) moment tick (inr point) = later_fits rules moment tick point

from_fits : (rule : Origin) (rules : List Origin) (start moment : ℤ) (tick : ℕ) → IsPointFrom (rule ∷ rules) start moment tick → tick < 2 ^ 48
from_fits rule rules start moment tick (inl point) =
    let within = point.has.within in
    let end = end_fits rules in
    omega (arith, within, end)
from_fits rule rules start moment tick (inr point) = later_fits rules moment tick point

pub point_fits : (least : ℕ) (rules : List Origin) (moment : ℤ) (tick : ℕ) → IsTimePoint least rules moment tick → tick < 2 ^ 48
point_fits least [] moment tick point = absurd point
point_fits least (rule ∷ rules) moment tick (inl (within, start, first, point)) = from_fits rule rules start moment tick point
point_fits least (rule ∷ rules) moment tick (inr (far, point)) = point_fits least rules moment tick point
