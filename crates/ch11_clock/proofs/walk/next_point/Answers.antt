use Rattle.std.proofs.Common.{◌≡◌, ℕ, ◌<◌, ◌≤◌, ◌^◌, List, [], ◌∷◌, length, arith, rules, ℤ, to_z, of_z, to_z-of_z, w64, FitsSigned, refl, sym}
use Rattle.std.specs.Int.{w128}
use Rattle.jiff_core.proofs.SignedLemmas.{signed_arith}
use Rattle.ch11_clock.specs.declared.origin.Origin.{Origin}
use Rattle.ch11_clock.specs.Clock.{time_under}
use Rattle.ch11_clock.specs.Clock.{rule_end}
use Rattle.ch11_clock.specs.Moments.{IsMoment, IsTick, IsFirstFrom, IsNextSecond}
use Rattle.ch11_clock.proofs.PointSteps.{next_among, begun_later, ascending_later, same_behind, same_none, has_first}
use Rattle.ch11_clock.proofs.walk.next_point.Goals as goal

no_items : {A : Type 0} (xs : List A) → length xs ≡ 0 → xs ≡ []
no_items [] h = refl
no_items (x ∷ xs) h = absurd (omega (arith, h))

-- a moment with a tick of 48 bits lies far from the ends of the range
moment_within : (rule : Origin) (moment next : ℤ) (tick : ℕ) → IsTick rule moment tick → tick < 2 ^ 48 → IsMoment moment → IsNextSecond moment next
    → IsMoment next
moment_within rule moment next tick is small range second =
    let most = rule.in_range.most in
    record { least = omega (arith, signed_arith, second, range); most = omega (arith, signed_arith, second, is, small, most) }

pub returns-in-Some-tick_below-clause-some : goal.returns-in-Some-tick_below-clause-some
returns-in-Some-tick_below-clause-some c =
    let from = to_z w64 c.rules.moment-bits in
    let fits : FitsSigned w64 c.next_second.result = search rules in
    let next = c.next_second.result in
    let within : c.in-Some-tick_below.tick < rule_end c.in-Some.later.now = omega (arith, c.in-Some-tick_below.ensures.within, c.rule_end.ensures.end) in
    let start : to_z w64 (of_z w64 c.args.start) ≡ c.args.start = to_z-of_z c.ranges.start in
    let found = next_among c.args.rules.now (to_z w64 (of_z w64 c.args.start)) c.rules.left.now from c.in-Some.rule.now c.in-Some.later.now next
    c.in-Some-tick_below.tick
    c.in-Some.ensures.cases.0 c.rules.invariant.same c.rules.invariant.ascending c.rules.invariant.begun c.in-Some-tick_below.ensures.some within
    c.next_second.ensures in
    rw (to_z-of_z fits) (rw start at found)

pub returns-in-Some-tick_below-clause-walk : goal.returns-in-Some-tick_below-clause-walk
returns-in-Some-tick_below-clause-walk c =
    let fits : FitsSigned w64 c.next_second.result = search rules in
    rw (to_z-of_z fits) (record {
      ascending = c.rules.invariant.ascending;
      begun = begun_later c.rules.left.now (to_z w64 c.rules.moment-bits) c.next_second.result c.rules.invariant.begun c.next_second.ensures.behind;
      in_range = moment_within c.in-Some.rule.now (to_z w64 c.rules.moment-bits) c.next_second.result c.in-Some-tick_below.tick
          c.in-Some-tick_below.ensures.some (omega (arith, c.in-Some-tick_below.ensures.within, c.rule_end.ensures.most)) c.rules.invariant.in_range
          c.next_second.ensures;
    })

pub rules-preserved : goal.rules-preserved
rules-preserved c =
    let from = to_z w64 c.rules.moment-bits in
    let later = c.in-Some.later.now in
    let none : later ≡ [] = no_items later c.in_default-split_first.ensures.cases in
    let far : (tick : ℕ) → IsTick c.in-Some.rule.now from tick → rule_end later ≤ tick =
    λ tick is. omega (arith, c.in_default-tick_below.ensures.none tick is, c.rule_end.ensures.end) in
    record {
      ascending = ascending_later c.rules.left.now c.in-Some.rule.now later c.in-Some.ensures.cases.0 c.rules.invariant.ascending;
      begun = rw none tt;
      in_range = c.rules.invariant.in_range;
      same = same_none c.args.rules.now (to_z w64 (of_z w64 c.args.start)) c.rules.left.now from c.in-Some.rule.now later from
          c.in-Some.ensures.cases.0 none c.rules.invariant.same c.rules.invariant.begun far;
    }

pub rules-preserved-in-Some-split_first : goal.rules-preserved-in-Some-split_first
rules-preserved-in-Some-split_first c =
    let from = to_z w64 c.rules.moment-bits in
    let later = c.in-Some.later.now in
    let next = c.in-Some-split_first.next.now in
    let behind = c.in-Some-split_first.field-0-1.now in
    let is : later ≡ next ∷ behind = c.in-Some-split_first.ensures.cases.0 in
    let far : (tick : ℕ) → IsTick c.in-Some.rule.now from tick → rule_end later ≤ tick =
    λ tick is. omega (arith, c.in_default-tick_below.ensures.none tick is, c.rule_end.ensures.end) in
    let wide : FitsSigned w128 c.time_under.result = search rules in
    let fits : FitsSigned w64 c.first_from-moment.result = search rules in
    let first : IsFirstFrom (time_under next next.counter) c.first_from-moment.result =
    rw (sym c.time_under.ensures) (rw (to_z-of_z wide) at c.first_from-moment.ensures.is) in
    rw (to_z-of_z fits) (record {
      ascending = ascending_later c.rules.left.now c.in-Some.rule.now later c.in-Some.ensures.cases.0 c.rules.invariant.ascending;
      begun = rw is (has_first next c.first_from-moment.result first);
      in_range = c.first_from-moment.ensures.in_range;
      same = same_behind c.args.rules.now (to_z w64 (of_z w64 c.args.start)) c.rules.left.now from c.in-Some.rule.now next later behind
          c.first_from-moment.result
          c.in-Some.ensures.cases.0 is c.rules.invariant.same c.rules.invariant.begun far first;
    })

pub returns-clause-none : goal.returns-clause-none
returns-clause-none c moment tick point =
    let none : c.rules.left.now ≡ [] = no_items c.rules.left.now c.in_default.ensures.cases in
    let start : to_z w64 (of_z w64 c.args.start) ≡ c.args.start = to_z-of_z c.ranges.start in
    let here = (c.rules.invariant.same moment tick).1 (rw start point) in
    rw none at here
