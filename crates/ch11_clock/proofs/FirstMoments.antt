-- The first moment of a recording, and the time packets from it on.
use Rattle.std.proofs.Common.{◌≡◌, ℕ, ◌<◌, ◌≤◌, inl, inr, List, ◌∷◌, sym, subst, ap, ◌∙◌, arith, ℤ, pos, ◌+ℤ◌, ◌<ℤ◌}
use Rattle.std.specs.Prelude.{◌↔◌}
use Rattle.jiff_core.proofs.SignedLemmas.{signed_arith}
use Rattle.ch11_clock.specs.declared.origin.Origin.{Origin}
use Rattle.ch11_clock.specs.Clock.{time_under, rule_end}
use Rattle.ch11_clock.specs.Moments.{HasTick, nanos_of, IsLastAt}
use Rattle.ch11_clock.specs.TimePoints.{points_left, IsPointFrom, HasBegun, IsFirstMoment, IsTimePoint, ArePointsFrom}
use Rattle.ch11_clock.proofs.TickOrder.{one_last}
use Rattle.ch11_clock.proofs.PointSteps.{some_tick}

-- a rule has begun at a moment that isn't 100 ns or more ahead of its beginning, and only then
pub begun_by_time : (rule : Origin) (moment : ℤ) → time_under rule rule.counter <ℤ (nanos_of moment +ℤ pos 100) → HasBegun rule moment
begun_by_time rule moment h =
    let some = some_tick rule moment (omega (arith, signed_arith)) in
    record { tick = some.0; is = some.1; begun = let is = some.1 in omega (arith, signed_arith, is) }

pub time_of_begun : (rule : Origin) (moment : ℤ) → HasBegun rule moment → time_under rule rule.counter <ℤ (nanos_of moment +ℤ pos 100)
time_of_begun rule moment has =
    let is = has.is in
    let begun = has.begun in
    omega (arith, signed_arith, is, begun)

-- the last moment that isn't behind the least counter, where it has a tick, and else the next one
pub first_here : (rule : Origin) (end least : ℕ) (last : ℤ) → IsLastAt (time_under rule least) last → least < end → HasBegun rule last
    → IsFirstMoment rule end least last
first_here rule end least last at within has =
    let is = has.is in
    inl (at, (has.tick, record { is = has.is; begun = has.begun; within = omega (arith, signed_arith, at, is, within) }))

pub first_next : (rule : Origin) (end least : ℕ) (last next : ℤ) → IsLastAt (time_under rule least) last → ¬ HasBegun rule last → next ≡ last +ℤ pos 1
    → IsFirstMoment rule end least next
first_next rule end least last next is none e = inr (last, is, λ has. none (record { tick = has.0; is = has.1.is; begun = has.1.begun }), e)

-- the next moment behind a counter's time has a tick under a rule that holds there
pub begun_next : (rule : Origin) (least : ℕ) (before next : ℤ) → rule.counter ≤ least → IsLastAt (time_under rule least) before → next ≡ before +ℤ pos 1
    → HasBegun rule next
begun_next rule least before next holds last e = begun_by_time rule next (omega (arith, signed_arith, last))

one_first_moment : (rule : Origin) (end least : ℕ) (moment other : ℤ) → IsFirstMoment rule end least moment → IsFirstMoment rule end least other
    → moment ≡ other
one_first_moment rule end least moment other (inl is) (inl also) = one_last (time_under rule least) moment other is.0 also.0
one_first_moment rule end least moment other (inl is) (inr (before, last, none, e)) =
    absurd (none (subst (HasTick rule end) (one_last (time_under rule least) moment before is.0 last) is.1))
one_first_moment rule end least moment other (inr (before, last, none, e)) (inl also) =
    absurd (none (subst (HasTick rule end) (one_last (time_under rule least) other before also.0 last) also.1))
one_first_moment rule end least moment other (inr (before, last, none, e)) (inr (its, also, nor, f)) =
    e ∙ ap (λ z. z +ℤ pos 1) (one_last (time_under rule least) before its last also) ∙ sym f

-- ---- the rules that end ahead of the least counter

-- the time packets of the recording under these rules are those under all
abbrev pub SameRecording : (least : ℕ) (left all : List Origin) → Type 0
SameRecording least left all = (moment : ℤ) (tick : ℕ) → IsTimePoint least left moment tick ↔ IsTimePoint least all moment tick

pub points_here : (least : ℕ) (all left : List Origin) (rule : Origin) (later : List Origin) (start : ℤ) → left ≡ rule ∷ later → SameRecording least left all
    → least < rule_end later → IsFirstMoment rule (rule_end later) least start → ArePointsFrom least all (points_left left start)
points_here least all left rule later start e same within first moment tick =
    let also = subst (λ l. IsTimePoint least l moment tick ↔ IsTimePoint least all moment tick) e (same moment tick) in
    subst (λ l. IsPointFrom l start moment tick ↔ IsTimePoint least all moment tick) (sym e)
    (λ point. also.0 (inl (within, start, first, point)), λ point. back (also.1 point))
  where
    back : IsTimePoint least (rule ∷ later) moment tick → IsPointFrom (rule ∷ later) start moment tick
    back (inl (h, from, its, point)) =
        subst (λ z. IsPointFrom (rule ∷ later) z moment tick) (one_first_moment rule (rule_end later) least from start its first) point
    back (inr (h, point)) = absurd (omega (arith, h, within))
