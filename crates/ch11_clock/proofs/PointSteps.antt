-- One time packet, and those that stand behind it.
use Rattle.std.proofs.Common.{◌≡◌, ℕ, ◌+◌, ◌-◌, ◌/◌, ◌<◌, ◌≤◌, ◌^◌, ◌⊎◌, inl, inr, List, [], ◌∷◌, refl, sym, subst, ap, ◌∙◌, arith, ℤ, pos, ◌+ℤ◌, ◌<ℤ◌, ◌≤ℤ◌}
use Rattle.std.specs.Prelude.{◌↔◌}
use Rattle.jiff_core.proofs.SignedLemmas.{signed_arith}
use Rattle.std.proofs.lemmas.Int.{by_lt_z}
use borrow.Author.Differences.{up, down}
use Rattle.ch11_clock.specs.declared.origin.Origin.{Origin}
use Rattle.ch11_clock.specs.Clock.{time_under, BeginBehind, AreAscending, rule_end}
use Rattle.ch11_clock.specs.Moments.{IsTick, nanos_of, IsFirstFrom, IsNextSecond, IsWholeSecond}
use Rattle.ch11_clock.specs.TimePoints.{points_left, IsPointOf, IsLaterPoint, IsPointFrom, HasBegun, FirstHasBegun, IsNextPoint}
use Rattle.ch11_clock.proofs.TickOrder.{ticks_rise, ticks_part, one_tick, one_first, tick_from, seconds_behind}

-- a moment that isn't 100 ns ahead of counter 0 has a tick
pub some_tick : (origin : Origin) (moment : ℤ) → origin.nanos <ℤ (nanos_of moment +ℤ pos 100) → (tick : ℕ) × IsTick origin moment tick
some_tick origin moment h =
    let t = nanos_of moment in
    let o = origin.nanos in
    ((up t + down o + 99 - (down t + up o)) / 100, record { reached = omega (arith, signed_arith); first = omega (arith, signed_arith) })

-- each later moment has a tick too
pub has_later : (rule : Origin) (moment later : ℤ) → HasBegun rule moment → moment ≤ℤ later → HasBegun rule later
has_later rule moment later has h =
    let is = has.is in
    let some = some_tick rule later (omega (arith, signed_arith, is)) in
    record {
      tick = some.0;
      is = some.1;
      begun = let rise = ticks_rise rule moment later has.tick some.0 is some.1 h in let begun = has.begun in omega
          (arith, rise, begun);
    }

-- so has the first moment of a later rule
pub has_first : (rule : Origin) (moment : ℤ) → IsFirstFrom (time_under rule rule.counter) moment → HasBegun rule moment
has_first rule moment first =
    let some = some_tick rule moment (omega (arith, signed_arith, first)) in
    record { tick = some.0; is = some.1; begun = tick_from rule rule.counter moment some.0 some.1 first.reached }

-- no time packet is due ahead of the first moment
pub not_ahead : (rule : Origin) (end : ℕ) (start moment : ℤ) (tick : ℕ) → IsPointOf rule end start moment tick → start ≤ℤ moment
not_ahead rule end start moment tick point =
    elim point.due [ inl same ↦ omega (arith, signed_arith, same) | inr behind ↦ omega (arith, signed_arith, behind.1) ]

-- where a moment's tick isn't within a rule, no time packet of the rule is due from it on
pub none_due : (rule : Origin) (end : ℕ) (start moment : ℤ) (tick its : ℕ) → IsTick rule start tick → end ≤ tick → IsPointOf rule end start moment its → ⊥
none_due rule end start moment tick its is h point =
    let within = point.has.within in
    let rise = ticks_rise rule start moment tick its is point.has.is (not_ahead rule end start moment its point) in
    omega (arith, rise, within)

pub end_behind : (counter : ℕ) (rules : List Origin) (moment : ℤ) (tick : ℕ) → BeginBehind counter rules → IsLaterPoint rules moment tick
    → counter < rule_end rules
end_behind counter [] moment tick behind point = absurd point
end_behind counter (rule ∷ rules) moment tick behind point = behind.0

-- time packets of later rules have no tick ahead of these
pub later_from : (counter : ℕ) (rules : List Origin) (moment : ℤ) (tick : ℕ) → BeginBehind counter rules → IsLaterPoint rules moment tick
    → rule_end rules ≤ tick
later_from counter [] moment tick behind point = absurd point
later_from counter (rule ∷ rules) moment tick behind (inl (start, first, point)) = point.has.begun
later_from counter (rule ∷ rules) moment tick behind (inr point) =
    let rest = later_from rule.counter rules moment tick behind.1 point in
    let end = end_behind rule.counter rules moment tick behind.1 point in
    omega (arith, rest, end)

-- ---- the next time packet

-- under a rule that has no time packet any more, the time packets are those of the rules behind it
pub passed : (rule next : Origin) (rules : List Origin) (start begins : ℤ) (tick : ℕ) → IsTick rule start tick → next.counter ≤ tick
    → IsFirstFrom (time_under next next.counter) begins → (moment : ℤ) (its : ℕ)
    → IsPointFrom (rule ∷ next ∷ rules) start moment its ↔ IsPointFrom (next ∷ rules) begins moment its
passed rule next rules start begins tick is h first moment its = (forth, back)
  where
    forth : IsPointFrom (rule ∷ next ∷ rules) start moment its → IsPointFrom (next ∷ rules) begins moment its
    forth (inl point) = absurd (none_due rule next.counter start moment tick its is h point)
    forth (inr (inl (other, also, point))) =
        inl (subst (λ z. IsPointOf next (rule_end rules) z moment its) (one_first (time_under next next.counter) other begins also first) point)
    forth (inr (inr point)) = inr point

    back : IsPointFrom (next ∷ rules) begins moment its → IsPointFrom (rule ∷ next ∷ rules) start moment its
    back (inl point) = inr (inl (begins, first, point))
    back (inr point) = inr (inr point)

pub passed_last : (rule : Origin) (start moment : ℤ) (tick its : ℕ) → IsTick rule start tick → 2 ^ 48 ≤ tick → IsPointFrom (rule ∷ []) start moment its → ⊥
passed_last rule start moment tick its is h (inl point) = none_due rule (2 ^ 48) start moment tick its is h point
passed_last rule start moment tick its is h (inr point) = absurd point

-- the first moment, with its tick, is the next time packet
pub next_point : (rule : Origin) (rules : List Origin) (start next : ℤ) (tick : ℕ) → AreAscending (rule ∷ rules) → HasBegun rule start
    → IsTick rule start tick
    → tick < rule_end rules → IsNextSecond start next → IsNextPoint (points_left (rule ∷ rules) start) (points_left (rule ∷ rules) next) start tick
next_point rule rules start next tick ascending has is within second = record {
  is = inl (record { has = record { is = is; begun = begun; within = within }; due = inl refl });
  least = least;
  left_are = λ other its. (forth other its, back other its);
}
  where
    begun : rule.counter ≤ tick
    begun = let same = one_tick rule start tick has.tick is has.is in let at = has.begun in omega (arith, same, at)

    rises : (other : ℤ) (its : ℕ) → IsPointOf rule (rule_end rules) start other its → tick ≤ its
    rises other its point = ticks_rise rule start other tick its is point.has.is (not_ahead rule (rule_end rules) start other its point)

    least : (other : ℤ) (its : ℕ) → IsPointFrom (rule ∷ rules) start other its → tick ≤ its
    least other its (inl point) = rises other its point
    least other its (inr point) = let from = later_from rule.counter rules other its ascending point in omega (arith, from, within)

    forth_due : (other : ℤ) → (other ≡ next) ⊎ (IsWholeSecond other × (next <ℤ other)) → IsWholeSecond other × (start <ℤ other)
    forth_due other (inl same) = (subst IsWholeSecond (sym same) second.whole, let behind = second.behind in omega (arith, signed_arith, same, behind))
    forth_due other (inr later) = (later.0, let behind = second.behind in let more = later.1 in omega (arith, signed_arith, more, behind))

    forth : (other : ℤ) (its : ℕ) → IsPointFrom (rule ∷ rules) next other its → IsPointFrom (rule ∷ rules) start other its × (tick < its)
    forth other its (inl point) =
        let due = forth_due other point.due in
        (inl (record { has = point.has; due = inr due }), ticks_part rule start other tick its is point.has.is due.1)
    forth other its (inr point) = (inr point, let from = later_from rule.counter rules other its ascending point in omega (arith, from, within))

    back_due : (other : ℤ) → next ≤ℤ other → IsWholeSecond other → (other ≡ next) ⊎ (IsWholeSecond other × (next <ℤ other))
    back_due other h whole = by_lt_z next other (λ behind. inr (whole, behind)) (λ not. inl (omega (arith, signed_arith)))

    back_point : (other : ℤ) (its : ℕ) → IsPointOf rule (rule_end rules) start other its → tick < its
        → (other ≡ start) ⊎ (IsWholeSecond other × (start <ℤ other))
        → IsPointFrom (rule ∷ rules) next other its
    back_point other its point h (inl same) =
        let also = subst (λ z. IsTick rule z its) same point.has.is in
        let one = one_tick rule start tick its is also in
        absurd (omega (arith, one, h))
    back_point other its point h (inr later) =
        let from = seconds_behind start next other second later.0 later.1 in
        inl (record { has = point.has; due = back_due other from later.0 })

    back : (other : ℤ) (its : ℕ) → IsPointFrom (rule ∷ rules) start other its × (tick < its) → IsPointFrom (rule ∷ rules) next other its
    back other its (inl point, h) = back_point other its point h point.due
    back other its (inr point, h) = inr point

-- ---- a walk over the rules

-- these time packets are those
abbrev pub SamePoints : List Origin → ℤ → List Origin → ℤ → Type 0
SamePoints left from all start = (moment : ℤ) (tick : ℕ) → IsPointFrom left from moment tick ↔ IsPointFrom all start moment tick

pub next_among : (all : List Origin) (start : ℤ) (left : List Origin) (from : ℤ) (rule : Origin) (later : List Origin) (next : ℤ) (tick : ℕ)
    → left ≡ rule ∷ later → SamePoints left from all start → AreAscending left → FirstHasBegun left from → IsTick rule from tick → tick < rule_end later
    → IsNextSecond from next → IsNextPoint (points_left all start) (points_left left next) from tick
next_among all start left from rule later next tick e same ascending begun is within second =
    let has : HasBegun rule from = subst (λ l. FirstHasBegun l from) e begun in
    let one = next_point rule later from next tick (subst AreAscending e ascending) has is within second in
    let here : IsNextPoint (points_left left from) (points_left left next) from tick = subst
    (λ l. IsNextPoint (points_left l from) (points_left l next) from tick) (sym e) one in
    record {
      is = (same from tick).0 here.is;
      least = λ other its point. here.least other its ((same other its).1 point);
      left_are = λ other its. (
        λ point. let h = (here.left_are other its).0 point in ((same other its).0 h.0, h.1),
        λ h. (here.left_are other its).1 ((same other its).1 h.0, h.1),
      );
    }

pub begun_later : (left : List Origin) (from next : ℤ) → FirstHasBegun left from → from <ℤ next → FirstHasBegun left next
begun_later [] from next begun h = tt
begun_later (rule ∷ later) from next begun h = has_later rule from next begun (omega (arith, signed_arith))

pub ascending_rest : (counter : ℕ) (later : List Origin) → BeginBehind counter later → AreAscending later
ascending_rest counter [] behind = tt
ascending_rest counter (next ∷ later) behind = behind.1

pub ascending_later : (left : List Origin) (rule : Origin) (later : List Origin) → left ≡ rule ∷ later → AreAscending left → AreAscending later
ascending_later left rule later e ascending = ascending_rest rule.counter later (subst AreAscending e ascending)

-- the tick of the first rule's moment isn't within the rule, so the time packets are those of the rules behind it
pub same_behind : (all : List Origin) (start : ℤ) (left : List Origin) (from : ℤ) (rule next : Origin) (later behind : List Origin) (begins : ℤ)
    → left ≡ rule ∷ later → later ≡ next ∷ behind → SamePoints left from all start → FirstHasBegun left from
    → ((tick : ℕ) → IsTick rule from tick → rule_end later ≤ tick) → IsFirstFrom (time_under next next.counter) begins
    → SamePoints later begins all start
same_behind all start left from rule next later behind begins e f same begun none first moment tick =
    let has : HasBegun rule from = subst (λ l. FirstHasBegun l from) e begun in
    let step = passed rule next behind from begins has.tick has.is (subst (λ l. rule_end l ≤ has.tick) f (none has.tick has.is)) first moment tick in
    let whole : left ≡ rule ∷ next ∷ behind = e ∙ ap (λ l. rule ∷ l) f in
    let also = subst (λ l. IsPointFrom l from moment tick ↔ IsPointFrom all start moment tick) whole (same moment tick) in
    subst (λ l. IsPointFrom l begins moment tick ↔ IsPointFrom all start moment tick) (sym f) (λ point. also.0 (step.1 point), λ point. step.0 (also.1 point))

pub same_none : (all : List Origin) (start : ℤ) (left : List Origin) (from : ℤ) (rule : Origin) (later : List Origin) (begins : ℤ)
    → left ≡ rule ∷ later → later ≡ [] → SamePoints left from all start → FirstHasBegun left from
    → ((tick : ℕ) → IsTick rule from tick → rule_end later ≤ tick) → SamePoints later begins all start
same_none all start left from rule later begins e f same begun none moment tick =
    let has : HasBegun rule from = subst (λ l. FirstHasBegun l from) e begun in
    let far : 2 ^ 48 ≤ has.tick = subst (λ l. rule_end l ≤ has.tick) f (none has.tick has.is) in
    let whole : left ≡ rule ∷ [] = e ∙ ap (λ l. rule ∷ l) f in
    let also = subst (λ l. IsPointFrom l from moment tick ↔ IsPointFrom all start moment tick) whole (same moment tick) in
    subst (λ l. IsPointFrom l begins moment tick ↔ IsPointFrom all start moment tick) (sym f)
    (λ point. absurd point, λ point. absurd (passed_last rule from moment has.tick tick has.is far (also.1 point)))
