-- The origins that hold, of those that were noted.
use Rattle.std.proofs.Common.{◌≡◌, ℕ, ◌+◌, ◌-◌, ◌<◌, ◌≤◌, ◌^◌, ◌⊎◌, inl, inr, Bool, true, false, cond, nat_le, nat_lt, ◌||◌, List, [], ◌∷◌, ◌++◌, length}
use Rattle.std.proofs.Common.{get_or, drop, refl, sym, subst, ap, ◌∙◌, arith, pos, ◌+ℤ◌, ◌*◌}
use Rattle.std.specs.List.{list_any}
use Rattle.std.specs.Prelude.{reverse}
use Rattle.std.proofs.lemmas.Bool.{cases_Bool}
use Rattle.std.proofs.lemmas.List.{drop_more, reverse-append}
use Rattle.std.proofs.lemmas.Bool.Decides.{nat_tests}
use Rattle.ch11_clock.specs.declared.origin.Origin.{Origin}
use Rattle.ch11_clock.specs.Clock.{from_start, started, AreStarted, held_origins, origin_at, clock_time, time_under, IsClock, AreAscending, rule_end}

abbrev pub begins_by : ℕ → Origin → Bool
begins_by counter later = nat_le later.counter counter

some_step : (counter : ℕ) (origin : Origin) (rest : List Origin) (here also : Bool) → also ≡ nat_le (rule_end rest) origin.counter
    → here ≡ nat_le (rule_end rest) counter
    → (nat_le origin.counter counter || here) ≡ nat_le (rule_end (cond also rest (origin ∷ rest))) counter
some_step counter origin rest here true e h = grind (arith, nat_tests)
some_step counter origin rest here false e h = grind (arith, nat_tests)

-- some of these origins begins at a counter or earlier where the first that holds does
pub some_begins : (counter : ℕ) (origins : List Origin) → counter < 2 ^ 48
    → list_any (begins_by counter) origins ≡ nat_le (rule_end (held_origins origins)) counter
some_begins counter [] h = grind (arith, nat_tests)
some_begins counter (origin ∷ origins) h =
    some_step counter origin (held_origins origins) (list_any (begins_by counter) origins) (list_any (begins_by origin.counter) origins)
    (some_begins origin.counter origins origin.in_range.counter_in) (some_begins counter origins h)

-- one more origin ahead holds where it begins ahead of the first that holds
pub rules_more : (origin : Origin) (origins : List Origin) → held_origins (origin ∷ origins)
    ≡ cond (nat_lt origin.counter (rule_end (held_origins origins))) (origin ∷ held_origins origins) (held_origins origins)
rules_more origin origins = step (some_begins origin.counter origins origin.in_range.counter_in)
  where
    step : list_any (begins_by origin.counter) origins ≡ nat_le (rule_end (held_origins origins)) origin.counter
        → held_origins (origin ∷ origins) ≡ cond (nat_lt origin.counter (rule_end (held_origins origins))) (origin ∷ held_origins origins)
        (held_origins origins)
    step e = rw e (grind (arith, nat_tests))

-- ---- the origins that hold begin one behind the other

ascending_step : (origin : Origin) (rest : List Origin) (also : Bool) → also ≡ nat_le (rule_end rest) origin.counter → AreAscending rest
    → AreAscending (cond also rest (origin ∷ rest))
ascending_step origin rest true e are = are
ascending_step origin [] false e are = tt
ascending_step origin (next ∷ rest) false e are = (grind (arith, nat_tests), are)

pub rules_ascend : (origins : List Origin) → AreAscending (held_origins origins)
rules_ascend [] = tt
rules_ascend (origin ∷ origins) =
    ascending_step origin (held_origins origins) (list_any (begins_by origin.counter) origins)
    (some_begins origin.counter origins origin.in_range.counter_in) (rules_ascend origins)

-- ---- they give each counter its time

-- where a later origin has begun, those before it make no difference
overridden : (first other : Origin) (origins : List Origin) (counter : ℕ) → list_any (begins_by counter) origins ≡ true
    → origin_at first origins counter ≡ origin_at other origins counter
overridden first other [] counter h = cc
overridden first other (origin ∷ origins) counter h = by_case (cases_Bool (nat_le origin.counter counter)) (overridden first other origins counter)
  where
    by_case : (nat_le origin.counter counter ≡ true) ⊎ (nat_le origin.counter counter ≡ false)
        → (list_any (begins_by counter) origins ≡ true → origin_at first origins counter ≡ origin_at other origins counter)
        → origin_at first (origin ∷ origins) counter ≡ origin_at other (origin ∷ origins) counter
    by_case (inl e) rest = rw e refl
    by_case (inr e) rest = rw e (rest (rw e at h))

later_begin : (counter least : ℕ) (origins : List Origin) → least ≤ counter → list_any (begins_by least) origins ≡ true
    → list_any (begins_by counter) origins ≡ true
later_begin counter least [] h e = cc
later_begin counter least (origin ∷ origins) h e = step (nat_le origin.counter least) (list_any (begins_by least) origins)
    (list_any (begins_by counter) origins) refl e (later_begin counter least origins h)
  where
    step : (here rest more : Bool) → nat_le origin.counter least ≡ here → (here || rest) ≡ true → (rest ≡ true → more ≡ true)
        → (nat_le origin.counter counter || more) ≡ true
    step true rest more a b f = grind (arith, nat_tests)
    step false rest more a b f = rw (f b) (grind (arith, nat_tests))

same_here : (first origin : Origin) (origins : List Origin) (counter : ℕ) → list_any (begins_by origin.counter) origins ≡ true
    → origin_at first (origin ∷ origins) counter ≡ origin_at first origins counter
same_here first origin origins counter e = by_case (cases_Bool (nat_le origin.counter counter))
  where
    by_case : (nat_le origin.counter counter ≡ true) ⊎ (nat_le origin.counter counter ≡ false)
        → origin_at first (origin ∷ origins) counter ≡ origin_at first origins counter
    by_case (inl h) = rw h (overridden origin first origins counter (later_begin counter origin.counter origins (grind (arith, nat_tests)) e))
    by_case (inr h) = rw h refl

same_origin : (first : Origin) (origins : List Origin) (counter : ℕ) → origin_at first origins counter ≡ origin_at first (held_origins origins) counter
same_origin first [] counter = refl
same_origin first (origin ∷ origins) counter =
    by_case (cases_Bool (list_any (begins_by origin.counter) origins)) (same_origin first origins counter)
    (same_origin (cond (nat_le origin.counter counter) origin first) origins counter)
  where
    by_case : (list_any (begins_by origin.counter) origins ≡ true) ⊎ (list_any (begins_by origin.counter) origins ≡ false)
        → origin_at first origins counter ≡ origin_at first (held_origins origins) counter
        → origin_at first (origin ∷ origins) counter ≡ origin_at (cond (nat_le origin.counter counter) origin first) (held_origins origins) counter
        → origin_at first (origin ∷ origins) counter ≡ origin_at first (held_origins (origin ∷ origins)) counter
    by_case (inl e) rest more = same_here first origin origins counter e ∙ rest
        ∙ ap (λ b. origin_at first (cond b (held_origins origins) (origin ∷ held_origins origins)) counter) (sym e)
    by_case (inr e) rest more = more ∙ ap (λ b. origin_at first (cond b (held_origins origins) (origin ∷ held_origins origins)) counter) (sym e)

first_of_rules : (first : Origin) (rest : List Origin) (counter : ℕ) → nat_le (rule_end rest) 0 ≡ true
    → clock_time rest counter ≡ time_under (origin_at first rest counter) counter
first_of_rules first [] counter e = cc
first_of_rules first (rule ∷ rest) counter e =
    let h : nat_le rule.counter counter ≡ true = grind (arith, nat_tests) in
    ap (λ b. time_under (origin_at (cond b rule first) rest counter) counter) (sym h)

-- the origins that hold give each counter the time that all give it
pub same_time : (origins : List Origin) (counter : ℕ) → AreStarted origins → clock_time (held_origins origins) counter ≡ clock_time origins counter
same_time [] counter started = refl
same_time (first ∷ origins) counter started = by_case (cases_Bool (list_any (begins_by first.counter) origins)) (same_origin first origins counter)
  where
    by_case : (list_any (begins_by first.counter) origins ≡ true) ⊎ (list_any (begins_by first.counter) origins ≡ false)
        → origin_at first origins counter ≡ origin_at first (held_origins origins) counter
        → clock_time (held_origins (first ∷ origins)) counter ≡ clock_time (first ∷ origins) counter
    by_case (inl e) same =
        let begins = some_begins first.counter origins first.in_range.counter_in in
        let at : nat_le (rule_end (held_origins origins)) 0 ≡ true = subst (λ n. nat_le (rule_end (held_origins origins)) n ≡ true) started (sym begins ∙ e) in
        ap (λ b. clock_time (cond b (held_origins origins) (first ∷ held_origins origins)) counter) e
        ∙ first_of_rules first (held_origins origins) counter at ∙ ap (λ o. time_under o counter) (sym same)
    by_case (inr e) same = ap (λ b. clock_time (cond b (held_origins origins) (first ∷ held_origins origins)) counter) e
        ∙ ap (λ o. time_under o counter) (sym same)

-- an origin that holds from counter 0 on gives the same times
same_nanos : (first other : Origin) (origins : List Origin) (counter : ℕ) → first.nanos ≡ other.nanos
    → time_under (origin_at first origins counter) counter ≡ time_under (origin_at other origins counter) counter
same_nanos first other [] counter e = ap (λ n. n +ℤ pos (counter * 100)) e
same_nanos first other (origin ∷ origins) counter e = by_case (cases_Bool (nat_le origin.counter counter)) (same_nanos first other origins counter e)
  where
    same : Origin → Bool → Type 0
    same origin begun = time_under (origin_at (cond begun origin first) origins counter) counter
        ≡ time_under (origin_at (cond begun origin other) origins counter) counter

    by_case : (nat_le origin.counter counter ≡ true) ⊎ (nat_le origin.counter counter ≡ false)
        → time_under (origin_at first origins counter) counter ≡ time_under (origin_at other origins counter) counter
        → time_under (origin_at first (origin ∷ origins) counter) counter ≡ time_under (origin_at other (origin ∷ origins) counter) counter
    by_case (inl h) rest = subst (same origin) (sym h) refl
    by_case (inr h) rest = subst (same origin) (sym h) rest

pub held_time : (origins : List Origin) (counter : ℕ) → clock_time (held_origins (started origins)) counter ≡ clock_time origins counter
held_time [] counter = refl
held_time (first ∷ origins) counter =
    same_time (from_start first ∷ origins) counter refl ∙ same_nanos (from_start first) first origins counter refl

-- ---- they are a clock

first_at_0 : (rules : List Origin) → rule_end rules ≤ 0 → AreStarted rules
first_at_0 [] h = absurd (omega (arith, h))
first_at_0 (rule ∷ rules) h = omega (arith, h)

held_start : (first : Origin) (origins : List Origin) → first.counter ≡ 0 → AreStarted (held_origins (first ∷ origins))
held_start first origins started = by_case (cases_Bool (list_any (begins_by first.counter) origins))
  where
    by_case : (list_any (begins_by first.counter) origins ≡ true) ⊎ (list_any (begins_by first.counter) origins ≡ false)
        → AreStarted (held_origins (first ∷ origins))
    by_case (inl e) =
        let begins = some_begins first.counter origins first.in_range.counter_in in
        let at : nat_le (rule_end (held_origins origins)) 0 ≡ true = subst (λ n. nat_le (rule_end (held_origins origins)) n ≡ true) started (sym begins ∙ e) in
        subst (λ b. AreStarted (cond b (held_origins origins) (first ∷ held_origins origins))) (sym e)
        (first_at_0 (held_origins origins) (grind (arith, nat_tests)))
    by_case (inr e) = subst (λ b. AreStarted (cond b (held_origins origins) (first ∷ held_origins origins))) (sym e) started

pub held_clock : (origins : List Origin) → 0 < length origins → IsClock (held_origins (started origins))
held_clock [] h = absurd (omega (arith, h))
held_clock (first ∷ origins) h = record {
  started = held_start (from_start first) origins refl;
  ascending = rules_ascend (from_start first ∷ origins);
}

pub length_started : (origins : List Origin) → length (started origins) ≡ length origins
length_started [] = refl
length_started (first ∷ origins) = refl

-- ---- the walk from the last origin to the first

drop_back : (origins : List Origin) (at : ℕ) (origin : Origin) → 0 < at → at ≤ length origins → origin ≡ get_or origins (at - 1) origin
    → drop (at - 1) origins ≡ origin ∷ drop at origins
drop_back origins at origin some within is =
    let next : at - 1 + 1 ≡ at = omega arith in
    drop_more origins (at - 1) origin (omega arith) ∙ (ap (λ o. o ∷ drop (at - 1 + 1) origins) (sym is) ∙ ap (λ k. origin ∷ drop k origins) next)

pub kept_more : (origins rules : List Origin) (at : ℕ) (origin : Origin) (end : ℕ) → 0 < at → at ≤ length origins → origin ≡ get_or origins (at - 1) origin
    → reverse rules ≡ held_origins (drop at origins) → end ≡ rule_end (held_origins (drop at origins)) → origin.counter < end
    → (reverse (rules ++ origin ∷ []) ≡ held_origins (drop (at - 1) origins)) × (origin.counter ≡ rule_end (held_origins (drop (at - 1) origins)))
kept_more origins rules at origin end some within is kept ends h =
    let back = drop_back origins at origin some within is in
    let test : nat_lt origin.counter (rule_end (held_origins (drop at origins))) ≡ true = grind (arith, nat_tests) in
    let more : held_origins (drop (at - 1) origins) ≡ origin ∷ held_origins (drop at origins) =
    ap held_origins back ∙ rules_more origin (drop at origins) ∙ ap (λ b. cond b (origin ∷ held_origins (drop at origins)) (held_origins (drop at origins)))
    test in
    (reverse-append rules (origin ∷ []) ∙ ap (λ l. origin ∷ l) kept ∙ sym more, ap rule_end (sym more))

pub passed_more : (origins rules : List Origin) (at : ℕ) (origin : Origin) (end : ℕ) → 0 < at → at ≤ length origins → origin ≡ get_or origins (at - 1) origin
    → reverse rules ≡ held_origins (drop at origins) → end ≡ rule_end (held_origins (drop at origins)) → end ≤ origin.counter
    → (reverse rules ≡ held_origins (drop (at - 1) origins)) × (end ≡ rule_end (held_origins (drop (at - 1) origins)))
passed_more origins rules at origin end some within is kept ends h =
    let back = drop_back origins at origin some within is in
    let test : nat_lt origin.counter (rule_end (held_origins (drop at origins))) ≡ false = grind (arith, nat_tests) in
    let more : held_origins (drop (at - 1) origins) ≡ held_origins (drop at origins) =
    ap held_origins back ∙ rules_more origin (drop at origins) ∙ ap (λ b. cond b (origin ∷ held_origins (drop at origins)) (held_origins (drop at origins)))
    test in
    (kept ∙ sym more, ends ∙ ap rule_end (sym more))
