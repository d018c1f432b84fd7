-- Where the time packets of a recording stand: at which moments, and at which ticks.
use Rattle.std.specs.Prelude.{ℕ, ◌<◌, ◌≤◌, ◌≡◌, ◌⊎◌, ◌↔◌, List, [], ◌∷◌, ℤ, pos, ◌+ℤ◌, ◌<ℤ◌, ◌≤ℤ◌}
use Rattle.ch11_clock.specs.declared.origin.Origin.{Origin}
use Rattle.ch11_clock.specs.Clock.{time_under, clock_time, AreAscending, rule_end}
use Rattle.ch11_clock.specs.Moments.{nanos_of, IsTick, IsTickOf, HasTick, IsLastAt, IsFirstFrom}
use Rattle.ch11_clock.specs.Moments.{IsWholeSecond}
use Rattle.ch11_clock.specs.Moments.{IsMoment}

-- ---- the time packets of a recording

-- a time packet stands at this moment with this tick, under a rule that ends at a counter: its
-- first moment is `start`, and each whole second behind that follows
pub record IsPointOf (rule : Origin) (end : ℕ) (start moment : ℤ) (tick : ℕ) : Type 0 where
  pub has : IsTickOf rule end moment tick
  pub due : (moment ≡ start) ⊎ (IsWholeSecond moment × (start <ℤ moment))

-- one stands there under one of these rules, each of which begins a new time: its first moment is
-- the first at or behind the time of its beginning
abbrev pub IsLaterPoint : List Origin → ℤ → ℕ → Type 0
IsLaterPoint [] moment tick = ⊥
IsLaterPoint (rule ∷ rules) moment tick =
    ((start : ℤ) × IsFirstFrom (time_under rule rule.counter) start
    × IsPointOf rule (rule_end rules) start moment tick)
    ⊎ IsLaterPoint rules moment tick

-- one stands there, under a rule with this first moment, or under one of those that follow
abbrev pub IsPointFrom : List Origin → (start moment : ℤ) (tick : ℕ) → Type 0
IsPointFrom [] start moment tick = ⊥
IsPointFrom (rule ∷ rules) start moment tick =
    IsPointOf rule (rule_end rules) start moment tick ⊎ IsLaterPoint rules moment tick

-- the first moment of a recording, under the rule that holds at its least counter: the last that
-- isn't behind that counter's time, or the next one where that has no tick under the rule; where
-- the next one has none either, no moment behind it has one
abbrev pub IsFirstMoment : (rule : Origin) (end least : ℕ) (moment : ℤ) → Type 0
IsFirstMoment rule end least moment =
    (IsLastAt (time_under rule least) moment × HasTick rule end moment)
    ⊎ ((before : ℤ) × IsLastAt (time_under rule least) before × (¬ HasTick rule end before)
    × (moment ≡ before +ℤ pos 1))

-- a time packet stands there in a recording with this least counter, by the origins that hold
abbrev pub IsTimePoint : (least : ℕ) → List Origin → (moment : ℤ) (tick : ℕ) → Type 0
IsTimePoint least [] moment tick = ⊥
IsTimePoint least (rule ∷ rules) moment tick =
    ((least < rule_end rules) × (start : ℤ) × IsFirstMoment rule (rule_end rules) least start
    × IsPointFrom (rule ∷ rules) start moment tick)
    ⊎ ((rule_end rules ≤ least) × IsTimePoint least rules moment tick)

-- the clock's time of a tick isn't earlier than a moment, and less than 100 ns later
abbrev pub AgreesWithClock : List Origin → (moment : ℤ) (tick : ℕ) → Type 0
AgreesWithClock rules moment tick =
    (nanos_of moment ≤ℤ clock_time rules tick)
    × (clock_time rules tick <ℤ (nanos_of moment +ℤ pos 100))

-- ---- a walk over them

-- the time packets that are still to come: under which rules, and the first moment of the first of
-- these
pub record PointsLeft : Type 0 where
  pub rules : List Origin
  pub start : ℤ

abbrev pub points_left : List Origin → ℤ → PointsLeft
points_left rules start = record { rules = rules; start = start }

-- these are still to come of a recording with this least counter
abbrev pub ArePointsFrom : (least : ℕ) → List Origin → PointsLeft → Type 0
ArePointsFrom least rules left =
    (moment : ℤ) (tick : ℕ)
    → IsPointFrom left.rules left.start moment tick ↔ IsTimePoint least rules moment tick

-- of those that were still to come this one has the least tick, and those with a greater one are
-- left
pub record IsNextPoint (old new : PointsLeft) (moment : ℤ) (tick : ℕ) : Type 0 where
  pub is : IsPointFrom old.rules old.start moment tick
  pub least : (other : ℤ) (its : ℕ) → IsPointFrom old.rules old.start other its → tick ≤ its
  pub left_are : (other : ℤ) (its : ℕ)
      → IsPointFrom new.rules new.start other its
      ↔ (IsPointFrom old.rules old.start other its × (tick < its))

-- none is still to come
abbrev pub HasNoPoint : PointsLeft → Type 0
HasNoPoint left = (moment : ℤ) (tick : ℕ) → ¬ IsPointFrom left.rules left.start moment tick

-- ---- what a walk keeps

-- a rule has begun at a moment: it has a tick that isn't ahead of the rule
pub record HasBegun (rule : Origin) (moment : ℤ) : Type 0 where
  pub tick : ℕ
  pub is : IsTick rule moment tick
  pub begun : rule.counter ≤ tick

-- the first of these rules has begun at this moment
abbrev pub FirstHasBegun : List Origin → (start : ℤ) → Type 0
FirstHasBegun [] start = Unit {0}
FirstHasBegun (rule ∷ rules) start = HasBegun rule start

-- the first of these rules, if there is one, holds at a counter or earlier
abbrev pub HoldsFrom : List Origin → (counter : ℕ) → Type 0
HoldsFrom [] counter = Unit {0}
HoldsFrom (rule ∷ rules) counter = rule.counter ≤ counter

-- the rules of a walk begin one behind the other, and the first has begun at its first moment
pub record IsWalk (rules : List Origin) (start : ℤ) : Type 0 where
  pub ascending : AreAscending rules
  pub begun : FirstHasBegun rules start
  pub in_range : IsMoment start
