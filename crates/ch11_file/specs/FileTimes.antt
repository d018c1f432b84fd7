-- Which time packets a file has: the first, and the one behind another.
use Rattle.std.specs.Prelude.{ℕ, ◌^◌, ◌<◌, ◌≤◌, ◌≡◌, ◌⊎◌, ◌↔◌, List, ℤ, Option, None, Some}
use Rattle.ch11_clock.specs.declared.origin.Origin.{Origin}
use Rattle.ch11_clock.specs.declared.time_point.TimePoint.{TimePoint}
use Rattle.ch11_clock.specs.TimePoints.{IsTimePoint, IsPointFrom, PointsLeft}

-- the first time packet of a recording with this least counter stands at this moment with this tick
pub record IsFirstTime (least : ℕ) (rules : List Origin) (moment : ℤ) (tick : ℕ) : Type 0 where
  pub is : IsTimePoint least rules moment tick
  pub first : (other : ℤ) (its : ℕ) → IsTimePoint least rules other its → tick ≤ its

-- it has none
abbrev pub HasNoTime : (least : ℕ) → List Origin → Type 0
HasNoTime least rules = (moment : ℤ) (tick : ℕ) → ¬ IsTimePoint least rules moment tick

-- none has a greater tick than this
abbrev pub HasNoTimeBehind : (least : ℕ) → List Origin → (tick : ℕ) → Type 0
HasNoTimeBehind least rules tick =
    (moment : ℤ) (its : ℕ) → IsTimePoint least rules moment its → its ≤ tick

-- this is the least tick behind another
pub record IsTickBehind (least : ℕ) (rules : List Origin) (tick next : ℕ) : Type 0 where
  pub moment : ℤ
  pub is : IsTimePoint least rules moment next
  pub behind : tick < next
  pub first : (other : ℤ) (its : ℕ) → IsTimePoint least rules other its → tick < its → next ≤ its

-- the tick of the time packet behind that of a tick: where there is none, 2^48, which no counter
-- reaches
abbrev pub IsNextTick : (least : ℕ) → List Origin → (tick next : ℕ) → Type 0
IsNextTick least rules tick next =
    IsTickBehind least rules tick next
    ⊎ (HasNoTimeBehind least rules tick × (tick < next) × (next ≡ 2 ^ 48))

-- ---- a walk over them

-- of a time packet, if there is one
abbrev pub tick_of : Option TimePoint → ℕ
tick_of None = 2 ^ 48
tick_of (Some point) = point.tick

-- the next time packet is one of the recording, and those with greater ticks are left behind it
abbrev pub WalksTimes : (least : ℕ) → List Origin → Option TimePoint → PointsLeft → Type 0
WalksTimes least rules None left = Unit {0}
WalksTimes least rules (Some point) left =
    IsTimePoint least rules point.moment point.tick
    × ((moment : ℤ) (tick : ℕ) → IsPointFrom left.rules left.start moment tick
    ↔ (IsTimePoint least rules moment tick × (point.tick < tick)))
