-- Moments at which time packets may stand, in hundredths of a second since 1970-01-01, and their
-- ticks.
use Rattle.std.specs.Prelude.{ℕ, ◌<◌, ◌≤◌, ◌≡◌, ℤ, pos, neg_ℤ, ◌+ℤ◌, ◌*ℤ◌, ◌<ℤ◌, ◌≤ℤ◌}
use Rattle.std.specs.Int.{int_rem_euclid}
use Rattle.ch11_clock.specs.declared.origin.Origin.{Origin}
use Rattle.ch11_clock.specs.Clock.{time_under}

-- a moment in nanoseconds
abbrev pub nanos_of : ℤ → ℤ
nanos_of moment = moment *ℤ pos 10_000_000

-- ---- ticks

-- the tick of a moment under an origin: the first counter whose time isn't ahead of it
pub record IsTick (origin : Origin) (moment : ℤ) (tick : ℕ) : Type 0 where
  pub reached : nanos_of moment ≤ℤ time_under origin tick
  pub first : time_under origin tick <ℤ (nanos_of moment +ℤ pos 100)

-- the moment has this tick under the rule of an origin, which holds from its counter on and ends at
-- another
pub record IsTickOf (rule : Origin) (end : ℕ) (moment : ℤ) (tick : ℕ) : Type 0 where
  pub is : IsTick rule moment tick
  pub begun : rule.counter ≤ tick
  pub within : tick < end

-- the moment has a tick under that rule
abbrev pub HasTick : (rule : Origin) (end : ℕ) (moment : ℤ) → Type 0
HasTick rule end moment = (tick : ℕ) × IsTickOf rule end moment tick

-- ---- moments beside a time

-- the last moment that isn't behind a time
pub record IsLastAt (time moment : ℤ) : Type 0 where
  pub reached : nanos_of moment ≤ℤ time
  pub last : time <ℤ (nanos_of moment +ℤ pos 10_000_000)

-- the first moment at or behind a time
pub record IsFirstFrom (time moment : ℤ) : Type 0 where
  pub reached : time ≤ℤ nanos_of moment
  pub first : nanos_of moment <ℤ (time +ℤ pos 10_000_000)

-- a whole second
abbrev pub IsWholeSecond : ℤ → Type 0
IsWholeSecond moment = int_rem_euclid moment (pos 100) ≡ pos 0

-- the first whole second behind a moment
pub record IsNextSecond (moment next : ℤ) : Type 0 where
  pub whole : IsWholeSecond next
  pub behind : moment <ℤ next
  pub first : next ≤ℤ (moment +ℤ pos 100)

-- ---- ranges

-- a time that a counter can have lies less than 2 * 10^12 seconds from 1970
pub record IsTime (time : ℤ) : Type 0 where
  pub least : neg_ℤ (pos 2_000_000_000_000_000_000_000) <ℤ time
  pub most : time <ℤ pos 2_000_000_000_000_000_000_000

-- and so do the moments near it, less than 3 * 10^12
pub record IsMoment (moment : ℤ) : Type 0 where
  pub least : neg_ℤ (pos 300_000_000_000_000) <ℤ moment
  pub most : moment <ℤ pos 300_000_000_000_000
