-- The counters of several recordings by the clock of one file.
use Rattle.std.specs.Prelude.{ℕ, ◌*◌, ℤ, pos, ◌+ℤ◌, ◌<ℤ◌, ◌≤ℤ◌}

-- the time of a counter by a clock that begins there, in nanoseconds since 1970: a tick is 100 ns
abbrev pub time_from : (start : ℤ) → (counter : ℕ) → ℤ
time_from start counter = start +ℤ pos (counter * 100)

-- the counter is the nearest to a time; where the time lies in the middle of two, it is the later
-- one
pub record IsMoved (start time : ℤ) (counter : ℕ) : Type 0 where
  pub not_late : time_from start counter ≤ℤ (time +ℤ pos 50)
  pub not_early : time <ℤ (time_from start counter +ℤ pos 50)

-- two times lie within 50 ns of each other
pub record LieWithin50 (time other : ℤ) : Type 0 where
  pub not_late : other ≤ℤ (time +ℤ pos 50)
  pub not_early : time ≤ℤ (other +ℤ pos 50)
