-- The moments that a time packet tells: a date of the Gregorian calendar and a time of day to 10
-- ms.
use Rattle.std.specs.Prelude.{ℕ, ◌+◌, ◌*◌, ◌<◌, ◌≡◌, ℤ, pos, ◌+ℤ◌, ◌*ℤ◌}
use Rattle.std.specs.Int.{IsInRange}
use Rattle.jiff_core.specs.Calendar.{days_in_month, days_from_civil}
use Rattle.ch11_clock.specs.declared.civil.CivilTime.{CivilTime}

-- the day is in the calendar, in a year of 1 to 3999, and a clock shows the time
pub record IsCivilTime (time : CivilTime) : Type 0 where
  pub year_in : IsInRange 1 3999 time.year
  pub month_in : IsInRange 1 12 time.month
  pub day_in : IsInRange 1 (days_in_month (pos time.year) time.month) time.day
  pub hour_in : time.hour < 24
  pub minute_in : time.minute < 60
  pub second_in : time.second < 60
  pub hundredth_in : time.hundredth < 100

-- hundredths of a second since midnight
abbrev pub hundredths_of_day : CivilTime → ℕ
hundredths_of_day time =
    ((time.hour * 60 + time.minute) * 60 + time.second) * 100 + time.hundredth

-- hundredths of a second since 1970-01-01, by the number of days, which is counted by the lengths
-- of years and months
abbrev pub moment_of : CivilTime → ℤ
moment_of time =
    days_from_civil (pos time.year) time.month time.day *ℤ pos 8_640_000
    +ℤ pos (hundredths_of_day time)

-- the time is in the calendar, and is this moment
pub record IsTimeOf (time : CivilTime) (moment : ℤ) : Type 0 where
  pub valid : IsCivilTime time
  pub is : moment_of time ≡ moment
