-- The body of a time packet is read back.
use Rattle.std.proofs.Common.{ℕ, ◌+◌, ◌*◌, ◌/◌, ◌%◌, ◌<◌, ◌≡◌, Bool, true, false, cond, refl, arith, pos}
use Rattle.jiff_core.specs.Calendar.{is_leap_year}
use Rattle.jiff_core.proofs.CalendarLemmas.{days_in_month_bounds}
use Rattle.ch11_clock.specs.declared.civil.CivilTime.{CivilTime}
use Rattle.ch11_clock.specs.CivilTime.{IsCivilTime}
use Rattle.ch11_clock.specs.TimeBody.{bcd, time_bytes}
use Rattle.ch11_clock.specs.TimeRead.{SaysCivilTime, civil_time_in, two_digits_in}
use Rattle.ch11_clock.proofs.OneCivilTime.{same_parts}

digits_read : (number : ℕ) → number < 100 → two_digits_in (bcd number) ≡ number
digits_read number small = omega arith

source_read : (source leap : Bool) → ((cond source 1 0) + 48 + (cond leap 256 0) + 512) % 256 % 16 ≡ cond source 1 0
source_read true true = refl
source_read true false = refl
source_read false true = refl
source_read false false = refl

format_read : (source leap : Bool) → ((cond source 1 0) + 48 + (cond leap 256 0) + 512) % 256 / 16 ≡ 3
format_read true true = refl
format_read true false = refl
format_read false true = refl
format_read false false = refl

leap_read : (source leap : Bool) → ((cond source 1 0) + 48 + (cond leap 256 0) + 512) / 256 % 256 % 2 ≡ cond leap 1 0
leap_read true true = refl
leap_read true false = refl
leap_read false true = refl
leap_read false false = refl

date_read : (source leap : Bool) → ((cond source 1 0) + 48 + (cond leap 256 0) + 512) / 256 % 256 / 2 ≡ 1
date_read true true = refl
date_read true false = refl
date_read false true = refl
date_read false false = refl

pub time_read : (is_external : Bool) (time : CivilTime) → IsCivilTime time → SaysCivilTime (time_bytes is_external time) is_external time
time_read is_external time is = record {
  len = refl;
  source = source_read is_external leap;
  format = format_read is_external leap;
  leap = leap_read is_external leap;
  date = date_read is_external leap;
  time_is = same_parts (civil_time_in (time_bytes is_external time)) time year
      (digits_read time.month (let month = is.month_in in omega (arith, month)))
      (digits_read time.day day_small)
      (digits_read time.hour (let hour = is.hour_in in omega (arith, hour)))
      (digits_read time.minute (let minute = is.minute_in in omega (arith, minute)))
      (digits_read time.second (let second = is.second_in in omega (arith, second)))
      (digits_read time.hundredth is.hundredth_in);
}
  where
    leap : Bool
    leap = is_leap_year (pos time.year)

    day_small : time.day < 100
    day_small = let most = days_in_month_bounds (pos time.year) time.month in let day = is.day_in in omega (arith, most, day)

    year : two_digits_in (bcd (time.year / 100)) * 100 + two_digits_in (bcd (time.year % 100)) ≡ time.year
    year =
        let here = is.year_in in
        let high = digits_read (time.year / 100) (omega (arith, here)) in
        let low = digits_read (time.year % 100) (omega arith) in
        omega (arith, high, low)
