-- A moment has one date and time of day, and the body of a time packet says one.
use Rattle.std.proofs.Common.{◌≡◌, ℕ, ◌+◌, ◌/◌, ◌%◌, ◌<◌, ◌≤◌, Bool, true, false, cond, get_or, refl, ap, arith, ℤ, pos}
use Rattle.jiff_core.specs.declared.civil.date.Date.{Date}
use Rattle.jiff_core.specs.Calendar.{days_from_civil, is_leap_year}
use Rattle.jiff_core.proofs.SignedLemmas.{signed_arith}
use Rattle.jiff_core.proofs.DateLemmas.{epoch_day_injective}
use Rattle.jiff_core.proofs.CalendarLemmas.{days_in_month_bounds}
use Rattle.ch11_clock.specs.declared.civil.CivilTime.{CivilTime}
use Rattle.ch11_clock.specs.CivilTime.{IsCivilTime, hundredths_of_day, IsTimeOf}
use Rattle.ch11_clock.specs.TimeBody.{bcd, time_bytes}

-- times with the same parts
abbrev made : (year month day hour minute second hundredth : ℕ) → CivilTime
made year month day hour minute second hundredth = record {
  year = year;
  month = month;
  day = day;
  hour = hour;
  minute = minute;
  second = second;
  hundredth = hundredth;
}

pub same_parts : (time other : CivilTime) → time.year ≡ other.year → time.month ≡ other.month → time.day ≡ other.day → time.hour ≡ other.hour
    → time.minute ≡ other.minute → time.second ≡ other.second → time.hundredth ≡ other.hundredth → time ≡ other
same_parts time other year month day hour minute second hundredth =
    let same : made time.year time.month time.day time.hour time.minute time.second time.hundredth
    ≡ made other.year other.month other.day other.hour other.minute other.second other.hundredth =
    rw (year, month, day, hour, minute, second, hundredth) refl in
    same

-- ---- of a moment

day_within : (time : CivilTime) → IsCivilTime time → hundredths_of_day time < 8_640_000
day_within time is =
    let hour = is.hour_in in
    let minute = is.minute_in in
    let second = is.second_in in
    let hundredth = is.hundredth_in in
    omega (arith, hour, minute, second, hundredth)

abbrev date_of : (time : CivilTime) → IsCivilTime time → Date
date_of time is = record {
  year = pos time.year;
  month = time.month;
  day = time.day;
  year_in = let year = is.year_in in (omega (arith, signed_arith, year), omega (arith, signed_arith, year));
  month_in = is.month_in;
  day_in = is.day_in;
}

same_day : (time other : CivilTime) → IsCivilTime time → IsCivilTime other
    → days_from_civil (pos time.year) time.month time.day ≡ days_from_civil (pos other.year) other.month other.day
    → (time.year ≡ other.year) × (time.month ≡ other.month) × (time.day ≡ other.day)
same_day time other is also e =
    let same = epoch_day_injective (date_of time is) (date_of other also) e in
    (let year = same.0 in omega (arith, signed_arith, year), same.1, same.2)

pub one_time : (time other : CivilTime) (moment : ℤ) → IsTimeOf time moment → IsTimeOf other moment → time ≡ other
one_time time other moment is also =
    let here = day_within time is.valid in
    let there = day_within other also.valid in
    let sum = is.is in
    let its = also.is in
    let days = days_from_civil (pos time.year) time.month time.day in
    let others = days_from_civil (pos other.year) other.month other.day in
    let day : days ≡ others = omega (arith, signed_arith, here, there, sum, its) in
    let rest : hundredths_of_day time ≡ hundredths_of_day other = omega (arith, signed_arith, here, there, sum, its) in
    let date = same_day time other is.valid also.valid day in
    let minute = is.valid.minute_in in
    let second = is.valid.second_in in
    let hundredth = is.valid.hundredth_in in
    let minutes = also.valid.minute_in in
    let seconds = also.valid.second_in in
    let hundredths = also.valid.hundredth_in in
    same_parts time other date.0 date.1 date.2
    (omega (arith, rest, minute, second, hundredth, minutes, seconds, hundredths))
    (omega (arith, rest, minute, second, hundredth, minutes, seconds, hundredths))
    (omega (arith, rest, minute, second, hundredth, minutes, seconds, hundredths))
    (omega (arith, rest, minute, second, hundredth, minutes, seconds, hundredths))

-- ---- of a body

one_bcd : (number other : ℕ) → number < 100 → other < 100 → bcd number ≡ bcd other → number ≡ other
one_bcd number other small also e = omega (arith, e)

one_source : (source also leap its : Bool) → ((cond source 1 0) + 48 + (cond leap 256 0) + 512) % 256
    ≡ ((cond also 1 0) + 48 + (cond its 256 0) + 512) % 256 → source ≡ also
one_source true true leap its e = refl
one_source false false leap its e = refl
one_source true false true true e = absurd (omega (arith, e))
one_source true false true false e = absurd (omega (arith, e))
one_source true false false true e = absurd (omega (arith, e))
one_source true false false false e = absurd (omega (arith, e))
one_source false true true true e = absurd (omega (arith, e))
one_source false true true false e = absurd (omega (arith, e))
one_source false true false true e = absurd (omega (arith, e))
one_source false true false false e = absurd (omega (arith, e))

pub one_body : (time other : CivilTime) (source also : Bool) → IsCivilTime time → IsCivilTime other → time_bytes source time ≡ time_bytes also other
    → (time ≡ other) × (source ≡ also)
one_body time other source also is its e = (
  same_parts time other year month day hour minute second hundredth,
  one_source source also (is_leap_year (pos time.year)) (is_leap_year (pos other.year)) (byte 0),
)
  where
    byte : (at : ℕ) → get_or (time_bytes source time) at 0 ≡ get_or (time_bytes also other) at 0
    byte at = ap (λ l. get_or l at 0) e

    small : (number most : ℕ) → number < most → most ≤ 100 → number < 100
    small number most h few = omega (arith, h, few)

    hundredth : time.hundredth ≡ other.hundredth
    hundredth = one_bcd time.hundredth other.hundredth is.hundredth_in its.hundredth_in (byte 4)

    second : time.second ≡ other.second
    second = one_bcd time.second other.second (small time.second 60 is.second_in (omega arith)) (small other.second 60 its.second_in (omega arith)) (byte 5)

    minute : time.minute ≡ other.minute
    minute = one_bcd time.minute other.minute (small time.minute 60 is.minute_in (omega arith)) (small other.minute 60 its.minute_in (omega arith)) (byte 6)

    hour : time.hour ≡ other.hour
    hour = one_bcd time.hour other.hour (small time.hour 24 is.hour_in (omega arith)) (small other.hour 24 its.hour_in (omega arith)) (byte 7)

    day_small : (time : CivilTime) → IsCivilTime time → time.day < 100
    day_small time is = let most = days_in_month_bounds (pos time.year) time.month in let day = is.day_in in omega (arith, most, day)

    day : time.day ≡ other.day
    day = one_bcd time.day other.day (day_small time is) (day_small other its) (byte 8)

    month : time.month ≡ other.month
    month = let here = is.month_in in let there = its.month_in in one_bcd time.month other.month (omega (arith, here)) (omega (arith, there)) (byte 9)

    year : time.year ≡ other.year
    year =
        let here = is.year_in in
        let there = its.year_in in
        let low = one_bcd (time.year % 100) (other.year % 100) (omega arith) (omega arith) (byte 10) in
        let high = one_bcd (time.year / 100) (other.year / 100) (omega (arith, here)) (omega (arith, there)) (byte 11) in
        omega (arith, low, high)
