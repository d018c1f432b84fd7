-- How a reader takes the body of a time packet apart (IRIG 106-17 Chapter 11, Time Data Packets,
-- Format 1).
use Rattle.std.specs.Prelude.{ℕ, ◌+◌, ◌*◌, ◌/◌, ◌%◌, ◌≡◌, Bool, if◌then◌else◌, List, length}
use Rattle.std.specs.Prelude.{slice_index, pos}
use Rattle.jiff_core.specs.Calendar.{is_leap_year}
use Rattle.ch11_clock.specs.declared.civil.CivilTime.{CivilTime}

-- the number of two decimal digits, of four bits each
abbrev pub two_digits_in : (byte : ℕ) → ℕ
two_digits_in byte = byte / 16 * 10 + byte % 16

-- the time of day and the date behind the channel-specific word; the last two digits of the year
-- stand first
abbrev pub civil_time_in : List ℕ → CivilTime
civil_time_in body = record {
  year = two_digits_in (slice_index body 11) * 100 + two_digits_in (slice_index body 10);
  month = two_digits_in (slice_index body 9);
  day = two_digits_in (slice_index body 8);
  hour = two_digits_in (slice_index body 7);
  minute = two_digits_in (slice_index body 6);
  second = two_digits_in (slice_index body 5);
  hundredth = two_digits_in (slice_index body 4);
}

-- the body says this time: its word has the source in bits 0 to 3, the format 3 (real-time clock)
-- in bits 4 to 7, a leap year in bit 8, and the date format 1 (day, month and year) from bit 9 on
pub record SaysCivilTime (body : List ℕ) (is_external : Bool) (time : CivilTime) : Type 0 where
  pub len : length body ≡ 12
  pub source : slice_index body 0 % 16 ≡ (if is_external then 1 else 0)
  pub format : slice_index body 0 / 16 ≡ 3
  pub leap : slice_index body 1 % 2 ≡ (if is_leap_year (pos time.year) then 1 else 0)
  pub date : slice_index body 1 / 2 ≡ 1
  pub time_is : civil_time_in body ≡ time
