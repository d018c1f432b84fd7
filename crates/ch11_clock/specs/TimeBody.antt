-- The body of a time packet (IRIG 106-17 Chapter 11, Time Data Packets, Format 1): a
-- channel-specific word, and a date and a time of day in binary coded decimal.
use Rattle.std.specs.Prelude.{ℕ, ◌+◌, ◌*◌, ◌/◌, ◌%◌, ◌^◌, Bool, if◌then◌else◌, List, [], ◌∷◌, ◌++◌}
use Rattle.std.specs.Prelude.{pos}
use Rattle.std.specs.Int.{w32, to_le_bytes}
use Rattle.jiff_core.specs.Calendar.{is_leap_year}
use Rattle.ch11_clock.specs.declared.civil.CivilTime.{CivilTime}

-- the two decimal digits of a number below 100, four bits each
abbrev pub bcd : ℕ → ℕ
bcd number = number / 10 * 16 + number % 10

-- the channel-specific word: the source from bit 0 (0: internal, 1: external), the format from bit
-- 4 (3: real-time clock), a leap year at bit 8, and the date format at bit 9 (1: day, month and
-- year)
abbrev pub time_word : (is_external : Bool) → CivilTime → ℕ
time_word is_external time =
    (if is_external then 1 else 0) + 3 * 2 ^ 4
    + (if is_leap_year (pos time.year) then 2 ^ 8 else 0) + 2 ^ 9

-- the eight bytes of a time: hundredths and seconds, minutes and hours, days and months, and the
-- year, of which the last two digits stand first
abbrev pub time_digits : CivilTime → List ℕ
time_digits time =
    bcd time.hundredth ∷ bcd time.second ∷ bcd time.minute ∷ bcd time.hour
    ∷ bcd time.day ∷ bcd time.month ∷ bcd (time.year % 100) ∷ bcd (time.year / 100) ∷ []

-- the body of a time packet
abbrev pub time_bytes : (is_external : Bool) → CivilTime → List ℕ
time_bytes is_external time = to_le_bytes w32 (time_word is_external time) ++ time_digits time
