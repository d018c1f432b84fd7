-- Dates and times of day as the values of attributes.
use Rattle.std.specs.Prelude.{ℕ, ◌+◌, ◌/◌, ◌%◌, List, [], ◌∷◌, ◌++◌}
use Rattle.ch11_clock.specs.declared.civil.CivilTime.{CivilTime}

-- the two decimal digits of a number below 100
abbrev pub two_digits : ℕ → List ℕ
two_digits number = (48 + number / 10) ∷ (48 + number % 10) ∷ []

-- MM-DD-YYYY
abbrev pub date_text : CivilTime → List ℕ
date_text time =
    two_digits time.month ++ (45 ∷ (two_digits time.day
    ++ (45 ∷ (two_digits (time.year / 100) ++ two_digits (time.year % 100)))))

-- HH-MM-SS
abbrev pub day_time_text : CivilTime → List ℕ
day_time_text time =
    two_digits time.hour ++ (45 ∷ (two_digits time.minute ++ (45 ∷ two_digits time.second)))

-- MM-DD-YYYY-HH-MM-SS
abbrev pub date_time_text : CivilTime → List ℕ
date_time_text time = date_text time ++ (45 ∷ day_time_text time)
