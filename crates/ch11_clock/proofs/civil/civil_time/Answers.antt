use Rattle.std.proofs.Common.{◌≡◌, ℕ, ◌+◌, ◌*◌, ◌/◌, ◌%◌, rules, FitsSigned, ◌<◌, arith, ℤ, pos, neg_ℤ, ◌+ℤ◌, ◌*ℤ◌, ◌≤ℤ◌, to_z-of_z, w64, sym, ◌∙◌}
use Rattle.jiff_core.specs.Calendar.{days_from_civil}
use Rattle.jiff_core.proofs.SignedLemmas.{signed_arith}
use Rattle.ch11_clock.specs.CivilTime.{IsTimeOf, IsCivilTime, hundredths_of_day}
use Rattle.ch11_clock.specs.declared.civil.CivilTime.{CivilTime as Time}
use Rattle.ch11_clock.proofs.YearBounds.{year_of_day, day_of_years}
use Rattle.ch11_clock.proofs.civil.civil_time.Goals as goal
use Rattle.ch11_clock.proofs.civil.civil_time.Goals.{then-moment-lt-MIN_MOMENT-via-then-moment-lt-MIN_MOMENT}
use Rattle.ch11_clock.proofs.civil.civil_time.Goals.{then-moment-lt-MIN_MOMENT-via-else-moment-lt-MIN_MOMENT+then-moment-gt-MAX_MOMENT}

-- a moment that is told lies in the years 1 to 3999
told_within : (time : Time) (moment : ℤ) → IsTimeOf time moment → (neg_ℤ (pos 6_213_559_680_000) ≤ℤ moment) × (moment ≤ℤ pos 6_406_058_879_999)
told_within time moment told =
    let day = day_of_years time.year time.month time.day told.valid.year_in told.valid.month_in told.valid.day_in in
    (omega (arith, signed_arith, day, told.is), omega (arith, signed_arith, day, told.is))

pub returns-then-moment-lt-MIN_MOMENT-clause-none : goal.returns-then-moment-lt-MIN_MOMENT-clause-none
returns-then-moment-lt-MIN_MOMENT-clause-none c time told =
    let within = told_within time c.args.moment told in
    elim c.then-moment-lt-MIN_MOMENT.branch [
      | then-moment-lt-MIN_MOMENT-via-then-moment-lt-MIN_MOMENT w ↦ omega (arith, signed_arith)
      | then-moment-lt-MIN_MOMENT-via-else-moment-lt-MIN_MOMENT+then-moment-gt-MAX_MOMENT w ↦ omega (arith, signed_arith)
    ]

-- the day of a moment in that range is of the years 1 to 3999
day_within : (moment days : ℤ) (rest : ℕ) → moment ≡ days *ℤ pos 8_640_000 +ℤ pos rest → rest < 8_640_000
    → neg_ℤ (pos 6_213_559_680_000) ≤ℤ moment → moment ≤ℤ pos 6_406_058_879_999 → (neg_ℤ (pos 719_162) ≤ℤ days) × (days ≤ℤ pos 741_441)
day_within moment days rest e small first last = (omega (arith, signed_arith), omega (arith, signed_arith))

-- the parts of a day's hundredths of a second
parts : (rest : ℕ) → ((rest / 100 / 3600 * 60 + rest / 100 / 60 % 60) * 60 + rest / 100 % 60) * 100 + rest % 100 ≡ rest
parts rest = omega arith

tells : (time : Time) (days : ℤ) (rest : ℕ) (moment : ℤ) → IsCivilTime time → days_from_civil (pos time.year) time.month time.day ≡ days
    → hundredths_of_day time ≡ rest → moment ≡ days *ℤ pos 8_640_000 +ℤ pos rest → IsTimeOf time moment
tells time days rest moment valid day hundredths e = record { valid = valid; is = rw (day, hundredths) (sym e) }

pub year_of-requires : goal.year_of-requires
year_of-requires c =
    let days = c.split_day-days.result.0 in
    let sum : c.args.moment ≡ c.split_day-days.result.0 *ℤ pos 8_640_000 +ℤ pos c.split_day-days.result.1 = sym (to_z-of_z c.ranges.moment)
    ∙ c.split_day-days.ensures.sum in
    let fits : FitsSigned w64 days = search rules in
    let date = c.in-Ok.date in
    let day : days_from_civil date.year date.month date.day ≡ days = c.in-Ok.ensures.value ∙ to_z-of_z fits in
    let within = day_within c.args.moment days c.split_day-days.result.1 sum c.split_day-days.ensures.rest (omega (arith, signed_arith))
    (omega (arith, signed_arith)) in
    let year = year_of_day date.year date.month date.day (date.year_in, date.month_in, date.day_in) (rw day within) in
    omega (arith, signed_arith, year)

pub returns-clause-some : goal.returns-clause-some
returns-clause-some c =
    let days = c.split_day-days.result.0 in
    let rest = c.split_day-days.result.1 in
    let small = c.split_day-days.ensures.rest in
    let sum : c.args.moment ≡ c.split_day-days.result.0 *ℤ pos 8_640_000 +ℤ pos c.split_day-days.result.1 = sym (to_z-of_z c.ranges.moment)
    ∙ c.split_day-days.ensures.sum in
    let fits : FitsSigned w64 days = search rules in
    let date = c.in-Ok.date in
    let day : days_from_civil date.year date.month date.day ≡ days = c.in-Ok.ensures.value ∙ to_z-of_z fits in
    let within = day_within c.args.moment days rest sum small (omega (arith, signed_arith)) (omega (arith, signed_arith)) in
    let year = year_of_day date.year date.month date.day (date.year_in, date.month_in, date.day_in) (rw day within) in
    let is : date.year ≡ pos c.year_of.result = c.year_of.ensures in
    tells _ days rest c.args.moment (record {
      year_in = (omega (arith, signed_arith, year, is), omega (arith, signed_arith, year, is));
      month_in = date.month_in;
      day_in = rw is at date.day_in;
      hour_in = omega (arith, small);
      minute_in = omega arith;
      second_in = omega arith;
      hundredth_in = omega arith;
    }) (rw is at day) (parts rest) sum
