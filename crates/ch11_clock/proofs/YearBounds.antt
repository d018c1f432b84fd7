-- The days of the years 1 to 3999.
use Rattle.std.proofs.Common.{◌≡◌, ℕ, refl, arith, ℤ, pos, neg_ℤ, ◌≤ℤ◌}
use Rattle.std.specs.Int.{IsInRange}
use Rattle.std.proofs.lemmas.Int.{by_lt_z}
use Rattle.jiff_core.specs.Calendar.{IsCivilDate, days_in_month, day_count, days_from_civil}
use Rattle.jiff_core.proofs.SignedLemmas.{signed_arith}
use Rattle.jiff_core.proofs.MarchLemmas.{day_count-early, day_count-late}
use Rattle.jiff_core.proofs.CalendarLemmas.{days_from_civil-day_count, day_count-lt_year}

year_1 : day_count (pos 1) 1 1 ≡ 3_652_791
year_1 = day_count-early (pos 1) 10000 1 1 refl (omega arith) (omega arith) (omega arith)

year_0_ends : day_count (pos 0) 12 31 ≡ 3_652_790
year_0_ends = day_count-late (pos 0) 10000 12 31 refl (omega arith) (omega arith) (omega arith)

year_3999_ends : day_count (pos 3999) 12 31 ≡ 5_113_394
year_3999_ends = day_count-late (pos 3999) 13999 12 31 refl (omega arith) (omega arith) (omega arith)

year_4000 : day_count (pos 4000) 1 1 ≡ 5_113_395
year_4000 = day_count-early (pos 4000) 13999 1 1 refl (omega arith) (omega arith) (omega arith)

is_date : (y : ℤ) (m d : ℕ) → (neg_ℤ (pos 9999) ≤ℤ y) × (y ≤ℤ pos 9999) → IsInRange 1 12 m → IsInRange 1 (days_in_month y m) d → IsCivilDate y m d
is_date y m d year month day = (year, month, day)

-- a day among them is of one of these years
pub year_of_day : (y : ℤ) (m d : ℕ) → IsCivilDate y m d → (neg_ℤ (pos 719_162) ≤ℤ days_from_civil y m d) × (days_from_civil y m d ≤ℤ pos 741_441)
    → (pos 1 ≤ℤ y) × (y ≤ℤ pos 3999)
year_of_day y m d date within =
    let count = days_from_civil-day_count y m d in
    let low : pos 1 ≤ℤ y = by_lt_z y (pos 1)
    (λ before. let h = day_count-lt_year y m d (pos 1) 1 1 date (omega arith) before in absurd (omega (arith, signed_arith, h, year_1, count, within)))
    (λ not. not) in
    let high : y ≤ℤ pos 3999 = by_lt_z (pos 3999) y
    (λ behind.
    let h = day_count-lt_year (pos 3999) 12 31 y m d (is_date (pos 3999) 12 31 (omega (arith, signed_arith), omega (arith, signed_arith))
    (omega arith, omega arith) (omega arith, omega arith)) date.2.0 behind in
    absurd (omega (arith, signed_arith, h, year_3999_ends, count, within)))
    (λ not. not) in
    (low, high)

-- and a day of one of these years is among them
pub day_of_years : (y m d : ℕ) → IsInRange 1 3999 y → IsInRange 1 12 m → IsInRange 1 (days_in_month (pos y) m) d
    → (neg_ℤ (pos 719_162) ≤ℤ days_from_civil (pos y) m d) × (days_from_civil (pos y) m d ≤ℤ pos 741_441)
day_of_years y m d year month day =
    let count = days_from_civil-day_count (pos y) m d in
    let low = day_count-lt_year (pos 0) 12 31 (pos y) m d (is_date (pos 0) 12 31 (omega (arith, signed_arith), omega (arith, signed_arith))
    (omega arith, omega arith) (omega arith, omega arith)) day.0 (omega (arith, signed_arith, year)) in
    let high = day_count-lt_year (pos y) m d (pos 4000) 1 1 (is_date (pos y) m d (omega (arith, signed_arith), omega (arith, signed_arith, year)) month day)
    (omega arith) (omega (arith, signed_arith, year)) in
    (omega (arith, signed_arith, low, year_0_ends, count), omega (arith, signed_arith, high, year_4000, count))
