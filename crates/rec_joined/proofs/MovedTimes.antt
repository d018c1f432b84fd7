-- Counters by the clock of a file.
use Rattle.std.proofs.Common.{ℕ, ◌≡◌, ◌≤◌, ◌<◌, ◌^◌, ◌/◌, Option, None, Some, IfNone, ℤ, pos, ◌+ℤ◌, ◌-ℤ◌, refl, arith}
use lib.IntN.{negsuc}
use Rattle.jiff_core.proofs.SignedLemmas.{signed_arith}
use Rattle.ch11_moved.specs.MovedCounters.{IsMoved}
use Rattle.rec_joined.specs.Moving.{counter_in, whole_ticks}

-- the nearest counter of a time that lies so many nanoseconds, and 50, behind the beginning
is_moved : (start time : ℤ) (ahead : ℕ) → pos ahead ≡ (time -ℤ start) +ℤ pos 50 → IsMoved start time (ahead / 100)
is_moved start time ahead is = record {
  not_late = omega (arith, signed_arith, is);
  not_early = omega (arith, signed_arith, is);
}

none_ahead : (start time ahead : ℤ) → ahead ≡ (time -ℤ start) +ℤ pos 50 → ((moved : ℕ) → IsMoved start time moved → 2 ^ 48 ≤ moved)
    → 2 ^ 48 ≤ whole_ticks ahead
none_ahead start time (pos n) is none = none (n / 100) (is_moved start time n is)
none_ahead start time (negsuc n) is none = omega arith

pub none_in : (start time : ℤ) (result : Option ℕ) → IfNone result ((moved : ℕ) → IsMoved start time moved → 2 ^ 48 ≤ moved)
    → IfNone result (2 ^ 48 ≤ counter_in start time)
none_in start time None none = none_ahead start time ((time -ℤ start) +ℤ pos 50) refl none
none_in start time (Some moved) none = tt

-- ---- the time of a counter that has 48 bits

near_ahead : (start time ahead : ℤ) → ahead ≡ (time -ℤ start) +ℤ pos 50 → whole_ticks ahead < 2 ^ 48 → IsMoved start time (whole_ticks ahead)
near_ahead start time (pos n) is fits = is_moved start time n is
near_ahead start time (negsuc n) is fits = absurd (omega (arith, fits))

pub is_nearest : (start time : ℤ) → counter_in start time < 2 ^ 48 → IsMoved start time (counter_in start time)
is_nearest start time fits = near_ahead start time ((time -ℤ start) +ℤ pos 50) refl fits
