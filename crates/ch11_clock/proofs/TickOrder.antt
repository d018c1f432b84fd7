-- Ticks, and the moments that have them.
use Rattle.std.proofs.Common.{◌≡◌, ℕ, ◌<◌, ◌≤◌, arith, ℤ, pos, ◌+ℤ◌, ◌*ℤ◌, ◌<ℤ◌, ◌≤ℤ◌}
use Rattle.std.specs.Int.{int_div_euclid}
use Rattle.jiff_core.proofs.SignedLemmas.{signed_arith}
use Rattle.ch11_clock.specs.declared.origin.Origin.{Origin}
use Rattle.ch11_clock.specs.Clock.{time_under}
use Rattle.ch11_clock.specs.Moments.{IsTick, IsFirstFrom, IsLastAt, IsNextSecond, IsWholeSecond, nanos_of}

-- a later moment has no lower tick
pub ticks_rise : (origin : Origin) (moment later : ℤ) (tick its : ℕ) → IsTick origin moment tick → IsTick origin later its → moment ≤ℤ later → tick ≤ its
ticks_rise origin moment later tick its is also h = omega (arith, signed_arith)

pub ticks_part : (origin : Origin) (moment later : ℤ) (tick its : ℕ) → IsTick origin moment tick → IsTick origin later its → moment <ℤ later → tick < its
ticks_part origin moment later tick its is also h = omega (arith, signed_arith)

pub one_tick : (origin : Origin) (moment : ℤ) (tick its : ℕ) → IsTick origin moment tick → IsTick origin moment its → tick ≡ its
one_tick origin moment tick its is also = omega (arith, signed_arith)

pub one_first : (time moment other : ℤ) → IsFirstFrom time moment → IsFirstFrom time other → moment ≡ other
one_first time moment other is also = omega (arith, signed_arith)

pub one_last : (time moment other : ℤ) → IsLastAt time moment → IsLastAt time other → moment ≡ other
one_last time moment other is also = omega (arith, signed_arith)

-- a moment at or behind a counter's time has no tick ahead of that counter
pub tick_from : (origin : Origin) (counter : ℕ) (moment : ℤ) (tick : ℕ) → IsTick origin moment tick → time_under origin counter ≤ℤ nanos_of moment
    → counter ≤ tick
tick_from origin counter moment tick is h = omega (arith, signed_arith)

-- the whole seconds behind a moment are the next one and those behind it
pub seconds_behind : (moment next later : ℤ) → IsNextSecond moment next → IsWholeSecond later → moment <ℤ later → next ≤ℤ later
seconds_behind moment next later is whole h =
    let a : IsWholeSecond next = is.whole in
    omega (arith, signed_arith, a)

pub next_is : (moment seconds next : ℤ) → seconds ≡ int_div_euclid moment (pos 100) → next ≡ (seconds +ℤ pos 1) *ℤ pos 100 → IsNextSecond moment next
next_is moment seconds next e n = record {
  whole = omega (arith, signed_arith);
  behind = omega (arith, signed_arith);
  first = omega (arith, signed_arith);
}
