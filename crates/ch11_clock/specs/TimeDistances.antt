-- How far behind a time packet a counter may lie until the next one stands.
use Rattle.std.specs.Prelude.{ℕ, ◌+◌, ◌*◌, ◌<◌, ◌&&◌, nat_lt, nat_le, List, ℤ}
use Rattle.std.specs.List.{count_by}
use Rattle.ch11_clock.specs.declared.origin.Origin.{Origin}
use Rattle.ch11_clock.specs.TimePoints.{IsTimePoint}

-- how many origins begin behind a tick and not behind a counter
abbrev pub begun_between : (tick counter : ℕ) → List Origin → ℕ
begun_between tick counter rules =
    count_by (λ (rule : Origin). nat_lt tick rule.counter && nat_le rule.counter counter) rules

-- the counter lies less than a second behind the tick, and 10 ms more for each origin that begins
-- between them: a tick is 100 ns
abbrev pub IsNear : List Origin → (tick counter : ℕ) → Type 0
IsNear rules tick counter = counter < tick + 10_000_000 + 100_000 * begun_between tick counter rules

-- no time packet stands behind the tick and not behind the counter
abbrev pub HasNoneBetween : (least : ℕ) → List Origin → (tick counter : ℕ) → Type 0
HasNoneBetween least rules tick counter =
    (moment : ℤ) (its : ℕ) → IsTimePoint least rules moment its → tick < its → counter < its
