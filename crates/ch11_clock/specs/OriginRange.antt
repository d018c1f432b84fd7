-- Which origins there are.
use Rattle.std.specs.Prelude.{ℕ, ◌<◌, ◌^◌, ℤ, pos, neg_ℤ, ◌<ℤ◌}

-- a counter has 48 bits, and the time of counter 0 lies less than 10^12 seconds from 1970
pub record IsOrigin (counter : ℕ) (nanos : ℤ) : Type 0 where
  pub counter_in : counter < 2 ^ 48
  pub least : neg_ℤ (pos 1_000_000_000_000_000_000_000) <ℤ nanos
  pub most : nanos <ℤ pos 1_000_000_000_000_000_000_000
