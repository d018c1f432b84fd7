-- The sum of bytes.
use Rattle.std.specs.Prelude.{ℕ, ◌+◌, ◌%◌, ◌^◌, List, [], ◌∷◌}

-- that of bytes behind others with this sum, modulo 2^64
abbrev pub sum_behind : (sum : ℕ) → List ℕ → ℕ
sum_behind sum [] = sum
sum_behind sum (byte ∷ bytes) = sum_behind ((sum + byte) % 2 ^ 64) bytes
