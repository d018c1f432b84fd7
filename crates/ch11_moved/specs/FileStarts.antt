-- Where the clock of a file of several recordings begins.
use Rattle.std.specs.Prelude.{◌≡◌, ◌⊎◌, if◌then◌else◌, List, [], ◌∷◌, ℤ, pos, int_lt, ◌+ℤ◌, ◌<ℤ◌}
use Rattle.std.specs.Prelude.{◌≤ℤ◌}
use Rattle.std.specs.Int.{int_rem_euclid}
use Rattle.ch11_clock.specs.declared.origin.Origin.{Origin}

-- the earliest of an origin and of further ones, and of equal ones the first
abbrev pub earliest_from : Origin → List Origin → Origin
earliest_from first [] = first
earliest_from first (origin ∷ origins) =
    earliest_from (if int_lt origin.nanos first.nanos then origin else first) origins

-- it is one of these
abbrev pub IsOneOrigin : Origin → List Origin → Type 0
IsOneOrigin origin [] = ⊥
IsOneOrigin origin (other ∷ origins) = (origin ≡ other) ⊎ IsOneOrigin origin origins

-- the last multiple of 100 ns that isn't behind a time
pub record IsRoundedDown (time start : ℤ) : Type 0 where
  pub whole : int_rem_euclid start (pos 100) ≡ pos 0
  pub not_behind : start ≤ℤ time
  pub last : time <ℤ (start +ℤ pos 100)
