-- Late pieces.
use Rattle.std.specs.Prelude.{ℕ, ◌+◌, ◌≤◌, nat_lt, if◌then◌else◌, List, [], ◌∷◌}
use Rattle.std.specs.List.{AllByRecursion}
use Rattle.ch11_file.specs.declared.limits.TheConstants.{MAX_TICKS_BACK}

-- 1 for a piece whose counter lies over a second behind the greatest of a header that went out,
-- else 0
abbrev pub late_one : (greatest counter : ℕ) → ℕ
late_one greatest counter = if nat_lt (counter + MAX_TICKS_BACK) greatest then 1 else 0

-- a later counter isn't over a second less
abbrev pub LiesASecondBackAtMost : (counter later : ℕ) → Type 0
LiesASecondBackAtMost counter later = counter ≤ later + MAX_TICKS_BACK

-- none of these counters is over a second less than one ahead of it
abbrev pub NeverFarBack : List ℕ → Type 0
NeverFarBack [] = Unit {0}
NeverFarBack (counter ∷ later) =
    AllByRecursion (LiesASecondBackAtMost counter) later × NeverFarBack later
