-- The runs of recordings.
use Rattle.std.specs.Prelude.{ℕ, ◌≡◌, ◌<◌, List, length, get_or, Option, None, Some}

-- each follows an earlier one, if it follows one
abbrev pub FollowEarlier : (afters : List (Option ℕ)) → Type 0
FollowEarlier afters = (at place : ℕ) → get_or afters at None ≡ Some place → place < at

-- the run of a recording at a place: of one that follows none the place, else the run of the one
-- that it follows
abbrev pub run_by : (runs : List ℕ) → (at : ℕ) → (after : Option ℕ) → ℕ
run_by runs at None = at
run_by runs at (Some place) = get_or runs place 0

pub record AreRunsOf (afters : List (Option ℕ)) (runs : List ℕ) : Type 0 where
  pub as_many : length runs ≡ length afters
  pub each : (at : ℕ) → at < length afters
      → get_or runs at 0 ≡ run_by runs at (get_or afters at None)
