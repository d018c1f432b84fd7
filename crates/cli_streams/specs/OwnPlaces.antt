-- Refusals of several recordings, with places in the recording that they are of.
use Rattle.std.specs.Prelude.{ℕ, zero, suc, ◌≡◌, ◌⊎◌, ◌+◌, ◌<◌, ◌≤◌, List, length, get_or, Option}
use Rattle.std.specs.Prelude.{None, Some}
use Rattle.rec_whole.specs.declared.refusal.WholeRefusal.{WholeRefusal}
use Rattle.rec_whole.specs.declared.refusal.WholeRefusal.TheVariants.{Other, Disorder, Gap, Origin}
use Rattle.rec_whole.specs.declared.refusal.WholeRefusal.TheVariants.{Year, Full}
use Rattle.cli_streams.specs.declared.ending.CommandEnding.{CommandEnding}
use Rattle.cli_streams.specs.declared.ending.CommandEnding.TheVariants.{Reading, Whole, Joined}
use Rattle.cli_streams.specs.declared.ending.CommandEnding.TheVariants.{JoinedReading}

-- where a recording begins in the joined one, of which each ends where it is said
abbrev pub start_by : (ends : List ℕ) → (place : ℕ) → ℕ
start_by ends zero = 0
start_by ends (suc place) = get_or ends place 0

-- what stands there in the joined recording stands there in the one at a place, the first that ends
-- behind it
pub record IsOwnPlace (ends : List ℕ) (at place own : ℕ) : Type 0 where
  pub is_one : place < length ends
  pub behind : at < get_or ends place 0
  pub first : (earlier : ℕ) → earlier < place → get_or ends earlier 0 ≤ at
  pub own_is : at ≡ start_by ends place + own

-- no recording ends behind it
abbrev pub IsBehindAll : (ends : List ℕ) → (at : ℕ) → Type 0
IsBehindAll ends at = (place : ℕ) → place < length ends → get_or ends place 0 ≤ at

-- the place of the packet that is refused, if it is one
abbrev pub refused_at : WholeRefusal → Option ℕ
refused_at (Other at) = Some at
refused_at (Disorder at) = Some at
refused_at (Gap at) = Some at
refused_at Origin = None
refused_at Year = None
refused_at Full = None

-- the same refusal, of a packet at another place
abbrev pub refused_as : WholeRefusal → (at : ℕ) → WholeRefusal
refused_as (Other was) at = Other at
refused_as (Disorder was) at = Disorder at
refused_as (Gap was) at = Gap at
refused_as Origin at = Origin
refused_as Year at = Year
refused_as Full at = Full

-- a refusal of the joined recording: with the packet's place in its own, and the place of that one
abbrev pub IsJoinedAt : (ends : List ℕ) → WholeRefusal → (at : Option ℕ) → CommandEnding → Type 0
IsJoinedAt ends refusal None ending = ending ≡ Joined refusal 0
IsJoinedAt ends refusal (Some at) ending =
    ((place : ℕ) × (own : ℕ) × IsOwnPlace ends at place own
    × (ending ≡ Joined (refused_as refusal own) place))
    ⊎ IsBehindAll ends at

abbrev pub IsJoinedRefusal : (ends : List ℕ) → WholeRefusal → CommandEnding → Type 0
IsJoinedRefusal ends refusal ending = IsJoinedAt ends refusal (refused_at refusal) ending

-- what a refusal, or a fault of reading, of the recording at a place is among those of several
abbrev pub placed_ending : (place : ℕ) → CommandEnding → CommandEnding
placed_ending place (Whole refusal) = Joined refusal place
placed_ending place (Reading end) = JoinedReading end place
placed_ending place ending = ending
