-- The clock of a recording: which time each counter has, by the origins that were noted.
use Rattle.std.specs.Prelude.{ℕ, ◌*◌, ◌<◌, ◌^◌, ◌≡◌, nat_le, if◌then◌else◌, List, [], ◌∷◌, ℤ, pos}
use Rattle.std.specs.Prelude.{◌+ℤ◌}
use Rattle.std.specs.List.{list_any}
use Rattle.std.proofs.Math.Nat.{zero-lt-suc}
use Rattle.ch11_clock.specs.declared.origin.Origin.{Origin}

-- ---- the time of a counter

-- the time of a counter under an origin, in nanoseconds since 1970: a tick is 100 ns
abbrev pub time_under : Origin → ℕ → ℤ
time_under origin counter = origin.nanos +ℤ pos (counter * 100)

-- the origin that holds at a counter: of these, the last in the list that begins at it or ahead of
-- it, else the first
abbrev pub origin_at : (first : Origin) → List Origin → ℕ → Origin
origin_at first [] counter = first
origin_at first (origin ∷ origins) counter =
    origin_at (if nat_le origin.counter counter then origin else first) origins counter

-- the time of a counter, by the origins that were noted in this order, of which the first holds
-- from counter 0 on, whatever its own counter is
abbrev pub clock_time : List Origin → ℕ → ℤ
clock_time [] counter = pos 0
clock_time (first ∷ origins) counter = time_under (origin_at first origins counter) counter

-- ---- the origins that hold

-- the same time, from counter 0 on
abbrev pub from_start : Origin → Origin
from_start origin = record {
  counter = 0;
  nanos = origin.nanos;
  in_range = record {
    counter_in = zero-lt-suc 281_474_976_710_655;
    least = origin.in_range.least;
    most = origin.in_range.most;
  };
}

-- origins, of which the first begins at counter 0
abbrev pub started : List Origin → List Origin
started [] = []
started (first ∷ origins) = from_start first ∷ origins

-- the origins that hold at some counter, of those that were noted in this order: an origin ends the
-- rule of all before it that begin at its counter or later
abbrev pub held_origins : List Origin → List Origin
held_origins [] = []
held_origins (origin ∷ origins) =
    if list_any (λ later. nat_le later.counter origin.counter) origins then held_origins origins
    else origin ∷ held_origins origins

-- each begins behind the one before it, and the first behind this counter
abbrev pub BeginBehind : ℕ → List Origin → Type 0
BeginBehind counter [] = Unit {0}
BeginBehind counter (origin ∷ origins) =
    (counter < origin.counter) × BeginBehind origin.counter origins

-- each begins behind the one before it
abbrev pub AreAscending : List Origin → Type 0
AreAscending [] = Unit {0}
AreAscending (origin ∷ origins) = BeginBehind origin.counter origins

-- there is an origin, and the first begins at counter 0
abbrev pub AreStarted : List Origin → Type 0
AreStarted [] = ⊥
AreStarted (first ∷ origins) = first.counter ≡ 0

-- the origins of a clock: from counter 0 on one holds at each counter, until the next one begins
pub record IsClock (rules : List Origin) : Type 0 where
  pub started : AreStarted rules
  pub ascending : AreAscending rules

-- where a rule ends, of which these follow: a counter has 48 bits
abbrev pub rule_end : List Origin → ℕ
rule_end [] = 2 ^ 48
rule_end (next ∷ rules) = next.counter
