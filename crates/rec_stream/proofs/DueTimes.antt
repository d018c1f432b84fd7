-- The last time packet that is due, as the walk over time packets finds it.
use Rattle.std.proofs.Common.{ℕ, ◌+◌, ◌≡◌, ◌≤◌, ◌<◌, inl, inr, List, Option, None, Some, ℤ, refl, subst, ap, arith}
use Rattle.std.specs.Prelude.{Bool, true, false, nat_lt, IfSome}
use Rattle.std.proofs.lemmas.Bool.Decides.{nat_tests}
use Rattle.ch11_clock.specs.declared.origin.Origin.{Origin}
use Rattle.ch11_clock.specs.declared.time_point.TimePoint.{TimePoint}
use Rattle.ch11_clock.specs.TimePoints.{IsTimePoint}
use Rattle.ch11_file.specs.declared.times.FileTimes.{FileTimes}
use Rattle.ch11_file.specs.FileTimes.{IsNextTick, WalksTimes, tick_of}
use Rattle.rec_stream.specs.StreamBlocks.{IsLastDue, NoneIsDue}
use Rattle.rec_stream.specs.Sending.{IsWalking}

pub not_above : (a b : ℕ) → (b < a → ⊥) → a ≤ b
not_above a b never = here (nat_lt b a) refl
  where
    here : (t : Bool) → nat_lt b a ≡ t → a ≤ b
    here true e = absurd (never (grind (arith, nat_tests, e)))
    here false e = grind (arith, nat_tests, e)

-- the tick of the last one that was passed
abbrev pub last_tick : (time : ℕ) → Option TimePoint → ℕ
last_tick time None = time
last_tick time (Some point) = point.tick

-- it is one of the recording's, behind the first and not behind the counter
pub record IsPassed (rules : List Origin) (least time counter : ℕ) (point : TimePoint) : Type 0 where
  pub is_point : IsTimePoint least rules point.moment point.tick
  pub behind : time < point.tick
  pub due : point.tick ≤ counter

next_behind : (least : ℕ) (rules : List Origin) (tick next : ℕ) → IsNextTick least rules tick next → tick < next
next_behind least rules tick next (inl x) = x.behind
next_behind least rules tick next (inr x) = x.1

none_before : (least : ℕ) (rules : List Origin) (tick next counter : ℕ) → IsNextTick least rules tick next → counter < next
    → (moment : ℤ) (its : ℕ) → IsTimePoint least rules moment its → its ≤ counter → its ≤ tick
none_before least rules tick next counter (inl x) early moment its point due =
    not_above its tick (λ behind. let far = x.first moment its point behind in absurd (omega (arith, far, early, due)))
none_before least rules tick next counter (inr x) early moment its point due = x.0 moment its point

pub last_is : (rules : List Origin) (least time counter : ℕ) (point : TimePoint) (times : FileTimes) → IsWalking rules least point.tick times
    → IsPassed rules least time counter point → counter < tick_of times.next → IsLastDue rules least time counter point.moment point.tick
last_is rules least time counter point times walking passed early = record {
  is_point = passed.is_point;
  behind = passed.behind;
  due = passed.due;
  last = none_before least rules point.tick (tick_of times.next) counter walking.follows early;
}

pub none_is : (rules : List Origin) (least time counter : ℕ) (times : FileTimes) → IsWalking rules least time times
    → counter < tick_of times.next → NoneIsDue rules least time counter
none_is rules least time counter times walking early moment tick point behind =
    let known : counter + 1 ≤ tick = not_above (counter + 1) tick (λ below.
    let before = none_before least rules time (tick_of times.next) counter walking.follows early moment tick point (omega (arith, below)) in
    absurd (omega (arith, before, behind))) in
    omega (arith, known)

-- ---- a step of the walk

walk_at : (least : ℕ) (rules : List Origin) (times : FileTimes) (point : TimePoint) → times.next ≡ Some point
    → WalksTimes least rules times.next times.points → IsTimePoint least rules point.moment point.tick
walk_at least rules times point is walks = (subst (λ (o : Option TimePoint). WalksTimes least rules o times.points) is walks).0

pub passes : (rules : List Origin) (least time counter : ℕ) (last : Option TimePoint) (point : TimePoint) (times : FileTimes)
    → IsWalking rules least (last_tick time last) times → IfSome last (IsPassed rules least time counter) → times.next ≡ Some point
    → point.tick ≤ counter → IsPassed rules least time counter point
passes rules least time counter None point times walking passed is due =
    let behind = next_behind least rules time (tick_of times.next) walking.follows in
    let same : tick_of times.next ≡ point.tick = ap tick_of is in
    record { is_point = walk_at least rules times point is walking.walks; behind = omega (arith, behind, same); due = due }
passes rules least time counter (Some ahead) point times walking passed is due =
    let behind = next_behind least rules ahead.tick (tick_of times.next) walking.follows in
    let same : tick_of times.next ≡ point.tick = ap tick_of is in
    let before = passed.behind in
    record { is_point = walk_at least rules times point is walking.walks; behind = omega (arith, behind, same, before); due = due }

pub reaches : (rules : List Origin) (least at : ℕ) (point : TimePoint) (times new : FileTimes) → at ≤ tick_of times.next → times.next ≡ Some point
    → IsNextTick least rules point.tick (tick_of new.next) → at + 1 ≤ tick_of new.next
reaches rules least at point times new reach is follows =
    let behind = next_behind least rules point.tick (tick_of new.next) follows in
    let same : tick_of times.next ≡ point.tick = ap tick_of is in
    omega (arith, behind, same, reach)

-- ---- what the walk answers

pub all_due : (counter : ℕ) (last : Option TimePoint) (old times : FileTimes)
    → ((rules : List Origin) (least time : ℕ) → IsWalking rules least time old → IsWalking rules least (last_tick time last) times)
    → ((rules : List Origin) (least time : ℕ) → IsWalking rules least time old → IfSome last (IsPassed rules least time counter))
    → counter < tick_of times.next
    → IfSome last (λ point. (rules : List Origin) (least time : ℕ) → IsWalking rules least time old
    → IsLastDue rules least time counter point.moment point.tick × IsWalking rules least point.tick times)
all_due counter None old times walks passed early = tt
all_due counter (Some point) old times walks passed early = λ rules least time walking.
    (last_is rules least time counter point times (walks rules least time walking) (passed rules least time walking) early, walks rules least time walking)

-- the same where only a walk tells that it came far enough
pub all_due_by : (counter : ℕ) (last : Option TimePoint) (old times : FileTimes)
    → ((rules : List Origin) (least time : ℕ) → IsWalking rules least time old → IsWalking rules least (last_tick time last) times)
    → ((rules : List Origin) (least time : ℕ) → IsWalking rules least time old → IfSome last (IsPassed rules least time counter))
    → ((rules : List Origin) (least time : ℕ) → IsWalking rules least time old → counter < tick_of times.next)
    → IfSome last (λ point. (rules : List Origin) (least time : ℕ) → IsWalking rules least time old
    → IsLastDue rules least time counter point.moment point.tick × IsWalking rules least point.tick times)
all_due_by counter None old times walks passed early = tt
all_due_by counter (Some point) old times walks passed early = λ rules least time walking. (
  last_is rules least time counter point times (walks rules least time walking) (passed rules least time walking) (early rules least time walking),
  walks rules least time walking,
)
