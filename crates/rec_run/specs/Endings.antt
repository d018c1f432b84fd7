-- How a channel ends, and what its ending says of its source and of the frames that were taken from
-- it.
use Rattle.std.specs.Prelude.{ℕ, ◌+◌, ◌≡◌, ◌<◌, ◌⊎◌, List, [], ◌∷◌, ◌++◌, length, map, Option, Some}
use Rattle.std.specs.Prelude.{IfSome, IsSomeAnd}
use Rattle.eth_frame.specs.Frame.{FrameData}
use Rattle.eth_frame.specs.Source.{Left, TimeMark, later_by}
use Rattle.eth_frame.specs.declared.source.SourceEnding.{SourceEnding}
use Rattle.eth_frame.specs.declared.source.SourceEnding.TheVariants.{End, Fault}
use Rattle.eth_frame.specs.declared.source.SourceFault.TheVariants.{Device}
use Rattle.rec_lane.specs.Parts.{BeginsList}
use Rattle.rec_run.specs.declared.ending.Ending.{Ending}
use Rattle.rec_run.specs.declared.ending.Ending.TheVariants.{SourceEnd, SourceFault, Memory}
use Rattle.rec_run.specs.declared.ending.Ending.TheVariants.{CountFull, Stopped}
use Rattle.rec_run.specs.declared.ending.WorkerEnd.{WorkerEnd}
use Rattle.rec_run.specs.declared.ending.WorkerEnd.TheVariants.{Ended, Link, History}

-- nothing is left to record
abbrev pub IsOver : Ending → Type 0
IsOver SourceEnd = Unit {0}
IsOver (SourceFault fault) = Unit {0}
IsOver Memory = ⊥
IsOver CountFull = Unit {0}
IsOver Stopped = ⊥

-- Of a source that says its frames (of another one nothing is said): ..

-- .. it said these frames first
abbrev pub AreFirst : Option Left → List FrameData → Type 0
AreFirst before frames = IfSome before (λ l. BeginsList frames l.frames)

-- .. it said these frames, and then what it says now
abbrev pub AreTaken : Option Left → List FrameData → Option Left → Type 0
AreTaken before frames after =
    IfSome before (λ l. IsSomeAnd after (λ rest.
    (l.frames ≡ frames ++ rest.frames) × (l.ending ≡ rest.ending)))

-- the time marks before the first frame that is taken, and then those after each frame
abbrev pub marks_from : ℕ → List (List ℕ) → List TimeMark
marks_from after [] = []
marks_from after (ts ∷ more) =
    map (λ counter. record { after = after; counter = counter }) ts ++ marks_from (after + 1) more

-- .. it said these time marks after each of the frames, maybe some before them, and then what it
-- says now
abbrev pub AreTimesTaken : Option Left → List (List ℕ) → Option Left → Type 0
AreTimesTaken before times after =
    IfSome before (λ l. IsSomeAnd after (λ rest. (early : List ℕ)
    × (l.times ≡ marks_from 0 (early ∷ times) ++ map (later_by (length times)) rest.times)))

-- .. it said these time marks after each of the frames first
abbrev pub AreFirstTimes : Option Left → List (List ℕ) → Type 0
AreFirstTimes before times =
    IfSome before (λ l. (early : List ℕ) × BeginsList (marks_from 0 (early ∷ times)) l.times)

-- .. it said these time marks after each of the frames and no others, but maybe some before the
-- first
abbrev pub AreAllTimes : Option Left → List (List ℕ) → Type 0
AreAllTimes before times =
    IfSome before (λ l. (early : List ℕ) × (l.times ≡ marks_from 0 (early ∷ times)))

-- .. and as this ending has it, these are all of them, or the first
abbrev pub TimesEndAs : Ending → Option Left → List (List ℕ) → Type 0
TimesEndAs SourceEnd before times = AreAllTimes before times
TimesEndAs ending before times = AreFirstTimes before times

-- .. it said these frames and no others, and then this ending
abbrev pub AreAll : Option Left → List FrameData → SourceEnding → Type 0
AreAll before frames ending =
    IfSome before (λ l. (l.frames ≡ frames) × (l.ending ≡ ending))

module _ {S : Type 0}
    (left : S → Option Left) (failures : S → ℕ) (ended_as : S → Option SourceEnding) where
  -- the device failed since then, after these frames
  pub record HasFailed (before after : S) (frames : List FrameData) : Type 0 where
    pub first : AreFirst (left before) frames
    pub more : failures before < failures after

  -- from the source as it was before, these frames were taken, at most `max`, and this is how it
  -- ended; what a source gave as its last answer is known of every source
  abbrev pub EndsAs : Ending → (before after : S) → List FrameData → (max : ℕ) → Type 0
  EndsAs SourceEnd before after frames max =
      (ended_as after ≡ Some End) × AreAll (left before) frames End
  EndsAs (SourceFault fault) before after frames max =
      (ended_as after ≡ Some (Fault fault))
      × (fault ≡ Device → 0 < failures after)
      × (AreAll (left before) frames (Fault fault)
      ⊎ ((fault ≡ Device) × HasFailed before after frames))
  EndsAs Memory before after frames max = AreTaken (left before) frames (left after)
  EndsAs CountFull before after frames max =
      (length frames ≡ max) × AreTaken (left before) frames (left after)
  EndsAs Stopped before after frames max = AreFirst (left before) frames

-- ---- how a worker ends

-- nothing is left to record
abbrev pub IsOverThen : WorkerEnd → Type 0
IsOverThen (Ended ending) = IsOver ending
IsOverThen Link = ⊥
IsOverThen History = ⊥

-- the channel has an ending
abbrev pub HasEnding : WorkerEnd → Type 0
HasEnding (Ended ending) = Unit {0}
HasEnding Link = ⊥
HasEnding History = ⊥

abbrev pub worker_ending_of : WorkerEnd → Ending
worker_ending_of (Ended ending) = ending
worker_ending_of Link = Stopped
worker_ending_of History = Stopped
