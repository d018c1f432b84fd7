-- What a source of frames still has to give, and what one call of it does to that.
use Rattle.std.specs.Prelude.{ℕ, ◌≡◌, ◌+◌, ◌<◌, List, [], ◌∷◌, map, Option, None, Some, Result, Ok}
use Rattle.std.specs.Prelude.{Err, IfSome, IsSomeAnd}
use Rattle.eth_frame.specs.Frame.{FrameData}
use Rattle.eth_frame.specs.declared.source.Next.{Next}
use Rattle.eth_frame.specs.declared.source.Next.TheVariants as next
use Rattle.eth_frame.specs.declared.source.SourceFault.{SourceFault}
use Rattle.eth_frame.specs.declared.source.SourceFault.TheVariants.{Device}
use Rattle.eth_frame.specs.declared.source.SourceEnding.{SourceEnding}
use Rattle.eth_frame.specs.declared.source.SourceEnding.TheVariants.{End, Fault}

-- a time mark that a source gives: how many frames it gives before it, and its counter
pub record TimeMark : Type 0 where
  pub after : ℕ
  pub counter : ℕ

-- the frames that a source has still to give, in order, the time marks among them, and how it ends
-- after them
pub record Left : Type 0 where
  pub frames : List FrameData
  pub times : List TimeMark
  pub ending : SourceEnding

-- what a source with this ending answers
abbrev pub answer : SourceEnding → Result Next SourceFault
answer End = Ok next.End
answer (Fault fault) = Err fault

-- the ending of a source that gave this answer: none if it gave a frame or a time mark
abbrev pub source_ending_of : Result Next SourceFault → Option SourceEnding
source_ending_of (Ok next.Frame) = None
source_ending_of (Ok (next.Time counter)) = None
source_ending_of (Ok next.End) = Some End
source_ending_of (Err fault) = Some (Fault fault)

-- no frames, and this ending
abbrev pub no_frames : SourceEnding → Left
no_frames ending = record { frames = []; times = []; ending = ending }

-- a time mark so many frames later
abbrev pub later_by : ℕ → TimeMark → TimeMark
later_by frames mark = record { after = frames + mark.after; counter = mark.counter }

-- this frame first, or this time mark
abbrev pub with_first_frame : FrameData → Left → Left
with_first_frame frame left = record {
  frames = frame ∷ left.frames;
  times = map (later_by 1) left.times;
  ending = left.ending;
}

abbrev pub with_first_time : ℕ → Left → Left
with_first_time counter left =
    record left { times = record { after = 0; counter = counter } ∷ left.times }

-- the first frame left is given, and the others are left
abbrev pub GivesFirst : Option Left → Option FrameData → Option Left → Type 0
GivesFirst old held new =
    IfSome old (λ left. IsSomeAnd held (λ frame. IsSomeAnd new (λ rest.
    left ≡ with_first_frame frame rest)))

-- the first of what is left is this time mark, which is given
abbrev pub GivesTime : Option Left → (counter : ℕ) → Option Left → Type 0
GivesTime old counter new =
    IfSome old (λ left. IsSomeAnd new (λ rest. left ≡ with_first_time counter rest))

-- no frame was left, and this is the ending
abbrev pub GivesEnding : Option Left → SourceEnding → Option Left → Type 0
GivesEnding old ending new =
    IfSome old (λ left. (left ≡ no_frames ending) × (new ≡ Some (no_frames ending)))

-- the device failed before the source had ended, so that nothing is left but that ending
abbrev pub Fails : Option Left → Option SourceEnding → ℕ → Option Left → ℕ → Type 0
Fails old ended failures_old new failures_new =
    IfSome old (λ left.
    (ended ≡ None) × (failures_old < failures_new) × (new ≡ Some (no_frames (Fault Device))))
