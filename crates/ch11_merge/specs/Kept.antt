-- What a merge keeps of each channel.
use Rattle.std.specs.Prelude.{ℕ, ◌≡◌, ◌≢◌, ◌<◌, ◌≤◌, ◌==◌, if◌then◌else◌, List, [], ◌∷◌, ◌++◌, map}
use Rattle.std.specs.Prelude.{Option, None, Some, slice_get}
use Rattle.std.specs.List.{AllByRecursion, flat_map}
use Rattle.ch11_packet.specs.FramesRead.{ReadFrameData}
use Rattle.ch11_merge.specs.Merging.{FilePiece, ChannelLeft, Merged}
use Rattle.ch11_merge.specs.Merging.FilePiece.{OfFrames, OfRecord}
use Rattle.ch11_merge.specs.Merging.Merged.{OfTime, OfPiece}

-- a frame, or a record
pub data Held : Type 0 where
  HeldFrame : ReadFrameData → Held
  HeldRecord : (counter : Option ℕ) → (body : List ℕ) → Held

-- what a piece holds, in order
abbrev pub held_in : FilePiece → List Held
held_in (OfFrames place frames) = map HeldFrame frames
held_in (OfRecord place counter body) = HeldRecord counter body ∷ []

-- what stands in a file of a channel, in order
abbrev pub held_of : (channel : ℕ) → List Merged → List Held
held_of channel [] = []
held_of channel (OfTime tick ∷ out) = held_of channel out
held_of channel (OfPiece other piece ∷ out) =
    (if other == channel then held_in piece else []) ++ held_of channel out

-- no two channels have one ID
abbrev pub AreNamedApart : List ChannelLeft → Type 0
AreNamedApart channels =
    (at other : ℕ) (c d : ChannelLeft) → slice_get channels at ≡ Some c
    → slice_get channels other ≡ Some d → c.channel ≡ d.channel → at ≡ other

-- the time packets of a file
abbrev pub times_in : List Merged → List ℕ
times_in [] = []
times_in (OfTime tick ∷ out) = tick ∷ times_in out
times_in (OfPiece channel piece ∷ out) = times_in out

-- the counters of a piece lie before this tick
abbrev pub LiesBefore : FilePiece → (tick : ℕ) → Type 0
LiesBefore (OfFrames place frames) tick = AllByRecursion (λ frame. frame.counter < tick) frames
LiesBefore (OfRecord place (Some counter) body) tick = counter < tick
LiesBefore (OfRecord place None body) tick = Unit {0}

-- behind each piece stand no time packets but those before whose ticks it lies
abbrev pub TimesStandAhead : List Merged → Type 0
TimesStandAhead [] = Unit {0}
TimesStandAhead (OfTime tick ∷ out) = TimesStandAhead out
TimesStandAhead (OfPiece channel piece ∷ out) =
    AllByRecursion (LiesBefore piece) (times_in out) × TimesStandAhead out

-- ---- what stands behind a time packet

-- a counter, if there is one, isn't less than a tick
abbrev pub LiesFrom : (tick : ℕ) → Held → Type 0
LiesFrom tick (HeldFrame frame) = tick ≤ frame.counter
LiesFrom tick (HeldRecord (Some counter) body) = tick ≤ counter
LiesFrom tick (HeldRecord None body) = Unit {0}

abbrev pub HasNoCounter : Held → Type 0
HasNoCounter (HeldFrame frame) = ⊥
HasNoCounter (HeldRecord (Some counter) body) = ⊥
HasNoCounter (HeldRecord None body) = Unit {0}

-- a later counter isn't less, and behind what has no counter there is none
abbrev pub IsNotStepBack : (held later : Held) → Type 0
IsNotStepBack (HeldFrame frame) later = LiesFrom frame.counter later
IsNotStepBack (HeldRecord (Some counter) body) later = LiesFrom counter later
IsNotStepBack (HeldRecord None body) later = HasNoCounter later

-- the counters of a channel never fall
abbrev pub NeverStepBack : List Held → Type 0
NeverStepBack [] = Unit {0}
NeverStepBack (held ∷ rest) = AllByRecursion (IsNotStepBack held) rest × NeverStepBack rest

-- a channel of which each piece holds something, and whose counters never fall
pub record IsSteady (pieces : List FilePiece) : Type 0 where
  pub some : AllByRecursion (λ piece. held_in piece ≢ []) pieces
  pub rises : NeverStepBack (flat_map held_in pieces)

-- what a channel has behind a time packet doesn't lie before its tick
abbrev pub LieBehindTimes : (channel : ℕ) → List Merged → Type 0
LieBehindTimes channel [] = Unit {0}
LieBehindTimes channel (OfTime tick ∷ out) =
    AllByRecursion (LiesFrom tick) (held_of channel out) × LieBehindTimes channel out
LieBehindTimes channel (OfPiece other piece ∷ out) = LieBehindTimes channel out
