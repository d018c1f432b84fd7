-- Events and specifications whose numbers are those of their types.
use Rattle.std.specs.Prelude.{ℕ, ◌≡◌, ◌<◌, ◌^◌, List, ◌++◌, Some}
use Rattle.eth_frame.specs.Frame.{IsFrame}
use Rattle.rec_writer.specs.Recording.{RecordedChannel}
use Rattle.rec_writer.specs.Writers.{WriterState}
use Rattle.rec_core.specs.Openings.{SpecData}
use Rattle.rec_core.specs.World.{EventData}
use Rattle.rec_core.specs.World.EventData.{OfTake}
use Rattle.rec_run.specs.Jobs.{AreLaneSettings}
use Rattle.rec_theorem.specs.Found.{ReadsBack, ReadsBackCut}

-- the settings are in range, and fewer than 2^64 frames may be taken
pub record IsSpec (spec : SpecData) : Type 0 where
  pub settings : AreLaneSettings spec.settings
  pub most : spec.max < 2 ^ 64

-- if the event takes a frame, that is a frame
abbrev pub IsEvent : EventData → Type 0
IsEvent (OfTake channel frame) = IsFrame frame
IsEvent other = Unit {0}

-- behind what it held the output has bytes that are read back as these channels
abbrev pub HoldsReadable : List ℕ → WriterState → List RecordedChannel → Type 0
HoldsReadable before writer channels =
    (bytes : List ℕ) × (writer.held ≡ Some (before ++ bytes)) × ReadsBack channels bytes

-- behind what it held the output has bytes that are read back as the beginnings of these channels
abbrev pub HoldsReadableCut : List ℕ → WriterState → List RecordedChannel → Type 0
HoldsReadableCut before writer channels =
    (bytes : List ℕ) × (writer.held ≡ Some (before ++ bytes)) × ReadsBackCut channels bytes
