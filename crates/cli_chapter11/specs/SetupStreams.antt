-- The stream of a recording by what SETUP says.
use Rattle.std.specs.Prelude.{ℕ, ◌≡◌, ◌⊎◌, List, [], Option}
use Rattle.std.specs.Io.KnownBytes.{Appends}
use Rattle.rec_whole.specs.declared.names.FileNames.{FileNames}
use Rattle.rec_stream.specs.declared.counts.StreamCounts.{StreamCounts}
use Rattle.rec_stream.specs.declared.end.StreamEnd.{StreamEnd}
use Rattle.rec_stream.specs.declared.end.StreamEnd.TheVariants.{Memory}
use Rattle.rec_stream.specs.StreamEnds.{StreamFails, WritesStream}
use Rattle.rec_words.specs.declared.setup_file.GeneralSettings.{GeneralSettings}
use Rattle.rec_words.specs.declared.setup_file.RecordingSettings.{RecordingSettings}
use Rattle.rec_words.specs.SetupViews.{general_data, recording_data}
use Rattle.cli_chapter11.specs.WholeFiles.{AreNamesOf, clock_said}

-- the output grew by the stream of this recording by SETUP, of which these are the counts
abbrev pub StreamsBySetup :
    GeneralSettings → RecordingSettings → (bytes : List ℕ) → (before held : Option (List ℕ))
    → StreamCounts → Type 0
StreamsBySetup general recording bytes before held counts =
    (names : FileNames) × AreNamesOf (general_data general) (recording_data recording) names
    × WritesStream names (clock_said recording) bytes before held counts

-- the stream ended early for this reason. Memory may be out before there are names.
abbrev pub StopsBySetup :
    GeneralSettings → RecordingSettings → (bytes : List ℕ) → (before held : Option (List ℕ))
    → StreamEnd → Type 0
StopsBySetup general recording bytes before held end =
    ((end ≡ Memory) × Appends before held [])
    ⊎ ((names : FileNames) × AreNamesOf (general_data general) (recording_data recording) names
    × StreamFails names (clock_said recording) bytes before held end)
