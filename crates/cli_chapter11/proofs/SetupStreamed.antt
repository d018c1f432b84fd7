-- A stream by what SETUP says.
use Rattle.std.proofs.Common.{ℕ, List, ◌≡◌, Option, inr, subst}
use Rattle.std.specs.Prelude.{Ok, Err, Result, MatchResult}
use Rattle.ch11_clock.specs.declared.origin.Origin.{Origin}
use Rattle.rec_whole.specs.declared.names.FileNames.{FileNames}
use Rattle.rec_stream.specs.declared.counts.StreamCounts.{StreamCounts}
use Rattle.rec_stream.specs.declared.end.StreamEnd.{StreamEnd}
use Rattle.rec_stream.specs.StreamEnds.{StreamFails, WritesStream}
use Rattle.rec_words.specs.declared.setup_file.GeneralSettings.{GeneralSettings}
use Rattle.rec_words.specs.declared.setup_file.RecordingSettings.{RecordingSettings}
use Rattle.rec_words.specs.SetupViews.{general_data, recording_data}
use Rattle.cli_chapter11.specs.WholeFiles.{AreNamesOf, clock_said}
use Rattle.cli_chapter11.specs.SetupStreams.{StopsBySetup, StreamsBySetup}

pub streamed_by : (general : GeneralSettings) (recording : RecordingSettings) (names : FileNames) (rules : List Origin) (bytes : List ℕ)
    (before held : Option (List ℕ)) (result : Result StreamCounts StreamEnd) → AreNamesOf (general_data general) (recording_data recording) names
    → rules ≡ clock_said recording → MatchResult result (WritesStream names rules bytes before held) (StreamFails names rules bytes before held)
    → MatchResult result (StreamsBySetup general recording bytes before held) (StopsBySetup general recording bytes before held)
streamed_by general recording names rules bytes before held (Ok counts) are is wrote =
    (names, are, subst (λ (clock : List Origin). WritesStream names clock bytes before held counts) is wrote)
streamed_by general recording names rules bytes before held (Err end) are is failed =
    inr (names, are, subst (λ (clock : List Origin). StreamFails names clock bytes before held end) is failed)
