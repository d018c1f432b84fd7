-- The whole file of a recording by what SETUP says.
use Rattle.std.specs.Prelude.{ℕ, ◌≡◌, ◌⊎◌, List, [], map, Option}
use Rattle.std.specs.Io.KnownBytes.{Appends}
use Rattle.ch11_clock.specs.declared.origin.Origin.{Origin}
use Rattle.ch11_clock.specs.Clock.{started, held_origins}
use Rattle.ch11_file.specs.declared.counts.FileCounts.{FileCounts}
use Rattle.ch11_index.specs.declared.index.TheConstants.{MOST_NAMED}
use Rattle.ch11_setup.specs.declared.setup.SetupChannel.{SetupChannel}
use Rattle.ch11_setup.specs.Setups.{given_attribute}
use Rattle.rec_reader.specs.Packets.{PacketData}
use Rattle.rec_whole.specs.declared.names.FileNames.{FileNames}
use Rattle.rec_whole.specs.declared.refusal.WholeEnd.{WholeEnd}
use Rattle.rec_whole.specs.declared.refusal.WholeEnd.TheVariants.{Memory}
use Rattle.rec_whole.specs.WholeRecordings.{WholeFails, WritesRecording}
use Rattle.rec_words.specs.declared.setup_file.GeneralSettings.{GeneralSettings}
use Rattle.rec_words.specs.declared.setup_file.RecordingSettings.{RecordingSettings}
use Rattle.rec_words.specs.SetupFile.{ChannelSetupData, RecordingData, GeneralData}
use Rattle.rec_words.specs.SetupViews.{general_data, recording_data}

-- what a setup record says of a channel, as SETUP says it
abbrev pub channel_said : SetupChannel → ChannelSetupData
channel_said channel = record { id = channel.id; name = channel.name.now; net = channel.net }

-- the names of a whole file are those of SETUP
pub record AreNamesOf (general : GeneralData) (recording : RecordingData)
    (names : FileNames) : Type 0 where
  pub host : names.host.now ≡ general.host
  pub program : names.program.now ≡ general.program
  pub source : names.is_external ≡ general.is_external
  pub attributes : map given_attribute names.attributes.now ≡ general.attributes
  pub channels : map channel_said names.channels.now ≡ recording.channels

-- its clock: the origins of SETUP that hold
abbrev pub clock_said : RecordingSettings → List Origin
clock_said recording = held_origins (started recording.origins.items)

-- the output grew by the whole file of these packets by SETUP, of which these are the counts
abbrev pub WritesBySetup :
    GeneralSettings → RecordingSettings → List PacketData → (before held : Option (List ℕ))
    → FileCounts → Type 0
WritesBySetup general recording packets before held counts =
    (names : FileNames) × AreNamesOf (general_data general) (recording_data recording) names
    × WritesRecording packets names (clock_said recording) MOST_NAMED before held counts

-- the file ended early for this reason. Memory may be out before there are names.
abbrev pub FailsBySetup :
    GeneralSettings → RecordingSettings → List PacketData → (before held : Option (List ℕ))
    → WholeEnd → Type 0
FailsBySetup general recording packets before held end =
    ((end ≡ Memory) × Appends before held [])
    ⊎ ((names : FileNames) × AreNamesOf (general_data general) (recording_data recording) names
    × WholeFails packets names (clock_said recording) MOST_NAMED before held end)
