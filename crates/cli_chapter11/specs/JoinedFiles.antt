-- The whole file of several recordings by what SETUP says.
use Rattle.std.specs.Prelude.{ℕ, ◌≡◌, ◌⊎◌, List, [], ◌∷◌, Option, None}
use Rattle.std.specs.List.{flat_map}
use Rattle.std.specs.Io.KnownBytes.{Appends}
use Rattle.ch11_clock.specs.declared.origin.Origin.{Origin}
use Rattle.ch11_clock.specs.Clock.{started, held_origins}
use Rattle.ch11_file.specs.declared.counts.FileCounts.{FileCounts}
use Rattle.ch11_index.specs.declared.index.TheConstants.{MOST_NAMED}
use Rattle.rec_reader.specs.Packets.{PacketData}
use Rattle.rec_pieces.specs.declared.packets.FilePackets.{FilePackets}
use Rattle.rec_pieces.specs.Entries.{PacketPlaces}
use Rattle.ch11_channels.specs.declared.channels.FileChannel.{FileChannel}
use Rattle.rec_joined.specs.declared.joined.Joined.{Joined}
use Rattle.rec_joined.specs.JoinedPackets.{IsJoined, joined_packets}
use Rattle.rec_whole.specs.declared.names.FileNames.{FileNames}
use Rattle.rec_whole.specs.declared.refusal.WholeEnd.{WholeEnd}
use Rattle.rec_whole.specs.declared.refusal.WholeEnd.TheVariants.{Memory}
use Rattle.rec_whole.specs.WholeRecordings.{WholeFails, WritesRecording}
use Rattle.rec_words.specs.declared.setup_file.FileSettings.{FileSettings}
use Rattle.rec_words.specs.declared.setup_file.GeneralSettings.{GeneralSettings}
use Rattle.rec_words.specs.declared.setup_file.RecordingSettings.{RecordingSettings}
use Rattle.rec_words.specs.SetupFile.{ChannelSetupData, RecordingData}
use Rattle.rec_words.specs.SetupViews.{general_data}
use Rattle.cli_chapter11.specs.declared.joined_file.JoinedFile.{JoinedFile}
use Rattle.cli_chapter11.specs.declared.joined_channels.ListedRecording.{ListedRecording}
use Rattle.cli_chapter11.specs.Joining.{AreHeld, AreMovedBy, AreReadings, name_by_table}
use Rattle.cli_chapter11.specs.Joining.{packets_there}
use Rattle.cli_chapter11.specs.WholeFiles.{AreNamesOf}

-- the clock of the file: its beginning holds from counter 0 on
abbrev pub clock_from : Origin → List Origin
clock_from start = held_origins (started (start ∷ []))

-- the file as one recording of which SETUP says these channels
abbrev pub joined_data : List ChannelSetupData → RecordingData
joined_data channels = record { origins = []; after = None; channels = channels }

-- the names of the file are those of SETUP, with what its tables say of channels
abbrev pub AreNamesInTables : GeneralSettings → List RecordingSettings → List ListedRecording
    → List FileChannel → FileNames
    → Type 0
AreNamesInTables general tables all channels names =
    AreNamesOf (general_data general)
    (joined_data (flat_map (name_by_table tables all) channels)) names

abbrev pub AreJoinedNames : {F : Type 0} → JoinedFile F → FileNames → Type 0
AreJoinedNames file names =
    AreNamesInTables file.general.now file.tables.now file.all.now file.channels.now names

-- the output grew by the whole file of the packets that the recordings have, of which these are the
-- counts
abbrev pub WritesJoined : {F : Type 0} → (there : FilePackets F → Option PacketPlaces)
    → JoinedFile F
    → (before held : Option (List ℕ)) → FileCounts → Type 0
WritesJoined there file before held counts =
    (read : List (List PacketData)) → IsJoined there file.joined.now read
    → (names : FileNames) × AreJoinedNames file names
    × WritesRecording (joined_packets file.joined.now.parts.items read) names
    (clock_from file.start) MOST_NAMED before held counts

-- the file ended early for this reason. Memory may be out before there are names.
abbrev pub FailsJoined : {F : Type 0} → (there : FilePackets F → Option PacketPlaces) → JoinedFile F
    → (before held : Option (List ℕ)) → WholeEnd → Type 0
FailsJoined there file before held end =
    (read : List (List PacketData)) → IsJoined there file.joined.now read
    → ((end ≡ Memory) × Appends before held [])
    ⊎ ((names : FileNames) × AreJoinedNames file names
    × WholeFails (joined_packets file.joined.now.parts.items read) names
    (clock_from file.start) MOST_NAMED before held end)

-- the output grew by the whole file of recordings: each has the packets of its own file, and they
-- become what SETUP and its listing say of it
pub record WritesRecordings {F : Type 0} (said : F
    → Option (List ℕ)) (files : List F) (settings : FileSettings)
    (all : List ListedRecording) (channels : List FileChannel) (start : Origin)
    (before held : Option (List ℕ)) (counts : FileCounts)
    : Type 0 where
  pub joined : Joined (FilePackets F)
  pub moved : AreMovedBy said start channels files settings.recordings.items all joined.parts.items
  pub written : (bytes : List (List ℕ)) → AreHeld said files bytes
      → (read : List (List PacketData)) × AreReadings bytes read
      × IsJoined (packets_there said) joined read
      × (names : FileNames)
      × AreNamesInTables settings.general settings.recordings.items all channels names
      × WritesRecording (joined_packets joined.parts.items read) names
      (clock_from start) MOST_NAMED before held counts
