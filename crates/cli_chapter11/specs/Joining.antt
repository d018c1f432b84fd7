-- What SETUP says of recordings that are joined, and what is read of them.
use Rattle.std.specs.Prelude.{ℕ, ◌≡◌, ◌<◌, ◌^◌, ◌==◌, if◌then◌else◌, List, [], ◌∷◌, ◌++◌, length}
use Rattle.std.specs.Prelude.{map, Bool}
use Rattle.std.specs.Prelude.{Option, None, Some}
use Rattle.std.specs.List.{filter, find}
use Rattle.std.specs.Option.{option_map}
use Rattle.ch11_clock.specs.declared.origin.Origin.{Origin}
use Rattle.ch11_channels.specs.declared.channels.FileChannel.{FileChannel}
use Rattle.ch11_moved.specs.FileStarts.{IsRoundedDown, earliest_from}
use Rattle.ch11_setup.specs.declared.setup.SetupChannel.{SetupChannel}
use Rattle.rec_reader.specs.Packets.{PacketData}
use Rattle.rec_reader.specs.Reading.{Reads}
use Rattle.rec_pieces.specs.declared.packets.FilePackets.{FilePackets}
use Rattle.rec_pieces.specs.Entries.{PacketPlaces, places_of}
use Rattle.rec_joined.specs.declared.joined.Part.{Part}
use Rattle.rec_joined.specs.declared.moves.Moves.{Moves}
use Rattle.rec_words.specs.declared.setup_file.RecordingSettings.{RecordingSettings}
use Rattle.rec_words.specs.SetupFile.{ChannelSetupData}
use Rattle.rec_words.specs.SetupViews.{recording_data}
use Rattle.cli_chapter11.specs.declared.joined_channels.ListedRecording.{ListedRecording}
use Rattle.cli_chapter11.specs.RecordsInRuns.{left_by}
use Rattle.cli_chapter11.specs.WholeFiles.{channel_said, clock_said}

-- ---- the clock of the file

abbrev pub origins_of : RecordingSettings → List Origin
origins_of recording = recording.origins.items

-- it begins at the earliest of these origins, rounded down, with counter 0
abbrev pub IsStartOf : List Origin → Origin → Type 0
IsStartOf [] start = ⊥
IsStartOf (first ∷ others) start =
    IsRoundedDown (earliest_from first others).nanos start.nanos × (start.counter ≡ 0)

-- ---- the names of its channels

abbrev pub has_id : (id : ℕ) → ChannelSetupData → Bool
has_id id said = said.id == id

-- the name of a channel with its ID in the file
abbrev pub with_file_id : (id : ℕ) → ChannelSetupData → ChannelSetupData
with_file_id id said = record { id = id; name = said.name; net = said.net }

-- what is said of a channel, if the table says it
abbrev pub said_as : (id : ℕ) → Option ChannelSetupData → List ChannelSetupData
said_as id None = []
said_as id (Some said) = with_file_id id said ∷ []

abbrev pub said_in_table : FileChannel → RecordingSettings → List ChannelSetupData
said_in_table channel recording =
    said_as channel.id (find (has_id channel.of.channel) (recording_data recording).channels)

-- what is said first, if anything is
abbrev pub said_first : (here others : List ChannelSetupData) → List ChannelSetupData
said_first [] others = others
said_first (said ∷ more) others = said ∷ []

-- the name of a channel of the file, by the table of the first recording of its run that names it
abbrev pub name_by_table : List RecordingSettings → List ListedRecording → FileChannel
    → List ChannelSetupData
name_by_table (recording ∷ recordings) (listed ∷ all) channel =
    said_first (if listed.run == channel.of.run then said_in_table channel recording else [])
    (name_by_table recordings all channel)
name_by_table recordings all channel = []

-- it is this name, or there is none
abbrev pub IsNameBy : List ChannelSetupData → Option SetupChannel → Type 0
IsNameBy named None = named ≡ []
IsNameBy named (Some channel) = named ≡ channel_said channel ∷ []

-- ---- what is read

-- what is read at each place of a file whose bytes are said
abbrev pub packets_there : {F : Type 0} → (held : F → Option (List ℕ)) → FilePackets F
    → Option PacketPlaces
packets_there held packets = option_map places_of (held packets.file.now)

-- each file says that it has these bytes
abbrev pub AreHeld : {F : Type 0} → (held : F → Option (List ℕ)) → List F → List (List ℕ) → Type 0
AreHeld held [] [] = Unit {0}
AreHeld held (file ∷ files) (recording ∷ recordings) =
    (held file ≡ Some recording) × (length recording < 2 ^ 64) × AreHeld held files recordings
AreHeld held files recordings = ⊥

-- each recording has these packets, and is read to its end
abbrev pub AreReadings : List (List ℕ) → List (List PacketData) → Type 0
AreReadings [] [] = Unit {0}
AreReadings (recording ∷ recordings) (packets ∷ more) =
    Reads recording packets None × AreReadings recordings more
AreReadings recordings more = ⊥

-- a recording is moved by its own clock to the clock of the file, and to its channels that are of
-- its run, with the numbers of records that were found for it; the ends of channels that later ones
-- of its run name are left out
abbrev pub is_of_run : (run : ℕ) → FileChannel → Bool
is_of_run run channel = channel.of.run == run

pub record IsMovedBy (start : Origin) (channels : List FileChannel) (recording : RecordingSettings)
    (listed : ListedRecording) (later : List ListedRecording) (moves : Moves)
    : Type 0 where
  pub start_is : moves.start ≡ start
  pub clock_is : moves.clock ≡ clock_said recording
  pub channels_are : moves.channels.items ≡ filter (is_of_run listed.run) channels
  pub run_is : moves.run ≡ listed.run
  pub records_are : moves.records.items ≡ map (left_by listed.run later) listed.records.items

-- each has the packets of its own file, and is moved by what is said of it, where these recordings
-- follow all of them
abbrev pub AreMovedBefore : {F : Type 0} → (held : F → Option (List ℕ)) → (start : Origin)
    → List FileChannel → (behind : List ListedRecording) → List F
    → List RecordingSettings → List ListedRecording → List (Part (FilePackets F)) → Type 0
AreMovedBefore held start channels behind [] [] [] [] = Unit {0}
AreMovedBefore held start channels behind (file ∷ files) (recording ∷ recordings) (listed ∷ all)
    (part ∷ parts) =
    (packets_there held part.packets ≡ option_map places_of (held file))
    × IsMovedBy start channels recording listed (all ++ behind) part.moves
    × AreMovedBefore held start channels behind files recordings all parts
AreMovedBefore held start channels behind files recordings all parts = ⊥

-- none follows them
abbrev pub AreMovedBy : {F : Type 0} → (held : F → Option (List ℕ)) → (start : Origin)
    → List FileChannel → List F
    → List RecordingSettings → List ListedRecording → List (Part (FilePackets F)) → Type 0
AreMovedBy held start channels files recordings all parts =
    AreMovedBefore held start channels [] files recordings all parts

-- where a recording ends in the joined one
abbrev pub end_of_part : {P : Type 0} → Part P → ℕ
end_of_part part = part.end
