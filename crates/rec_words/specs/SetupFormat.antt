-- The setup of a Chapter 11 file in its own words: what a text that has no fault says of a file.
use Rattle.std.specs.Prelude.{ℕ, ◌*◌, ℤ, pos, ◌-ℤ◌, Bool, false, ◌≡◌, ◌≢◌, ◌<◌, ◌≤◌, Option, ◌⊎◌}
use Rattle.std.specs.Prelude.{List, [], ◌∷◌, ◌++◌, length, map, All, None, Some, codes}
use Rattle.std.specs.List.{AllZip}
use Rattle.toml.specs.Data.{string, integer, boolean, array, Items, Members, get_member}
use Rattle.toml.specs.Parse.{parse_document}
use Rattle.toml.specs.View.{items_of}
use Rattle.ch11_clock.specs.OriginText.{SaysOrigin}
use Rattle.ch11_setup.specs.Attributes.{AttributeData}
use Rattle.rec_words.specs.Settings.{tables_in, most_of_8_bits, most_of_16_bits}
use Rattle.rec_words.specs.Format.{HasOnly, IsNumber, AreDistinctIds}
use Rattle.rec_words.specs.SetupFile.{OriginData, ChannelSetupData, RecordingData, GeneralData}
use Rattle.rec_words.specs.SetupFile.{FileData}
use Rattle.rec_words.specs.SetupFile.{file_keys, recording_keys, origin_keys, setup_channel_keys}
use Rattle.rec_words.specs.SetupFile.{most_of_48_bits, most_origins, CanBeAdded}

-- ---- keys

-- the text that a key is set to; if it isn't set, the default
abbrev pub IsText : Members → (name default text : List ℕ) → Type 0
IsText members name default text =
    (get_member name members ≡ Some (string text))
    ⊎ ((get_member name members ≡ None) × (text ≡ default))

-- whether a key is set to true; if it isn't set, the default
abbrev pub IsTruth : Members → (name : List ℕ) → (default truth : Bool) → Type 0
IsTruth members name default truth =
    (get_member name members ≡ Some (boolean truth))
    ⊎ ((get_member name members ≡ None) × (truth ≡ default))

-- the key is set to a list of these tables
abbrev pub IsSetToTables : Members → (name : List ℕ) → List Members → Type 0
IsSetToTables members name tables =
    (items : Items) × (get_member name members ≡ Some (array items))
    × (tables_in items ≡ Some tables)

-- ---- what they say

-- `origin` is set to a text that says this time
abbrev pub SaysTime : Members → (nanos : ℤ) → Type 0
SaysTime members nanos =
    (written : List ℕ) × (get_member (codes "origin") members ≡ Some (string written))
    × SaysOrigin written nanos

-- the key is set to this text
abbrev pub IsSetToText : Members → (name text : List ℕ) → Type 0
IsSetToText members name text = get_member name members ≡ Some (string text)

-- it isn't set
abbrev pub IsUnset : Members → (name : List ℕ) → Type 0
IsUnset members name = get_member name members ≡ None

-- the table's scale is UTC, by name or since none is set; or TAI, so many seconds ahead of UTC; or
-- one that isn't known, of which is said how far ahead it is
abbrev pub IsAhead : (unknown : Option ℕ) → Members → (ahead : ℕ) → Type 0
IsAhead unknown members ahead =
    ((IsUnset members (codes "scale") ⊎ IsSetToText members (codes "scale") (codes "UTC"))
    × IsUnset members (codes "tai_offset") × (ahead ≡ 0))
    ⊎ ((IsSetToText members (codes "scale") (codes "TAI")
    × (get_member (codes "tai_offset") members ≡ Some (integer (pos ahead)))
    × (ahead ≤ most_of_8_bits))
    ⊎ (IsSetToText members (codes "scale") (codes "unknown")
    × IsUnset members (codes "tai_offset") × (unknown ≡ Some ahead)))

-- what is said of scales that aren't known: nothing, or what the document's own scale is
abbrev pub IsSaidOfUnknown : Members → (unknown : Option ℕ) → Type 0
IsSaidOfUnknown members None =
    IsUnset members (codes "scale") × IsUnset members (codes "tai_offset")
IsSaidOfUnknown members (Some ahead) =
    (get_member (codes "scale") members ≢ None) × IsAhead None members ahead

-- this origin, in UTC, was noted in its table by the table's scale
pub record IsNotedOrigin (unknown : Option ℕ) (members : Members)
    (origin : OriginData) : Type 0 where
  pub told : ℤ
  pub ahead : ℕ
  pub only : HasOnly origin_keys members
  pub counter_is : get_member (codes "counter") members ≡ Some (integer (pos origin.counter))
  pub counter_fits : origin.counter ≤ most_of_48_bits
  pub time_is : SaysTime members told
  pub scale_is : IsAhead unknown members ahead
  pub in_utc : origin.nanos ≡ told -ℤ pos (ahead * 1_000_000_000)

-- one origin, from counter 0 on, in UTC; or those that were noted, in order
abbrev pub AreOrigins : (unknown : Option ℕ) → Members → List OriginData → Type 0
AreOrigins unknown members origins =
    ((nanos : ℤ) × SaysTime members nanos × (get_member (codes "origins") members ≡ None)
    × (origins ≡ record { counter = 0; nanos = nanos } ∷ []))
    ⊎ ((tables : List Members) × (get_member (codes "origin") members ≡ None)
    × IsSetToTables members (codes "origins") tables
    × (1 ≤ length tables) × (length tables ≤ most_origins)
    × AllZip (IsNotedOrigin unknown) tables origins)

-- the text is the attribute's name, a colon and its value
abbrev pub SaysAttribute : List ℕ → AttributeData → Type 0
SaysAttribute text attribute =
    (text ≡ attribute.name ++ 58 ∷ attribute.value) × CanBeAdded attribute

-- the attributes of a list of texts, in order; or none
abbrev pub AreAdded : Members → List AttributeData → Type 0
AreAdded members attributes =
    ((get_member (codes "attributes") members ≡ None) × (attributes ≡ []))
    ⊎ ((texts : List (List ℕ))
    × (get_member (codes "attributes") members ≡ Some (array (items_of (map string texts))))
    × AllZip SaysAttribute texts attributes)

-- this is said of a channel in its table
pub record IsFileChannel (members : Members) (channel : ChannelSetupData) : Type 0 where
  pub only : HasOnly setup_channel_keys members
  pub id_is : get_member (codes "id") members ≡ Some (integer (pos channel.id))
  pub named : 1 ≤ channel.id
  pub id_fits : channel.id ≤ most_of_16_bits
  pub name_is : IsText members (codes "name") (codes "channel") channel.name
  pub net_is : IsNumber members (codes "net") 0 most_of_8_bits 0 channel.net

-- the channels of a list of tables, in order; or none
abbrev pub AreFileChannels : Members → List ChannelSetupData → Type 0
AreFileChannels members channels =
    ((get_member (codes "channel") members ≡ None) × (channels ≡ []))
    ⊎ ((tables : List Members) × IsSetToTables members (codes "channel") tables
    × AllZip IsFileChannel tables channels)

-- the IDs of channels
abbrev pub setup_ids : List ChannelSetupData → List ℕ
setup_ids channels = map (λ channel. channel.id) channels

-- ---- recordings

-- `after` is set to this place, or isn't set
abbrev pub IsAfter : Members → Option ℕ → Type 0
IsAfter members None = IsUnset members (codes "after")
IsAfter members (Some place) = get_member (codes "after") members ≡ Some (integer (pos place))

-- this is said of a recording in its table
pub record IsRecordingTable (unknown : Option ℕ) (members : Members)
    (recording : RecordingData) : Type 0 where
  pub only : HasOnly recording_keys members
  pub origins_are : AreOrigins unknown members recording.origins
  pub after_is : IsAfter members recording.after
  pub channels_are : AreFileChannels members recording.channels
  pub distinct : AreDistinctIds (setup_ids recording.channels)

-- a recording that follows another does so behind these: that is one of them, and none of them
-- follows it
abbrev pub MayFollow : (before : List RecordingData) → (after : Option ℕ) → Type 0
MayFollow before None = Unit {0}
MayFollow before (Some place) =
    (place < length before) × All (λ (earlier : RecordingData). earlier.after ≢ Some place) before

-- each recording follows an earlier one or none, and no two follow the same: they are runs
abbrev pub AreRuns : List RecordingData → Type 0
AreRuns recordings =
    (before : List RecordingData) (recording : RecordingData) (behind : List RecordingData)
    → recordings ≡ before ++ recording ∷ behind → MayFollow before recording.after

-- it is what a document without tables of recordings says of its only one
pub record IsOnlyRecording (unknown : Option ℕ) (members : Members)
    (recording : RecordingData) : Type 0 where
  pub unset : IsUnset members (codes "recording")
  pub origins_are : AreOrigins unknown members recording.origins
  pub after_is : recording.after ≡ None
  pub channels_are : AreFileChannels members recording.channels
  pub distinct : AreDistinctIds (setup_ids recording.channels)

-- they are what a document says of recordings in a table for each, and it says nothing else of one
pub record AreRecordings (unknown : Option ℕ) (members : Members)
    (recordings : List RecordingData) : Type 0 where
  pub tables : List Members
  pub tables_are : IsSetToTables members (codes "recording") tables
  pub no_origin : IsUnset members (codes "origin")
  pub no_origins : IsUnset members (codes "origins")
  pub no_channel : IsUnset members (codes "channel")
  pub said : AllZip (IsRecordingTable unknown) tables recordings
  pub runs : AreRuns recordings

-- ---- the document

-- this is said of the whole file in a document's table
pub record IsGeneral (members : Members) (general : GeneralData) : Type 0 where
  pub host_is : IsText members (codes "host") (codes "bpfrec") general.host
  pub program_is : IsText members (codes "program") (codes "bpfrec") general.program
  pub external_is : IsTruth members (codes "external") false general.is_external
  pub attributes_are : AreAdded members general.attributes

-- this is said of a file of so many recordings in a document's table
pub record IsFile (count : ℕ) (members : Members) (file : FileData) : Type 0 where
  pub only : HasOnly file_keys members
  pub unknown : Option ℕ
  pub unknown_is : IsSaidOfUnknown members unknown
  pub as_many : length file.recordings ≡ count
  pub recordings_are :
      ((recording : RecordingData) × IsOnlyRecording unknown members recording
      × (file.recordings ≡ recording ∷ []))
      ⊎ AreRecordings unknown members file.recordings
  pub general_is : IsGeneral members file.general

-- the text is a document that says this of a file of so many recordings
abbrev pub IsFileOf : (count : ℕ) → List ℕ → FileData → Type 0
IsFileOf count text file =
    (members : Members) × (parse_document text ≡ Some members) × IsFile count members file
