-- What the setup of a Chapter 11 file is: by the table of a TOML document, or the first fault in
-- it.
use Rattle.std.specs.Prelude.{ℕ, ◌*◌, ℤ, pos, negsuc, ◌-ℤ◌, Bool, false, ◌&&◌, ◌==◌, bytes_eq}
use Rattle.std.specs.Prelude.{nat_le, if◌then◌else◌, List, [], ◌∷◌, ◌++◌, length}
use Rattle.std.specs.Prelude.{Option, None, Some, option_map, option_and_then, unwrap_or, Result}
use Rattle.std.specs.Prelude.{Ok, Err, codes, not, nat_lt, is_none}
use Rattle.std.specs.List.{list_any, list_all}
use Rattle.toml.specs.Data.{Data, string, boolean, array, Items, no_items, item, Members, as_str}
use Rattle.toml.specs.Data.{get_member}
use Rattle.toml.specs.Parse.{parse_document}
use Rattle.ch11_clock.specs.OriginText.{origin_said}
use Rattle.ch11_setup.specs.Attributes.{AttributeData, attribute_of, cut_at, IsAttribute}
use Rattle.rec_words.specs.Settings.{Fault, syntax, missing, value, ◌>>=◌, only, number_in, text_in}
use Rattle.rec_words.specs.Settings.{required, number_or}
use Rattle.rec_words.specs.Settings.{tables_in, most_of_8_bits, most_of_16_bits, most_of_63_bits}
use Rattle.rec_words.specs.ReservedNames.{is_reserved, IsReserved}

-- an origin that was noted: the counter from which on it holds, and the time of counter 0 in
-- nanoseconds since 1970
pub record OriginData : Type 0 where
  pub counter : ℕ
  pub nanos : ℤ

-- what is said of a channel
pub record ChannelSetupData : Type 0 where
  pub id : ℕ
  pub name : List ℕ
  pub net : ℕ

-- what is said of a recording: its origins, the place of the earlier one that it follows in its
-- run, if it follows one, and its channels
pub record RecordingData : Type 0 where
  pub origins : List OriginData
  pub after : Option ℕ
  pub channels : List ChannelSetupData

-- what is said of the whole file
pub record GeneralData : Type 0 where
  pub host : List ℕ
  pub program : List ℕ
  pub is_external : Bool
  pub attributes : List AttributeData

-- what is said of a file and of the recordings that it is made of
pub record FileData : Type 0 where
  pub recordings : List RecordingData
  pub general : GeneralData

-- the keys of the document, those of a recording, those of an origin, and those of a channel
abbrev pub file_keys : List (List ℕ)
file_keys =
    codes "scale" ∷ codes "tai_offset" ∷ codes "recording" ∷ codes "origin" ∷ codes "origins"
    ∷ codes "host" ∷ codes "program" ∷ codes "external" ∷ codes "attributes" ∷ codes "channel" ∷ []

abbrev pub recording_keys : List (List ℕ)
recording_keys = codes "origin" ∷ codes "origins" ∷ codes "after" ∷ codes "channel" ∷ []

abbrev pub origin_keys : List (List ℕ)
origin_keys = codes "counter" ∷ codes "origin" ∷ codes "scale" ∷ codes "tai_offset" ∷ []

abbrev pub setup_channel_keys : List (List ℕ)
setup_channel_keys = codes "id" ∷ codes "name" ∷ codes "net" ∷ []

-- the greatest number of 48 bits, and the greatest number of origins
abbrev pub most_of_48_bits : ℕ
most_of_48_bits = 281474976710655

abbrev pub most_origins : ℕ
most_origins = 65536

-- ---- keys

-- the text of a key, or its default
abbrev pub text_or : (default key : List ℕ) → Members → Result (List ℕ) Fault
text_or default key members =
    unwrap_or (option_map (text_in key) (get_member key members)) (Ok default)

-- true or false
abbrev pub truth_in : (key : List ℕ) → Data → Result Bool Fault
truth_in key (boolean truth) = Ok truth
truth_in key _ = Err (value key)

-- the truth of a key, or its default
abbrev pub truth_or : (default : Bool) (key : List ℕ) → Members → Result Bool Fault
truth_or default key members =
    unwrap_or (option_map (truth_in key) (get_member key members)) (Ok default)

-- a time, in nanoseconds since 1970, in the text of an origin
abbrev pub time_told_in : (key : List ℕ) → Data → Result ℤ Fault
time_told_in key (string text) =
    unwrap_or (option_map (λ nanos. Ok nanos) (origin_said text)) (Err (value key))
time_told_in key _ = Err (value key)

-- a list of tables
abbrev pub tables_of : (key : List ℕ) → Data → Result (List Members) Fault
tables_of key (array items) =
    unwrap_or (option_map (λ tables. Ok tables) (tables_in items)) (Err (value key))
tables_of key _ = Err (value key)

-- what is read of each, in order, or the first fault; what is read of one may depend on what was
-- read of those before it
abbrev pub each_after :
    {A B : Type 0} → (List B → A → Result B Fault) → (before : List B) → List A
    → Result (List B) Fault
each_after read before [] = Ok before
each_after read before (one ∷ rest) =
    read before one >>= (λ found. each_after read (before ++ found ∷ []) rest)

-- ---- time scales

-- how many seconds TAI is ahead of UTC
abbrev pub tai_offset_in : Members → Result ℕ Fault
tai_offset_in members =
    required (number_in 0 most_of_8_bits (codes "tai_offset")) (codes "tai_offset") members

-- this, where no such number is set: it belongs to TAI alone
abbrev pub without_offset : {A : Type 0} → A → Members → Result A Fault
without_offset is members =
    unwrap_or
    (option_map (λ _. Err (value (codes "tai_offset"))) (get_member (codes "tai_offset") members))
    (Ok is)

-- how many seconds the scale of a name is ahead of UTC; one that isn't known is as far ahead as is
-- said of all that aren't
abbrev pub ahead_of : (unknown : Option ℕ) → (name : List ℕ) → Members → Result ℕ Fault
ahead_of unknown name members =
    if bytes_eq name (codes "UTC") then without_offset 0 members
    else if bytes_eq name (codes "TAI") then tai_offset_in members
    else if bytes_eq name (codes "unknown") then
    unwrap_or (option_map (λ ahead. without_offset ahead members) unknown)
    (Err (value (codes "scale")))
    else Err (value (codes "scale"))

-- the same of the scale that a key names
abbrev pub ahead_told_in : (unknown : Option ℕ) → Members → Data → Result ℕ Fault
ahead_told_in unknown table (string name) = ahead_of unknown name table
ahead_told_in unknown table _ = Err (value (codes "scale"))

-- how many seconds a table's scale is ahead of UTC, which it is if it isn't set
abbrev pub ahead_in : (unknown : Option ℕ) → Members → Result ℕ Fault
ahead_in unknown members =
    unwrap_or (option_map (ahead_told_in unknown members) (get_member (codes "scale") members))
    (without_offset 0 members)

-- how far ahead scales are that aren't known, if that is said of all
abbrev pub unknown_scale : Members → Result (Option ℕ) Fault
unknown_scale members =
    unwrap_or
    (option_map (λ _. ahead_in None members >>= (λ ahead. Ok (Some ahead)))
    (get_member (codes "scale") members))
    (without_offset None members)

-- a time of 10^12 seconds or more before 1970
abbrev pub is_too_early : ℤ → Bool
is_too_early (pos n) = false
is_too_early (negsuc n) = nat_le 999_999_999_999_999_999_999 n

-- a time in UTC, by a scale that is so many seconds ahead
abbrev pub in_utc : (told : ℤ) → (ahead : ℕ) → ℤ
in_utc told ahead = told -ℤ pos (ahead * 1_000_000_000)

-- the origin from a counter on, unless its time is too early
abbrev pub origin_unless : (is_early : Bool) → (counter : ℕ) → ℤ → Result OriginData Fault
origin_unless is_early counter nanos =
    if is_early then Err (value (codes "origin")) else Ok
    (record { counter = counter; nanos = nanos })

-- ---- origins

-- the origin in a table
abbrev pub origin_in : (unknown : Option ℕ) → Members → Result OriginData Fault
origin_in unknown members = do
  _ ← only origin_keys members
  counter ← required (number_in 0 most_of_48_bits (codes "counter")) (codes "counter") members
  told ← required (time_told_in (codes "origin")) (codes "origin") members
  ahead ← ahead_in unknown members
  origin_unless (is_too_early (in_utc told ahead)) counter (in_utc told ahead)

-- from one table to as many as there may be origins
abbrev pub enough_origins : List Members → Result (List Members) Fault
enough_origins tables =
    if nat_le 1 (length tables) && nat_le (length tables) most_origins then Ok tables
    else Err (value (codes "origins"))

-- the origins in a list of tables
abbrev pub noted_origins : (unknown : Option ℕ) → Data → Result (List OriginData) Fault
noted_origins unknown found = do
  tables ← tables_of (codes "origins") found
  tables ← enough_origins tables
  each_after (λ _ members. origin_in unknown members) [] tables

-- the one origin that holds from counter 0 on, in UTC
abbrev pub single_origin : Data → Result (List OriginData) Fault
single_origin found = do
  nanos ← time_told_in (codes "origin") found
  Ok (record { counter = 0; nanos = nanos } ∷ [])

-- the origins, by what `origin` and `origins` have: one of the two must be set, and not both
abbrev pub origins_by :
    (unknown : Option ℕ) → (origin origins : Option Data) → Result (List OriginData) Fault
origins_by unknown None None = Err (missing (codes "origin"))
origins_by unknown None (Some many) = noted_origins unknown many
origins_by unknown (Some one) None = single_origin one
origins_by unknown (Some one) (Some many) = do
  _ ← single_origin one
  Err (value (codes "origins"))

abbrev pub origins_in : (unknown : Option ℕ) → Members → Result (List OriginData) Fault
origins_in unknown members =
    origins_by unknown (get_member (codes "origin") members) (get_member (codes "origins") members)

-- ---- attributes

-- a byte that an attribute may have: a printable character of ASCII, but no semicolon
abbrev pub is_attribute_byte : ℕ → Bool
is_attribute_byte byte = nat_le 32 byte && nat_le byte 126 && not (byte == 59)

-- an attribute by its name and its value: there is a name, and a setup record doesn't write it
abbrev pub attribute_with : (parts : List ℕ × List ℕ) → Option AttributeData
attribute_with parts =
    if nat_lt 0 (length parts.0) && not (is_reserved parts.0) then
    Some (attribute_of parts.0 parts.1)
    else None

-- the attribute that a text says: its name, a colon and its value
abbrev pub attribute_said : List ℕ → Option AttributeData
attribute_said text =
    if list_all is_attribute_byte text then option_and_then attribute_with
    (cut_at 58 text) else None

-- the attributes of items, each of which is the text of one
abbrev pub attributes_said : Items → Option (List AttributeData)
attributes_said no_items = Some []
attributes_said (item found rest) =
    option_and_then
    (λ attribute. option_map (λ attributes. attribute ∷ attributes) (attributes_said rest))
    (option_and_then attribute_said (as_str found))

-- all of them, where each is one
abbrev pub all_attributes : Option (List AttributeData) → Result (List AttributeData) Fault
all_attributes (Some attributes) = Ok attributes
all_attributes None = Err (value (codes "attributes"))

-- a list of attributes
abbrev pub attributes_of : Data → Result (List AttributeData) Fault
attributes_of (array items) = all_attributes (attributes_said items)
attributes_of _ = Err (value (codes "attributes"))

-- the attributes, of which there may be none
abbrev pub attributes_in : Members → Result (List AttributeData) Fault
attributes_in members =
    unwrap_or (option_map attributes_of (get_member (codes "attributes") members)) (Ok [])

-- it is an attribute, and none that a setup record writes
abbrev pub CanBeAdded : AttributeData → Type 0
CanBeAdded attribute = IsAttribute attribute × ¬ IsReserved attribute.name

-- ---- channels

-- an ID that no channel before it has
abbrev pub new_id : (before : List ChannelSetupData) → ℕ → Result ℕ Fault
new_id before id =
    if list_any (λ channel. channel.id == id) before then Err (value (codes "id")) else Ok id

-- the channel in a table, behind these
abbrev pub setup_channel_in :
    (before : List ChannelSetupData) → Members → Result ChannelSetupData Fault
setup_channel_in before members = do
  _ ← only setup_channel_keys members
  id ← required (number_in 1 most_of_16_bits (codes "id")) (codes "id") members
  id ← new_id before id
  name ← text_or (codes "channel") (codes "name") members
  net ← number_or 0 0 most_of_8_bits (codes "net") members
  Ok (record { id = id; name = name; net = net })

-- the channels in a list of tables
abbrev pub setup_channels_of : Data → Result (List ChannelSetupData) Fault
setup_channels_of found = do
  tables ← tables_of (codes "channel") found
  each_after setup_channel_in [] tables

-- the channels, of which there may be none
abbrev pub setup_channels_in : Members → Result (List ChannelSetupData) Fault
setup_channels_in members =
    unwrap_or (option_map setup_channels_of (get_member (codes "channel") members)) (Ok [])

-- ---- recordings

-- it is this place
abbrev pub is_place : (place : ℕ) → Option ℕ → Bool
is_place place None = false
is_place place (Some other) = other == place

-- whether a recording may follow the one at a place: that is one of those before it, and none of
-- them follows it
abbrev pub may_follow : (before : List RecordingData) → (place : ℕ) → Bool
may_follow before place =
    nat_lt place (length before) && not (list_any (λ earlier. is_place place earlier.after) before)

-- the place of a recording that may be followed
abbrev pub followed_at : (before : List RecordingData) → Data → Result (Option ℕ) Fault
followed_at before found = do
  place ← number_in 0 most_of_63_bits (codes "after") found
  if may_follow before place then Ok (Some place) else Err (value (codes "after"))

-- the recording that another follows behind these, if it follows one
abbrev pub after_in : (before : List RecordingData) → Members → Result (Option ℕ) Fault
after_in before members =
    unwrap_or (option_map (followed_at before) (get_member (codes "after") members)) (Ok None)

-- the recording in a table, behind these
abbrev pub recording_in :
    (unknown : Option ℕ) → (before : List RecordingData) → Members → Result RecordingData Fault
recording_in unknown before members = do
  _ ← only recording_keys members
  origins ← origins_in unknown members
  after ← after_in before members
  channels ← setup_channels_in members
  Ok (record { origins = origins; after = after; channels = channels })

-- whether a document says nothing of a recording beside its tables
abbrev pub stands_alone : Members → Bool
stands_alone members =
    list_all (λ key. is_none (get_member key members))
    (codes "origin" ∷ codes "origins" ∷ codes "channel" ∷ [])

-- the recordings in a list of tables, one for each
abbrev pub recordings_of :
    (count : ℕ) → (unknown : Option ℕ) → Members → Data → Result (List RecordingData) Fault
recordings_of count unknown members found = do
  tables ← tables_of (codes "recording") found
  _ ← if length tables == count && stands_alone members then Ok tables
      else Err (value (codes "recording"))
  each_after (recording_in unknown) [] tables

-- ---- the document

-- what is said of the whole file
abbrev pub general_in : Members → Result GeneralData Fault
general_in members = do
  host ← text_or (codes "bpfrec") (codes "host") members
  program ← text_or (codes "bpfrec") (codes "program") members
  is_external ← truth_or false (codes "external") members
  attributes ← attributes_in members
  Ok (record {
    host = host;
    program = program;
    is_external = is_external;
    attributes = attributes;
  })

-- what is said of a file of so many recordings, by what `recording` has; a single recording needs
-- no table
abbrev pub file_by :
    (count : ℕ) → (unknown : Option ℕ) → Members → (recording : Option Data) → Result FileData Fault
file_by count unknown members None = do
  _ ← if count == 1 then Ok count else Err (missing (codes "recording"))
  origins ← origins_in unknown members
  general ← general_in members
  channels ← setup_channels_in members
  Ok (record {
    recordings = record { origins = origins; after = None; channels = channels } ∷ [];
    general = general;
  })
file_by count unknown members (Some found) = do
  recordings ← recordings_of count unknown members found
  general ← general_in members
  Ok (record { recordings = recordings; general = general })

-- whether a table, and a text, has tables of recordings
abbrev pub has_tables : Members → Bool
has_tables members = not (is_none (get_member (codes "recording") members))

abbrev pub says_tables : List ℕ → Bool
says_tables text = unwrap_or (option_map has_tables (parse_document text)) false

-- what is said in a table
abbrev pub file_in : (count : ℕ) → Members → Result FileData Fault
file_in count members = do
  _ ← only file_keys members
  unknown ← unknown_scale members
  file_by count unknown members (get_member (codes "recording") members)

-- what a text says of a file of so many recordings, or the text's first fault
abbrev pub setup_file : (count : ℕ) → List ℕ → Result FileData Fault
setup_file count text = unwrap_or (option_map (file_in count) (parse_document text)) (Err syntax)
