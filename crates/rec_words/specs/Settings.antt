-- What the settings of a recording are: by the table of a TOML document, or the first fault in it.
use Rattle.std.specs.Prelude.{ℕ, pos, Bool, ◌&&◌, ◌==◌, nat_le, if◌then◌else◌, List, [], ◌∷◌, ◌++◌}
use Rattle.std.specs.Prelude.{map, length, Option, None}
use Rattle.std.specs.Prelude.{Some, option_map, option_and_then, unwrap_or, Result, Ok, Err}
use Rattle.std.specs.Prelude.{bytes_eq, codes}
use Rattle.std.specs.List.{list_any}
use Rattle.toml.specs.Data.{Data, integer, string, array, Items, no_items, item, Members}
use Rattle.toml.specs.Data.{no_members, member, as_table, get_member}
use Rattle.toml.specs.Parse.{parse_document}
use Rattle.ch11_packet.specs.declared.limit.TheConstants.{MIN_LIMIT, MAX_LIMIT}
use Rattle.ch11_packet.specs.declared.frames.word.TheConstants.{MAX_SPEED}
use Rattle.rec_channel.specs.declared.limits.TheConstants.{MAX_CHANNELS, MAX_RING}

-- why settings are refused
pub data Fault : Type 0 where
  syntax : Fault
  unknown : List ℕ → Fault
  missing : List ℕ → Fault
  value : List ℕ → Fault
  channels : Fault
  same_channel : ℕ → Fault

-- what is set of a channel
pub record ChannelData : Type 0 where
  pub id : ℕ
  pub feed : List ℕ
  pub filter : List ℕ
  pub net : ℕ
  pub speed : ℕ
  pub max : ℕ
  pub span : ℕ

-- what is set of a recording
pub record SettingsData : Type 0 where
  pub limit : ℕ
  pub ring : ℕ
  pub version : ℕ
  pub channels : List ChannelData

-- and then
infixl 10 ◌>>=◌
abbrev pub ◌>>=◌ : {A B : Type 0} → Result A Fault → (A → Result B Fault) → Result B Fault
(Ok x) >>= f = f x
(Err fault) >>= f = Err fault

-- the keys beside the channels, and those of a channel
abbrev pub top_keys : List (List ℕ)
top_keys = codes "limit" ∷ codes "ring" ∷ codes "version" ∷ codes "channel" ∷ []

abbrev pub channel_keys : List (List ℕ)
channel_keys =
    codes "id" ∷ codes "feed" ∷ codes "filter" ∷ codes "net" ∷ codes "speed" ∷ codes "max" ∷
    codes "span" ∷ []

-- the keys of a table, which ascend by their bytes
abbrev pub keys_of : Members → List (List ℕ)
keys_of no_members = []
keys_of (member key found rest) = key ∷ keys_of rest

-- one of these keys
abbrev pub is_among : List (List ℕ) → List ℕ → Bool
is_among known key = list_any (λ one. bytes_eq one key) known

-- the first key that is none of these
abbrev pub other_key : List (List ℕ) → List (List ℕ) → Option (List ℕ)
other_key known [] = None
other_key known (key ∷ rest) = if is_among known key then other_key known rest else Some key

-- a table that has no other key
abbrev pub only : List (List ℕ) → Members → Result Members Fault
only known members =
    unwrap_or (option_map (λ key. Err (unknown key)) (other_key known (keys_of members)))
    (Ok members)

-- the greatest numbers of 8, of 16, of 48 and of 63 bits
abbrev pub most_of_8_bits : ℕ
most_of_8_bits = 255

abbrev pub most_of_16_bits : ℕ
most_of_16_bits = 65535

abbrev pub most_of_48_bits : ℕ
most_of_48_bits = 281474976710655

abbrev pub most_of_63_bits : ℕ
most_of_63_bits = 9223372036854775807

-- a whole number in a range
abbrev pub number_in : ℕ → ℕ → List ℕ → Data → Result ℕ Fault
number_in least most key (integer (pos n)) =
    if nat_le least n && nat_le n most then Ok n else Err (value key)
number_in least most key _ = Err (value key)

-- a text
abbrev pub text_in : List ℕ → Data → Result (List ℕ) Fault
text_in key (string text) = Ok text
text_in key _ = Err (value key)

-- what a key must have
abbrev pub required : {A : Type 0} → (Data → Result A Fault) → List ℕ → Members → Result A Fault
required read key members =
    unwrap_or (option_map read (get_member key members)) (Err (missing key))

-- the number of a key, or its default
abbrev pub number_or : ℕ → ℕ → ℕ → List ℕ → Members → Result ℕ Fault
number_or default least most key members =
    unwrap_or (option_map (number_in least most key) (get_member key members)) (Ok default)

-- the settings of a channel
abbrev pub channel_in : Members → Result ChannelData Fault
channel_in members = do
  _ ← only channel_keys members
  id ← required (number_in 1 most_of_16_bits (codes "id")) (codes "id") members
  feed ← required (text_in (codes "feed")) (codes "feed") members
  filter ← required (text_in (codes "filter")) (codes "filter") members
  net ← number_or 0 0 most_of_8_bits (codes "net") members
  speed ← number_or 0 0 MAX_SPEED (codes "speed") members
  max ← number_or most_of_63_bits 0 most_of_63_bits (codes "max") members
  span ← number_or 0 0 most_of_48_bits (codes "span") members
  Ok (record {
    id = id;
    feed = feed;
    filter = filter;
    net = net;
    speed = speed;
    max = max;
    span = span;
  })

-- items that are tables
abbrev pub tables_in : Items → Option (List Members)
tables_in no_items = Some []
tables_in (item found rest) =
    option_and_then (λ members. option_map (λ tables. members ∷ tables) (tables_in rest))
    (as_table found)

-- as many tables as a recording may have channels, and at least one
abbrev pub enough : List Members → Result (List Members) Fault
enough tables =
    if nat_le 1 (length tables)
    && nat_le (length tables) MAX_CHANNELS then Ok tables else Err channels

-- the tables of the channels
abbrev pub tables_of : Data → Result (List Members) Fault
tables_of (array items) =
    unwrap_or (option_map enough (tables_in items)) (Err (value (codes "channel")))
tables_of _ = Err (value (codes "channel"))

-- those of a document; it has some
abbrev pub channel_tables : Members → Result (List Members) Fault
channel_tables members =
    unwrap_or (option_map tables_of (get_member (codes "channel") members)) (Err channels)

-- the settings of the channels, in order
abbrev pub channels_in : List Members → Result (List ChannelData) Fault
channels_in [] = Ok []
channels_in (members ∷ rest) = do
  channel ← channel_in members
  others ← channels_in rest
  Ok (channel ∷ others)

-- the first ID that repeats an earlier one
abbrev pub repeated : List ℕ → List ℕ → Option ℕ
repeated earlier [] = None
repeated earlier (id ∷ rest) =
    if list_any (λ before. before == id) earlier then Some id else repeated (earlier ++ id
    ∷ []) rest

-- channels with an ID of their own
abbrev pub distinct : List ChannelData → Result (List ChannelData) Fault
distinct all =
    unwrap_or (option_map (λ id. Err (same_channel id)) (repeated [] (map (λ c. c.id) all)))
    (Ok all)

-- the settings in a table
abbrev pub settings_in : Members → Result SettingsData Fault
settings_in members = do
  _ ← only top_keys members
  limit ← number_or 65536 MIN_LIMIT MAX_LIMIT (codes "limit") members
  ring ← number_or 64 1 MAX_RING (codes "ring") members
  version ← number_or 8 0 most_of_8_bits (codes "version") members
  tables ← channel_tables members
  all ← channels_in tables
  all ← distinct all
  Ok (record { limit = limit; ring = ring; version = version; channels = all })

-- the settings that a text has, or their first fault
abbrev pub settings : List ℕ → Result SettingsData Fault
settings text = unwrap_or (option_map settings_in (parse_document text)) (Err syntax)
