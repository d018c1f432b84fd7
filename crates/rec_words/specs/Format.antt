-- The format of settings in its own words: its keys and what each may have, which settings a table
-- has, and in which order its faults are looked for.
use Rattle.std.specs.Prelude.{ℕ, pos, Bool, true, false, ◌≡◌, ◌≢◌, ◌≤◌, ◌⊎◌, List, [], ◌∷◌, ◌++◌}
use Rattle.std.specs.Prelude.{length, map, All, AllPairs, None, Some, codes}
use Rattle.std.specs.List.{Any, AllZip}
use Rattle.toml.specs.Data.{Data, integer, string, array, Items, Members, get_member}
use Rattle.toml.specs.Parse.{parse_document}
use Rattle.ch11_packet.specs.declared.limit.TheConstants.{MIN_LIMIT, MAX_LIMIT}
use Rattle.ch11_packet.specs.declared.frames.word.TheConstants.{MAX_SPEED}
use Rattle.rec_channel.specs.declared.limits.TheConstants.{MAX_CHANNELS, MAX_RING}
use Rattle.rec_words.specs.Settings.{Fault, syntax, unknown, missing, value, channels, same_channel}
use Rattle.rec_words.specs.Settings.{ChannelData, SettingsData, top_keys}
use Rattle.rec_words.specs.Settings.{channel_keys, keys_of, tables_in, most_of_8_bits}
use Rattle.rec_words.specs.Settings.{most_of_16_bits, most_of_48_bits, most_of_63_bits}

-- ---- keys

-- what a key may have: a whole number in a range, or a text
pub data KeyKind : Type 0 where
  of_number : (least most : ℕ) → KeyKind
  of_text : KeyKind

-- a key of a table, what it may have, and whether it must be set
pub record Key : Type 0 where
  pub name : List ℕ
  pub kind : KeyKind
  pub needed : Bool

-- the keys of the document beside its channels, in the order in which they are judged
abbrev pub document_format : List Key
document_format =
    record { name = codes "limit"; kind = of_number MIN_LIMIT MAX_LIMIT; needed = false }
    ∷ record { name = codes "ring"; kind = of_number 1 MAX_RING; needed = false }
    ∷ record { name = codes "version"; kind = of_number 0 most_of_8_bits; needed = false }
    ∷ []

-- those of a channel's table
abbrev pub channel_format : List Key
channel_format =
    record { name = codes "id"; kind = of_number 1 most_of_16_bits; needed = true }
    ∷ record { name = codes "feed"; kind = of_text; needed = true }
    ∷ record { name = codes "filter"; kind = of_text; needed = true }
    ∷ record { name = codes "net"; kind = of_number 0 most_of_8_bits; needed = false }
    ∷ record { name = codes "speed"; kind = of_number 0 MAX_SPEED; needed = false }
    ∷ record { name = codes "max"; kind = of_number 0 most_of_63_bits; needed = false }
    ∷ record { name = codes "span"; kind = of_number 0 most_of_48_bits; needed = false }
    ∷ []

-- what was found is of this kind
abbrev pub IsOfKind : KeyKind → Data → Type 0
IsOfKind (of_number least most) found =
    (n : ℕ) × (found ≡ integer (pos n)) × (least ≤ n) × (n ≤ most)
IsOfKind of_text found = (written : List ℕ) × (found ≡ string written)

-- the key is set to something of its kind, or isn't set and needn't be
abbrev pub IsWell : Members → Key → Type 0
IsWell members key =
    ((found : Data) × (get_member key.name members ≡ Some found) × IsOfKind key.kind found)
    ⊎ ((key.needed ≡ false) × (get_member key.name members ≡ None))

-- the key isn't set and must be, or is set to something of another kind; and what is reported then
abbrev pub IsWrong : Members → Key → Fault → Type 0
IsWrong members key fault =
    ((key.needed ≡ true) × (get_member key.name members ≡ None) × (fault ≡ missing key.name))
    ⊎ ((found : Data) × (get_member key.name members ≡ Some found)
    × (¬ IsOfKind key.kind found) × (fault ≡ value key.name))

-- the name is one of these
abbrev pub IsOneOfNames : List (List ℕ) → List ℕ → Type 0
IsOneOfNames known name = Any (λ one. one ≡ name) known

-- the table has no key but these
abbrev pub HasOnly : List (List ℕ) → Members → Type 0
HasOnly known members = All (IsOneOfNames known) (keys_of members)

-- the first of these names that is none of the known ones
pub record IsFirstOther (known names : List (List ℕ)) (name : List ℕ) : Type 0 where
  pub before : List (List ℕ)
  pub after : List (List ℕ)
  pub names_are : names ≡ before ++ name ∷ after
  pub known_before : All (IsOneOfNames known) before
  pub other : ¬ IsOneOfNames known name

-- the fault of the first of these keys that is wrong: those before it are well
pub record IsFirstWrong (members : Members) (keys : List Key) (fault : Fault) : Type 0 where
  pub before : List Key
  pub key : Key
  pub after : List Key
  pub keys_are : keys ≡ before ++ key ∷ after
  pub well : All (IsWell members) before
  pub wrong : IsWrong members key fault

-- the fault of a table: its first key that means nothing; if there is none, that of the first key
-- that is wrong
abbrev pub HasTableFault : List (List ℕ) → List Key → Members → Fault → Type 0
HasTableFault known keys members fault =
    ((name : List ℕ) × IsFirstOther known (keys_of members) name × (fault ≡ unknown name))
    ⊎ (HasOnly known members × IsFirstWrong members keys fault)

-- ---- what is set

-- the number that a key is set to, in its range; if it isn't set, the default
abbrev pub IsNumber : Members → (name : List ℕ) → (least most default n : ℕ) → Type 0
IsNumber members name least most default n =
    ((get_member name members ≡ Some (integer (pos n))) × (least ≤ n) × (n ≤ most))
    ⊎ ((get_member name members ≡ None) × (n ≡ default))

-- this is set of a channel in its table
pub record IsChannel (members : Members) (channel : ChannelData) : Type 0 where
  pub only : HasOnly channel_keys members
  pub id_is : get_member (codes "id") members ≡ Some (integer (pos channel.id))
  pub named : 1 ≤ channel.id
  pub id_fits : channel.id ≤ most_of_16_bits
  pub feed_is : get_member (codes "feed") members ≡ Some (string channel.feed)
  pub filter_is : get_member (codes "filter") members ≡ Some (string channel.filter)
  pub net_is : IsNumber members (codes "net") 0 most_of_8_bits 0 channel.net
  pub speed_is : IsNumber members (codes "speed") 0 MAX_SPEED 0 channel.speed
  pub max_is :
      IsNumber members (codes "max") 0 most_of_63_bits most_of_63_bits channel.max
  pub span_is : IsNumber members (codes "span") 0 most_of_48_bits 0 channel.span

-- the key `channel` is set to these tables
abbrev pub AreTables : Members → List Members → Type 0
AreTables members tables =
    (items : Items) × (get_member (codes "channel") members ≡ Some (array items))
    × (tables_in items ≡ Some tables)

-- the IDs of channels
abbrev pub ids_of : List ChannelData → List ℕ
ids_of all = map (λ (c : ChannelData). c.id) all

-- no two numbers are the same
abbrev pub AreDistinctIds : List ℕ → Type 0
AreDistinctIds ids = AllPairs (λ (one other : ℕ). one ≢ other) ids

-- this is set of a recording in the table of its document
pub record AreDocumentSettings (members : Members) (settings : SettingsData) : Type 0 where
  pub only : HasOnly top_keys members
  pub limit_is : IsNumber members (codes "limit") MIN_LIMIT MAX_LIMIT 65536 settings.limit
  pub ring_is : IsNumber members (codes "ring") 1 MAX_RING 64 settings.ring
  pub version_is : IsNumber members (codes "version") 0 most_of_8_bits 8 settings.version
  pub tables : List Members
  pub tables_are : AreTables members tables
  pub some : 1 ≤ length tables
  pub few : length tables ≤ MAX_CHANNELS
  pub channels_are : AllZip IsChannel tables settings.channels
  pub distinct : AreDistinctIds (ids_of settings.channels)

-- ---- faults

-- what is wrong with the key `channel`: it isn't set; or not to tables; or to none, or to more than
-- a recording may have
abbrev pub AreNoTables : Members → Fault → Type 0
AreNoTables members fault =
    ((get_member (codes "channel") members ≡ None) × (fault ≡ channels))
    ⊎ (((found : Data) × (get_member (codes "channel") members ≡ Some found)
    × ((tables : List Members) → ¬ AreTables members tables) × (fault ≡ value (codes "channel")))
    ⊎ ((tables : List Members) × AreTables members tables
    × (¬ ((1 ≤ length tables) × (length tables ≤ MAX_CHANNELS))) × (fault ≡ channels)))

-- the fault of the first table that has one: those before it are channels
pub record IsOfFirstTable (tables : List Members) (fault : Fault) : Type 0 where
  pub before : List Members
  pub members : Members
  pub after : List Members
  pub tables_are : tables ≡ before ++ members ∷ after
  pub well : All (λ (m : Members). (c : ChannelData) × IsChannel m c) before
  pub wrong : HasTableFault channel_keys channel_format members fault

-- the first of these IDs that repeats an earlier one
pub record IsFirstRepeated (ids : List ℕ) (id : ℕ) : Type 0 where
  pub before : List ℕ
  pub after : List ℕ
  pub ids_are : ids ≡ before ++ id ∷ after
  pub distinct : AreDistinctIds before
  pub repeats : Any (λ earlier. earlier ≡ id) before

-- all tables are channels, of which one repeats an ID
abbrev pub RepeatsId : List Members → Fault → Type 0
RepeatsId tables fault =
    (all : List ChannelData) × AllZip IsChannel tables all
    × (id : ℕ) × IsFirstRepeated (ids_of all) id × (fault ≡ same_channel id)

-- the fault of a document's table: of its own keys; or, where these are well, of `channel`; or,
-- where these are tables, of the first that is no channel; or else an ID that is repeated
abbrev pub IsDocumentFault : Members → Fault → Type 0
IsDocumentFault members fault =
    HasTableFault top_keys document_format members fault
    ⊎ (HasOnly top_keys members × All (IsWell members) document_format
    × (AreNoTables members fault
    ⊎ ((tables : List Members) × AreTables members tables
    × (1 ≤ length tables) × (length tables ≤ MAX_CHANNELS)
    × (IsOfFirstTable tables fault ⊎ RepeatsId tables fault))))

-- the text is a document, with this fault in its table; or it is none
abbrev pub IsFaultOfText : List ℕ → Fault → Type 0
IsFaultOfText text fault =
    ((parse_document text ≡ None) × (fault ≡ syntax))
    ⊎ ((members : Members) × (parse_document text ≡ Some members) × IsDocumentFault members fault)

-- the text is a document that sets this
abbrev pub AreSettingsOf : List ℕ → SettingsData → Type 0
AreSettingsOf text settings =
    (members : Members) × (parse_document text ≡ Some members)
    × AreDocumentSettings members settings
