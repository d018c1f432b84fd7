-- Loops over keys, values and channels; a fault through the steps that follow it.
use Rattle.std.proofs.Common.{ℕ, ◌≡◌, ◌<◌, ◌≤◌, ◌+◌, Bool, true, true≢false, suc, rules, ◌==◌, List, [], ◌∷◌, ◌++◌, map}
use Rattle.std.proofs.Common.{take, drop, length, get_or, refl, sym, ap, ◌∙◌, codes, Option, None, Some, option_map}
use Rattle.std.proofs.Common.{option_and_then, IsSome, if◌then◌else◌, Result, Ok, Err, String, Global, string_bytes}
use Rattle.std.proofs.lemmas.List.{append_assoc, append-nil, drop_all, drop_more, take_more, map-append}
use Rattle.std.proofs.lemmas.Option.{none-some, cond_some}
use Rattle.std.specs.Prelude.{unwrap_or}
use Rattle.std.specs.List.{list_any}
use Rattle.std.specs.Map.{keys_of as map_keys}
use Rattle.toml.specs.Data.{Data, string, integer, float, boolean, datetime, array, table as table_data, Items, Members, as_array, as_table, get_member}
use Rattle.toml.specs.View.{view, members_view, items_view}
use Rattle.toml.specs.declared.value.Value.{Value}
use Rattle.toml.proofs.Views.{items_view-drop}
use Rattle.rec_channel.specs.declared.limits.TheConstants.{MAX_CHANNELS}
use Rattle.rec_words.specs.declared.keys.fault.KeyFault.{KeyFault}
use Rattle.rec_words.specs.declared.keys.fault.KeyFault.TheVariants.{Unknown as KeyUnknown, Missing as KeyMissing, Value as KeyValue, Memory as KeyMemory}
use Rattle.rec_words.specs.declared.settings.ChannelSettings.{ChannelSettings}
use Rattle.rec_words.specs.Settings.{Fault, unknown, missing, value, channels, same_channel, ChannelData, ◌>>=◌, keys_of}
use Rattle.rec_words.specs.SetupFile.{tables_of as list_tables}
use Rattle.rec_words.specs.Settings.{tables_of as channel_list, tables_in, channel_tables, enough, channel_in, channels_in, repeated, distinct}
use Rattle.rec_words.specs.KeyViews.{KeyReports}
use Rattle.rec_words.specs.SettingsViews.{channel_data}

-- the keys of a map's entries, as members
pub keys_of_entries : (es : List (String Global × Value)) → keys_of (members_view es) ≡ map string_bytes (map_keys es)
keys_of_entries [] = refl
keys_of_entries (e ∷ es) = ap (λ ks. string_bytes e.0 ∷ ks) (keys_of_entries es)

-- a test of mapped elements, and of the elements
pub any_of_map : {A B : Type 0} (p : B → Bool) (f : A → B) (xs : List A) → list_any p (map f xs) ≡ list_any (λ x. p (f x)) xs
any_of_map p f [] = refl
any_of_map p f (x ∷ xs) = rw (any_of_map p f xs)

-- a fault of one reading is that of another, which goes on from it
pub reports_like : {A B : Type 0} (r : Result A Fault) (s : Result B Fault) → ((f : Fault) → r ≡ Err f → s ≡ Err f) → (fault : KeyFault)
    → KeyReports r fault → KeyReports s fault
reports_like r s same (KeyUnknown key) e = same (unknown (string_bytes key)) e
reports_like r s same (KeyMissing key) e = same (missing key.now) e
reports_like r s same (KeyValue key) e = same (value key.now) e
reports_like r s same KeyMemory e = tt

-- the IDs of channels
abbrev pub ids : List ChannelSettings → List ℕ
ids cs = map (λ c. c.id) cs

-- the next ID, which repeats an earlier one or doesn't
pub repeated_here : (cs : List ChannelSettings) (k : ℕ) (d : ChannelSettings) → k < length cs
    → repeated (ids (take k cs)) (ids (drop k cs))
    ≡ (if list_any (λ before. before == (get_or cs k d).id) (ids (take k cs)) then Some (get_or cs k d).id else repeated (ids (take (k + 1) cs))
    (ids (drop (k + 1) cs)))
repeated_here cs k d h = rw (drop_more cs k d h, take_more cs k d h, map-append (λ (c : ChannelSettings). c.id) (take k cs) (get_or cs k d ∷ []))

-- the tables of values, by the first value
pub tables_here : (found : Option Members) (others : Option (List Members)) (tables : List Members)
    → option_and_then (λ m. option_map (λ rest. m ∷ rest) others) found ≡ Some tables
    → (table : Members) × (rest : List Members) × (found ≡ Some table) × (others ≡ Some rest) × (tables ≡ table ∷ rest)
tables_here None others tables h = absurd (none-some tables h)
tables_here (Some table) None tables h = absurd (none-some tables h)
tables_here (Some table) (Some rest) tables h = (table, rest, refl, refl, sym (cond_some true (table ∷ rest) tables h).1)

-- channels, and those that follow them
abbrev pub followed : List ChannelData → Result (List ChannelData) Fault → Result (List ChannelData) Fault
followed before found = found >>= (λ others. Ok (before ++ others))

pub followed_none : (found : Result (List ChannelData) Fault) → followed [] found ≡ found
followed_none (Ok others) = refl
followed_none (Err fault) = refl

-- one more channel, and those that follow it
pub followed_more : (before : List ChannelData) (channel : ChannelData) (found : Result (List ChannelData) Fault)
    → followed before (found >>= (λ others. Ok (channel ∷ others))) ≡ followed (before ++ channel ∷ []) found
followed_more before channel (Err fault) = refl
followed_more before channel (Ok others) = ap Ok (sym (append_assoc before (channel ∷ []) others))

-- these values are tables, and give the channels of the tables after those before
abbrev pub IsAhead : List Members → List ChannelData → List Value → Type 0
IsAhead tables before values =
    (rest : List Members) × (tables_in (items_view values) ≡ Some rest)
    × (channels_in tables ≡ followed before (channels_in rest))

-- the next value is a table
pub table_here : (values : List Value) (k : ℕ) (v : Value) (rest : List Members) → k < length values → v ≡ get_or values k v
    → tables_in (items_view (drop k values)) ≡ Some rest
    → (table : Members) × (others : List Members) × (as_table (view v) ≡ Some table)
    × (tables_in (items_view (drop (k + 1) values)) ≡ Some others) × (rest ≡ table ∷ others)
table_here values k v rest h same e =
    let here = tables_here (as_table (view (get_or values k v))) (tables_in (items_view (drop (k + 1) values))) rest
    (rw (items_view-drop values k v h) at e) in
    (here.0, here.1, ap (λ x. as_table (view x)) same ∙ here.2, here.3, here.4)

pub ahead_here : (tables : List Members) (before : List ChannelData) (values : List Value) (k : ℕ) (v : Value) (table : Members)
    → k < length values → v ≡ get_or values k v → Some table ≡ as_table (view v) → IsAhead tables before (drop k values)
    → (others : List Members) × (tables_in (items_view (drop (k + 1) values)) ≡ Some others)
    × (channels_in tables ≡ followed before (channels_in (table ∷ others)))
ahead_here tables before values k v table h same is ahead =
    let here = table_here values k v ahead.0 h same ahead.1 in
    let first : table ≡ here.0 = (cond_some true table here.0 (is ∙ here.2)).1 in
    (here.1, here.3, ahead.2 ∙ ap (λ ts. followed before (channels_in ts)) (here.4 ∙ ap (λ t. t ∷ here.1) (sym first)))

-- one more channel
pub ahead_more : (tables : List Members) (before : List ChannelData) (values : List Value) (k : ℕ) (v : Value) (table : Members) (channel : ChannelData)
    → k < length values → v ≡ get_or values k v → Some table ≡ as_table (view v) → channel_in table ≡ Ok channel
    → IsAhead tables before (drop k values) → IsAhead tables (before ++ channel ∷ []) (drop (k + 1) values)
ahead_more tables before values k v table channel h same is e ahead =
    let here = ahead_here tables before values k v table h same is ahead in (
      here.0,
      here.1,
      here.2 ∙ (ap (λ r. followed before (r >>= (λ c. channels_in here.0 >>= (λ others. Ok (c ∷ others))))) e
          ∙ followed_more before channel (channels_in here.0)),
    )

-- a fault of the next channel
pub ahead_fault : (tables : List Members) (before : List ChannelData) (values : List Value) (k : ℕ) (v : Value) (table : Members) (fault : Fault)
    → k < length values → v ≡ get_or values k v → Some table ≡ as_table (view v) → IsAhead tables before (drop k values)
    → channel_in table ≡ Err fault → channels_in tables ≡ Err fault
ahead_fault tables before values k v table fault h same is ahead e =
    let here = ahead_here tables before values k v table h same is ahead in
    here.2 ∙ ap (λ r. followed before (r >>= (λ c. channels_in here.0 >>= (λ others. Ok (c ∷ others))))) e

-- all values were read
pub ahead_end : (tables : List Members) (before : List ChannelData) (values : List Value) (k : ℕ) → length values ≤ k
    → IsAhead tables before (drop k values) → channels_in tables ≡ Ok before
ahead_end tables before values k h ahead =
    let none : [] ≡ ahead.0 = (cond_some true [] ahead.0 (rw (drop_all k values h) at ahead.1)).1 in
    ahead.2 ∙ (ap (λ rest. followed before (channels_in rest)) (sym none) ∙ ap Ok (append-nil before))

-- a list of values, as a document has it
pub array_of : (d : Data) (items : Items) → as_array d ≡ Some items → d ≡ array items
array_of (array ds) items h = ap array (cond_some true ds items h).1
array_of (string s) items h = absurd (none-some items h)
array_of (integer n) items h = absurd (none-some items h)
array_of (float f) items h = absurd (none-some items h)
array_of (boolean b) items h = absurd (none-some items h)
array_of (datetime t) items h = absurd (none-some items h)
array_of (table_data ms) items h = absurd (none-some items h)

-- there are as many tables as values
pub tables_length : (values : List Value) (tables : List Members) → tables_in (items_view values) ≡ Some tables → length tables ≡ length values
tables_length [] tables h = ap length (sym (cond_some true [] tables h).1)
tables_length (v ∷ values) tables h =
    let here = tables_here (as_table (view v)) (tables_in (items_view values)) tables h in
    ap length here.4 ∙ ap suc (tables_length values here.1 here.3)

-- the tables of a document that has a list of tables
list_of_tables : (found : Option (List Members)) (tables : List Members)
    → unwrap_or (option_map (λ ts. Ok ts) found) (Err (value (codes "channel"))) ≡ Ok tables
    → unwrap_or (option_map enough found) (Err (value (codes "channel"))) ≡ enough tables
list_of_tables None tables e = absurd (err_ok e)
  where
    err_ok : {f : Fault} → Err f ≡ Ok tables → ⊥
    err_ok e = cc
list_of_tables (Some found) tables e = ap (λ r. enough (given r)) e
  where
    given : Result (List Members) Fault → List Members
    given (Ok ts) = ts
    given (Err f) = []

of_tables : (d : Data) (tables : List Members) → list_tables (codes "channel") d ≡ Ok tables → channel_list d ≡ enough tables
of_tables (array items) tables e = list_of_tables (tables_in items) tables e
of_tables (string t) tables e = cc
of_tables (integer n) tables e = cc
of_tables (float f) tables e = cc
of_tables (boolean b) tables e = cc
of_tables (datetime t) tables e = cc
of_tables (table_data ms) tables e = cc

pub channel_tables_of : (ms : Members) (d : Data) (tables : List Members) → Some d ≡ get_member (codes "channel") ms
    → list_tables (codes "channel") d ≡ Ok tables → channel_tables ms ≡ enough tables
channel_tables_of ms d tables there listed = ap (λ found. unwrap_or (option_map channel_list found) (Err channels)) (sym there) ∙ of_tables d tables listed

pub some_tables : (found : Option (List Members)) → IsSome found → (tables : List Members) × (found ≡ Some tables)
some_tables (Some tables) h = (tables, refl)
some_tables None h = absurd (true≢false (sym h))

-- as many tables as a recording may have channels
pub enough_tables : (tables : List Members) (n : ℕ) → length tables ≡ n → 0 < n → n ≤ MAX_CHANNELS → enough tables ≡ Ok tables
enough_tables tables n e least most = rw e (search rules)

-- none, or more
pub no_tables : (tables : List Members) (n : ℕ) → length tables ≡ n → n ≡ 0 → enough tables ≡ Err channels
no_tables tables n e none = rw (e, none)

pub too_many_tables : (tables : List Members) (n : ℕ) → length tables ≡ n → MAX_CHANNELS < n → enough tables ≡ Err channels
too_many_tables tables n e many = rw e (search rules)

-- the IDs of channels, as data
pub ids_of_data : (cs : List ChannelSettings) → map (λ (c : ChannelData). c.id) (map channel_data cs) ≡ ids cs
ids_of_data [] = refl
ids_of_data (c ∷ cs) = ap (λ rest. c.id ∷ rest) (ids_of_data cs)

pub distinct_fault : (cs : List ChannelSettings) (id : ℕ) → repeated [] (ids cs) ≡ Some id → distinct (map channel_data cs) ≡ Err (same_channel id)
distinct_fault cs id e = rw (ids_of_data cs, e)

pub distinct_ok : (cs : List ChannelSettings) → repeated [] (ids cs) ≡ None → distinct (map channel_data cs) ≡ Ok (map channel_data cs)
distinct_ok cs e = rw (ids_of_data cs, e)
