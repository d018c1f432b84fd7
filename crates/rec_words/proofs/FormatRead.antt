-- The settings that are read are those of the format, and so are the faults.
-- idea: the reader goes from key to key and ends at the first fault, so with each key the keys before it are right; the
-- format says exactly this of the first key that is wrong, and of settings where none is.
use Rattle.std.proofs.Common.{ℕ, suc, ◌≡◌, ◌≢◌, ◌≤◌, inl, inr, Bool, true, false, true≢false, ◌==◌, List, [], ◌∷◌, ◌++◌, length, All}
use Rattle.std.proofs.Common.{Option, None, Some, Result, Ok, Err, MatchResult, refl, sym, ap, subst, ◌∙◌, arith, codes, eq-eqb}
use Rattle.std.specs.Prelude.{nat_le, ◌&&◌, ◌↔◌, if◌then◌else◌, option_map, unwrap_or}
use Rattle.std.specs.List.{AllZip, list_any}
use Rattle.std.proofs.lemmas.Bool.{le-leb, leb-true, and_from, and_parts, eqb-true, ne_eqb}
use Rattle.std.proofs.lemmas.List.{append-nil, append_assoc}
use Rattle.std.proofs.lemmas.List.Elements.{All-nil, All-cons, All-head, All-tail, All-push}
use Rattle.std.proofs.lemmas.List.Folds.{Any-from_list_any, list_any_at, list_any_none}
use Rattle.std.proofs.lemmas.List.Kept.{AllPairs-cons}
use Rattle.std.proofs.lemmas.Option.{none-some}
use Rattle.toml.specs.Data.{Data, string, integer, float, boolean, datetime, array, table as table_data, Items, no_items, Members, get_member}
use Rattle.toml.specs.Parse.{parse_document}
use Rattle.ch11_packet.specs.declared.limit.TheConstants.{MIN_LIMIT, MAX_LIMIT}
use Rattle.ch11_packet.specs.declared.frames.word.TheConstants.{MAX_SPEED}
use Rattle.rec_channel.specs.declared.limits.TheConstants.{MAX_CHANNELS, MAX_RING}
use Rattle.rec_words.specs.Settings.{Fault, syntax, value, channels, same_channel, ChannelData, SettingsData, top_keys, channel_keys, only}
use Rattle.rec_words.specs.Settings.{number_in, text_in, required, number_or, channel_in, tables_in, enough, tables_of, channel_tables, channels_in}
use Rattle.rec_words.specs.Settings.{repeated, distinct, settings_in, settings, most_of_8_bits, most_of_16_bits, most_of_48_bits, most_of_63_bits}
use Rattle.rec_words.specs.Format.{Key, of_number, of_text, document_format, channel_format, IsWell, IsWrong, HasOnly, HasTableFault}
use Rattle.rec_words.specs.Format.{IsChannel, AreTables, ids_of, AreDistinctIds, AreDocumentSettings, AreNoTables, IsOfFirstTable}
use Rattle.rec_words.specs.Format.{IsFirstRepeated, RepeatsId, IsDocumentFault, IsFaultOfText, AreSettingsOf}
use Rattle.rec_words.proofs.KeysRead.{then_says, then_ok, only_says, only_ok, number_required, text_required, number_or_says}
use Rattle.rec_words.proofs.KeysRead.{number_required_ok, text_required_ok, number_or_ok, well_number, well_text, well_or}

-- ---- one channel

abbrev id_key : Key
id_key = record { name = codes "id"; kind = of_number 1 most_of_16_bits; needed = true }

abbrev feed_key : Key
feed_key = record { name = codes "feed"; kind = of_text; needed = true }

abbrev filter_key : Key
filter_key = record { name = codes "filter"; kind = of_text; needed = true }

abbrev net_key : Key
net_key = record { name = codes "net"; kind = of_number 0 most_of_8_bits; needed = false }

abbrev speed_key : Key
speed_key = record { name = codes "speed"; kind = of_number 0 MAX_SPEED; needed = false }

abbrev max_key : Key
max_key = record { name = codes "max"; kind = of_number 0 most_of_63_bits; needed = false }

abbrev span_key : Key
span_key = record { name = codes "span"; kind = of_number 0 most_of_48_bits; needed = false }

-- a key that is wrong, after others that are well
wrong_at : (known : List (List ℕ)) (keys : List Key) (m : Members) (before : List Key) (key : Key) (after : List Key) (fault : Fault) → HasOnly known m
    → keys ≡ before ++ key ∷ after → All (IsWell m) before → IsWrong m key fault
    → HasTableFault known keys m fault
wrong_at known keys m before key after fault has are well wrong =
    inr (has, record { before = before; key = key; after = after; keys_are = are; well = well; wrong = wrong })

channel_says : (m : Members) → MatchResult (channel_in m) (IsChannel m) (HasTableFault channel_keys channel_format m)
channel_says m =
    let wrong = wrong_at channel_keys channel_format m in
    then_says (IsChannel m) (only channel_keys m) _ (only_says channel_keys m) (λ ms has.
    then_says (IsChannel m) (required (number_in 1 most_of_16_bits (codes "id")) (codes "id") m) _ (number_required 1 most_of_16_bits (codes "id") m) (λ id i.
    let one = All-cons (IsWell m) id_key [] (well_number 1 most_of_16_bits id (codes "id") true m i.0 i.1 i.2) (All-nil (IsWell m)) in
    then_says (IsChannel m) (required (text_in (codes "feed")) (codes "feed") m) _ (text_required (codes "feed") m) (λ feed d.
    let two = All-push (IsWell m) (id_key ∷ []) feed_key one (well_text (codes "feed") feed true m d.0 d.1 d.2) in
    then_says (IsChannel m) (required (text_in (codes "filter")) (codes "filter") m) _ (text_required (codes "filter") m) (λ filter l.
    let three = All-push (IsWell m) (id_key ∷ feed_key ∷ []) filter_key two (well_text (codes "filter") filter true m l.0 l.1 l.2) in
    then_says (IsChannel m) (number_or 0 0 most_of_8_bits (codes "net") m) _ (number_or_says 0 0 most_of_8_bits (codes "net") m) (λ net n.
    let four = All-push (IsWell m) (id_key ∷ feed_key ∷ filter_key ∷ []) net_key three (well_or 0 0 most_of_8_bits net (codes "net") m n) in
    then_says (IsChannel m) (number_or 0 0 MAX_SPEED (codes "speed") m) _ (number_or_says 0 0 MAX_SPEED (codes "speed") m) (λ speed s.
    let five = All-push (IsWell m) (id_key ∷ feed_key ∷ filter_key ∷ net_key ∷ []) speed_key four (well_or 0 0 MAX_SPEED speed (codes "speed") m s) in
    then_says (IsChannel m) (number_or most_of_63_bits 0 most_of_63_bits (codes "max") m) _ (number_or_says most_of_63_bits 0 most_of_63_bits (codes "max") m)
    (λ max x.
    let six = All-push (IsWell m) (id_key ∷ feed_key ∷ filter_key ∷ net_key ∷ speed_key ∷ []) max_key five
    (well_or most_of_63_bits 0 most_of_63_bits max (codes "max") m x) in
    then_says (IsChannel m) (number_or 0 0 most_of_48_bits (codes "span") m) _ (number_or_says 0 0 most_of_48_bits (codes "span") m) (λ span a.
    record {
      only = has;
      id_is = i.1 ∙ ap (λ y. Some y) i.2.0;
      named = i.2.1;
      id_fits = i.2.2;
      feed_is = d.1 ∙ ap (λ y. Some y) d.2;
      filter_is = l.1 ∙ ap (λ y. Some y) l.2;
      net_is = n;
      speed_is = s;
      max_is = x;
      span_is = a;
    })
    (λ f bad. wrong (id_key ∷ feed_key ∷ filter_key ∷ net_key ∷ speed_key ∷ max_key ∷ []) span_key [] f has refl six bad))
    (λ f bad. wrong (id_key ∷ feed_key ∷ filter_key ∷ net_key ∷ speed_key ∷ []) max_key (span_key ∷ []) f has refl five bad))
    (λ f bad. wrong (id_key ∷ feed_key ∷ filter_key ∷ net_key ∷ []) speed_key (max_key ∷ span_key ∷ []) f has refl four bad))
    (λ f bad. wrong (id_key ∷ feed_key ∷ filter_key ∷ []) net_key (speed_key ∷ max_key ∷ span_key ∷ []) f has refl three bad))
    (λ f bad. wrong (id_key ∷ feed_key ∷ []) filter_key (net_key ∷ speed_key ∷ max_key ∷ span_key ∷ []) f has refl two bad))
    (λ f bad. wrong (id_key ∷ []) feed_key (filter_key ∷ net_key ∷ speed_key ∷ max_key ∷ span_key ∷ []) f has refl one bad))
    (λ f bad. wrong [] id_key (feed_key ∷ filter_key ∷ net_key ∷ speed_key ∷ max_key ∷ span_key ∷ []) f has refl (All-nil (IsWell m)) bad))
    (λ f bad. inl bad)

channel_ok : (m : Members) (c : ChannelData) → IsChannel m c → channel_in m ≡ Ok c
channel_ok m c is =
    then_ok (only channel_keys m) m _ _ (only_ok channel_keys m is.only)
    (then_ok (required (number_in 1 most_of_16_bits (codes "id")) (codes "id") m) c.id _ _
    (number_required_ok 1 most_of_16_bits c.id (codes "id") m is.id_is is.named is.id_fits)
    (then_ok (required (text_in (codes "feed")) (codes "feed") m) c.feed _ _ (text_required_ok (codes "feed") c.feed m is.feed_is)
    (then_ok (required (text_in (codes "filter")) (codes "filter") m) c.filter _ _ (text_required_ok (codes "filter") c.filter m is.filter_is)
    (then_ok (number_or 0 0 most_of_8_bits (codes "net") m) c.net _ _ (number_or_ok 0 0 most_of_8_bits c.net (codes "net") m is.net_is)
    (then_ok (number_or 0 0 MAX_SPEED (codes "speed") m) c.speed _ _ (number_or_ok 0 0 MAX_SPEED c.speed (codes "speed") m is.speed_is)
    (then_ok (number_or most_of_63_bits 0 most_of_63_bits (codes "max") m) c.max _ _
    (number_or_ok most_of_63_bits 0 most_of_63_bits c.max (codes "max") m is.max_is)
    (then_ok (number_or 0 0 most_of_48_bits (codes "span") m) c.span _ _ (number_or_ok 0 0 most_of_48_bits c.span (codes "span") m is.span_is)
    refl)))))))

-- ---- all channels

abbrev SomeChannel : Members → Type 0
SomeChannel m = (c : ChannelData) × IsChannel m c

channels_say : (tables : List Members) → MatchResult (channels_in tables) (AllZip IsChannel tables) (IsOfFirstTable tables)
channels_say [] = tt
channels_say (m ∷ rest) =
    then_says (AllZip IsChannel (m ∷ rest)) (channel_in m) _ (channel_says m) (λ c is.
    then_says (AllZip IsChannel (m ∷ rest)) (channels_in rest) _ (channels_say rest) (λ cs all. (is, all))
    (λ f bad. record {
      before = m ∷ bad.before;
      members = bad.members;
      after = bad.after;
      tables_are = ap (λ ts. m ∷ ts) bad.tables_are;
      well = All-cons SomeChannel m bad.before (c, is) bad.well;
      wrong = bad.wrong;
    }))
    (λ f bad. record { before = []; members = m; after = rest; tables_are = refl; well = All-nil SomeChannel; wrong = bad })

channels_ok : (tables : List Members) (all : List ChannelData) → AllZip IsChannel tables all → channels_in tables ≡ Ok all
channels_ok [] [] zip = refl
channels_ok [] (c ∷ cs) zip = absurd zip
channels_ok (m ∷ ms) [] zip = absurd zip
channels_ok (m ∷ ms) (c ∷ cs) zip = then_ok (channel_in m) c _ _ (channel_ok m c zip.0) (then_ok (channels_in ms) cs _ _ (channels_ok ms cs zip.1) refl)

-- ---- the tables

abbrev listed : Option Data → Items
listed (Some (array items)) = items
listed _ = no_items

enough_by : (m : Members) (tables : List Members) (is : Bool) → (nat_le 1 (length tables) && nat_le (length tables) MAX_CHANNELS) ≡ is → AreTables m tables
    → MatchResult (if is then Ok tables else Err channels) (λ ts. AreTables m ts × (1 ≤ length ts) × (length ts ≤ MAX_CHANNELS)) (AreNoTables m)
enough_by m tables true e are =
    let parts = and_parts (nat_le 1 (length tables)) (nat_le (length tables) MAX_CHANNELS) e in
    (are, leb-true 1 (length tables) parts.0, leb-true (length tables) MAX_CHANNELS parts.1)
enough_by m tables false e are = inr (inr (
  tables,
  are,
  λ (low, high). true≢false (sym (and_from (nat_le 1 (length tables)) (nat_le (length tables) MAX_CHANNELS) (le-leb 1 (length tables) low)
      (le-leb (length tables) MAX_CHANNELS high)) ∙ e),
  refl,
))

items_by : (m : Members) (items : Items) (found : Option (List Members)) → get_member (codes "channel") m ≡ Some (array items) → tables_in items ≡ found
    → MatchResult (unwrap_or (option_map enough found) (Err (value (codes "channel")))) (λ ts. AreTables m ts × (1 ≤ length ts) × (length ts ≤ MAX_CHANNELS))
    (AreNoTables m)
items_by m items None is none = inr (inl (
  array items,
  is,
  λ tables (others, same, tables_are).
      let one : items ≡ others = ap listed (sym is ∙ same) in
      none-some tables (sym none ∙ ap tables_in one ∙ tables_are),
  refl,
))
items_by m items (Some tables) is are = enough_by m tables (nat_le 1 (length tables) && nat_le (length tables) MAX_CHANNELS) refl (items, is, are)

-- something else than a list has no tables
no_list : (m : Members) (d : Data) → get_member (codes "channel") m ≡ Some d → ((items : Items) → d ≡ array items → ⊥) → AreNoTables m (value (codes "channel"))
no_list m d is isnt = inr (inl (d, is, λ tables (items, same, are). isnt items (some_of (sym is ∙ same)), refl))
  where
    some_of : {X : Type 0} {x y : X} → Some x ≡ Some y → x ≡ y
    some_of e = cc

tables_by : (m : Members) (found : Option Data) → get_member (codes "channel") m ≡ found
    → MatchResult (unwrap_or (option_map tables_of found) (Err channels)) (λ ts. AreTables m ts × (1 ≤ length ts) × (length ts ≤ MAX_CHANNELS)) (AreNoTables m)
tables_by m None is = inl (is, refl)
tables_by m (Some (array items)) is = items_by m items (tables_in items) is refl
tables_by m (Some (string t)) is = no_list m (string t) is (λ items e. cc)
tables_by m (Some (integer n)) is = no_list m (integer n) is (λ items e. cc)
tables_by m (Some (float f)) is = no_list m (float f) is (λ items e. cc)
tables_by m (Some (boolean b)) is = no_list m (boolean b) is (λ items e. cc)
tables_by m (Some (datetime t)) is = no_list m (datetime t) is (λ items e. cc)
tables_by m (Some (table_data ms)) is = no_list m (table_data ms) is (λ items e. cc)

tables_say : (m : Members) → MatchResult (channel_tables m) (λ ts. AreTables m ts × (1 ≤ length ts) × (length ts ≤ MAX_CHANNELS)) (AreNoTables m)
tables_say m = tables_by m (get_member (codes "channel") m) refl

tables_ok : (m : Members) (tables : List Members) → AreTables m tables → 1 ≤ length tables → length tables ≤ MAX_CHANNELS → channel_tables m ≡ Ok tables
tables_ok m tables are some few =
    ap (λ found. unwrap_or (option_map tables_of found) (Err channels)) are.1
    ∙ ap (λ found. unwrap_or (option_map enough found) (Err (value (codes "channel")))) are.2
    ∙ ap (λ b. if b then Ok tables else Err channels) (and_from (nat_le 1 (length tables)) (nat_le (length tables) MAX_CHANNELS)
    (le-leb 1 (length tables) some) (le-leb (length tables) MAX_CHANNELS few))

-- ---- IDs

heads : (x : ℕ) (xs : List ℕ) → AreDistinctIds (x ∷ xs) → All (λ y. x ≢ y) xs
heads x xs d = λ k e within. d 0 (suc k) e (omega arith) (omega (arith, within))

tails : (x : ℕ) (xs : List ℕ) → AreDistinctIds (x ∷ xs) → AreDistinctIds xs
tails x xs d = λ i j e before within. d (suc i) (suc j) e (omega (arith, before)) (omega (arith, within))

pub distinct_push : (xs : List ℕ) (id : ℕ) → AreDistinctIds xs → All (λ x. x ≢ id) xs → AreDistinctIds (xs ++ id ∷ [])
distinct_push [] id d all = λ i j e before within. absurd (omega (arith, before, within))
distinct_push (x ∷ xs) id d all =
    AllPairs-cons (λ (a b : ℕ). a ≢ b) x (xs ++ id ∷ []) (All-push (λ y. x ≢ y) xs id (heads x xs d) (All-head (λ y. y ≢ id) x xs all))
    (distinct_push xs id (tails x xs d) (All-tail (λ y. y ≢ id) x xs all))

in_middle : {X : Type 0} (P : X → Type 0) (xs : List X) (y : X) (ys : List X) → All P (xs ++ y ∷ ys) → P y
in_middle P [] y ys all = All-head P y ys all
in_middle P (x ∷ xs) y ys all = in_middle P xs y ys (All-tail P x (xs ++ y ∷ ys) all)

distinct_before : (xs : List ℕ) (id : ℕ) (ys : List ℕ) → AreDistinctIds (xs ++ id ∷ ys) → All (λ x. x ≢ id) xs
distinct_before [] id ys d = All-nil (λ x. x ≢ id)
distinct_before (x ∷ xs) id ys d = All-cons (λ y. y ≢ id) x xs (in_middle (λ y. x ≢ y) xs id ys (heads x (xs ++ id ∷ ys) d))
    (distinct_before xs id ys (tails x (xs ++ id ∷ ys) d))

-- the first repeated ID, if there is one
abbrev RepeatedSays : List ℕ → Option ℕ → Type 0
RepeatedSays ids None = AreDistinctIds ids
RepeatedSays ids (Some id) = IsFirstRepeated ids id

-- the next ID repeats an earlier one; or it doesn't, and then the others say
repeated_by : (earlier : List ℕ) (id : ℕ) (rest : List ℕ) (is : Bool) → list_any (λ before. before == id) earlier ≡ is → AreDistinctIds earlier
    → (AreDistinctIds (earlier ++ id ∷ []) → RepeatedSays ((earlier ++ id ∷ []) ++ rest) (repeated (earlier ++ id ∷ []) rest))
    → RepeatedSays (earlier ++ id ∷ rest) (if is then Some id else repeated (earlier ++ id ∷ []) rest)
repeated_by earlier id rest true e d later =
    let any = Any-from_list_any (λ before. before == id) earlier e in
    record { before = earlier; after = rest; ids_are = refl; distinct = d; repeats = (any.0, any.1, any.2, any.3, eqb-true any.1 id any.4) }
repeated_by earlier id rest false e d later =
    let new : All (λ x. x ≢ id) earlier = λ k x within same. true≢false (sym (list_any_at (λ before. before == id) earlier k x within (eq-eqb _ id same))
    ∙ e) in
    subst (λ ids. RepeatedSays ids (repeated (earlier ++ id ∷ []) rest)) (append_assoc earlier (id ∷ []) rest) (later (distinct_push earlier id d new))

repeated_say : (earlier rest : List ℕ) → AreDistinctIds earlier → RepeatedSays (earlier ++ rest) (repeated earlier rest)
repeated_say earlier [] d = subst AreDistinctIds (sym (append-nil earlier)) d
repeated_say earlier (id ∷ rest) d = repeated_by earlier id rest (list_any (λ before. before == id) earlier) refl d (repeated_say (earlier ++ id ∷ []) rest)

repeated_none : (earlier rest : List ℕ) → AreDistinctIds (earlier ++ rest) → repeated earlier rest ≡ None
repeated_none earlier [] d = refl
repeated_none earlier (id ∷ rest) d =
    ap (λ b. if b then Some id else repeated (earlier ++ id ∷ []) rest)
    (list_any_none (λ before. before == id) earlier (λ k x within. ne_eqb _ id (distinct_before earlier id rest d k x within)))
    ∙ repeated_none (earlier ++ id ∷ []) rest (subst AreDistinctIds (sym (append_assoc earlier (id ∷ []) rest)) d)

distinct_by : (tables : List Members) (all : List ChannelData) (found : Option ℕ) → AllZip IsChannel tables all → RepeatedSays (ids_of all) found
    → MatchResult (unwrap_or (option_map (λ id. Err (same_channel id)) found) (Ok all)) (λ a. (a ≡ all) × AreDistinctIds (ids_of all)) (RepeatsId tables)
distinct_by tables all None zip says = (refl, says)
distinct_by tables all (Some id) zip says = (all, zip, id, says, refl)

distinct_says : (tables : List Members) (all : List ChannelData) → AllZip IsChannel tables all
    → MatchResult (distinct all) (λ a. (a ≡ all) × AreDistinctIds (ids_of all)) (RepeatsId tables)
distinct_says tables all zip = distinct_by tables all (repeated [] (ids_of all)) zip
    (repeated_say [] (ids_of all) (λ i j e before within. absurd (omega (arith, within))))

distinct_all : (all : List ChannelData) → AreDistinctIds (ids_of all) → distinct all ≡ Ok all
distinct_all all d = ap (λ found. unwrap_or (option_map (λ id. Err (same_channel id)) found) (Ok all)) (repeated_none [] (ids_of all) d)

-- ---- the document

abbrev limit_key : Key
limit_key = record { name = codes "limit"; kind = of_number MIN_LIMIT MAX_LIMIT; needed = false }

abbrev ring_key : Key
ring_key = record { name = codes "ring"; kind = of_number 1 MAX_RING; needed = false }

abbrev version_key : Key
version_key = record { name = codes "version"; kind = of_number 0 most_of_8_bits; needed = false }

document_says : (m : Members) → MatchResult (settings_in m) (AreDocumentSettings m) (IsDocumentFault m)
document_says m =
    let wrong = wrong_at top_keys document_format m in
    then_says (AreDocumentSettings m) (only top_keys m) _ (only_says top_keys m) (λ ms has.
    then_says (AreDocumentSettings m) (number_or 65536 MIN_LIMIT MAX_LIMIT (codes "limit") m) _ (number_or_says 65536 MIN_LIMIT MAX_LIMIT (codes "limit") m)
    (λ limit l.
    let one = All-cons (IsWell m) limit_key [] (well_or 65536 MIN_LIMIT MAX_LIMIT limit (codes "limit") m l) (All-nil (IsWell m)) in
    then_says (AreDocumentSettings m) (number_or 64 1 MAX_RING (codes "ring") m) _ (number_or_says 64 1 MAX_RING (codes "ring") m) (λ ring r.
    let two = All-push (IsWell m) (limit_key ∷ []) ring_key one (well_or 64 1 MAX_RING ring (codes "ring") m r) in
    then_says (AreDocumentSettings m) (number_or 8 0 most_of_8_bits (codes "version") m) _ (number_or_says 8 0 most_of_8_bits (codes "version") m) (λ version v.
    let three = All-push (IsWell m) (limit_key ∷ ring_key ∷ []) version_key two (well_or 8 0 most_of_8_bits version (codes "version") m v) in
    then_says (AreDocumentSettings m) (channel_tables m) _ (tables_say m) (λ tables t.
    then_says (AreDocumentSettings m) (channels_in tables) _ (channels_say tables) (λ all zip.
    then_says (AreDocumentSettings m) (distinct all) _ (distinct_says tables all zip) (λ same d.
    record {
      only = has;
      limit_is = l;
      ring_is = r;
      version_is = v;
      tables = tables;
      tables_are = t.0;
      some = t.1;
      few = t.2;
      channels_are = subst (AllZip IsChannel tables) (sym d.0) zip;
      distinct = subst (λ cs. AreDistinctIds (ids_of cs)) (sym d.0) d.1;
    })
    (λ f bad. inr (has, three, inr (tables, t.0, t.1, t.2, inr bad))))
    (λ f bad. inr (has, three, inr (tables, t.0, t.1, t.2, inl bad))))
    (λ f bad. inr (has, three, inl bad)))
    (λ f bad. inl (wrong (limit_key ∷ ring_key ∷ []) version_key [] f has refl two bad)))
    (λ f bad. inl (wrong (limit_key ∷ []) ring_key (version_key ∷ []) f has refl one bad)))
    (λ f bad. inl (wrong [] limit_key (ring_key ∷ version_key ∷ []) f has refl (All-nil (IsWell m)) bad)))
    (λ f bad. inl (inl bad))

document_ok : (m : Members) (s : SettingsData) → AreDocumentSettings m s → settings_in m ≡ Ok s
document_ok m s are =
    then_ok (only top_keys m) m _ _ (only_ok top_keys m are.only)
    (then_ok (number_or 65536 MIN_LIMIT MAX_LIMIT (codes "limit") m) s.limit _ _ (number_or_ok 65536 MIN_LIMIT MAX_LIMIT s.limit (codes "limit") m are.limit_is)
    (then_ok (number_or 64 1 MAX_RING (codes "ring") m) s.ring _ _ (number_or_ok 64 1 MAX_RING s.ring (codes "ring") m are.ring_is)
    (then_ok (number_or 8 0 most_of_8_bits (codes "version") m) s.version _ _ (number_or_ok 8 0 most_of_8_bits s.version (codes "version") m are.version_is)
    (then_ok (channel_tables m) are.tables _ _ (tables_ok m are.tables are.tables_are are.some are.few)
    (then_ok (channels_in are.tables) s.channels _ _ (channels_ok are.tables s.channels are.channels_are)
    (then_ok (distinct s.channels) s.channels _ _ (distinct_all s.channels are.distinct) refl))))))

-- ---- the text

text_by : (text : List ℕ) (found : Option Members) → parse_document text ≡ found
    → MatchResult (unwrap_or (option_map settings_in found) (Err syntax)) (AreSettingsOf text) (IsFaultOfText text)
text_by text None is = inl (is, refl)
text_by text (Some m) is = lifted (settings_in m) (document_says m)
  where
    lifted : (r : Result SettingsData Fault) → MatchResult r (AreDocumentSettings m) (IsDocumentFault m)
        → MatchResult r (AreSettingsOf text) (IsFaultOfText text)
    lifted (Ok s) says = (m, is, says)
    lifted (Err f) says = inr (m, is, says)

text_says : (text : List ℕ) → MatchResult (settings text) (AreSettingsOf text) (IsFaultOfText text)
text_says text = text_by text (parse_document text) refl

pub same_settings : (text : List ℕ) (found : SettingsData) → (settings text ≡ Ok found) ↔ AreSettingsOf text found
same_settings text found = (
  λ is. subst (λ r. MatchResult r (AreSettingsOf text) (IsFaultOfText text)) is (text_says text),
  λ are. ap (λ parsed. unwrap_or (option_map settings_in parsed) (Err syntax)) are.1 ∙ document_ok are.0 found are.2,
)

pub same_fault : (text : List ℕ) (fault : Fault) → settings text ≡ Err fault → IsFaultOfText text fault
same_fault text fault is = subst (λ r. MatchResult r (AreSettingsOf text) (IsFaultOfText text)) is (text_says text)
