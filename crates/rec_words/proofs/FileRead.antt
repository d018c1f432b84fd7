-- What is read of a file's setup is what its text says.
-- idea: each key that was read is set to what was read, or isn't set; each table of a list was read behind those before it,
-- so no ID is one of an earlier table.
use Rattle.std.proofs.Common.{ℕ, ℤ, ◌≡◌, ◌≢◌, ◌≤◌, suc, inl, inr, Bool, true, false, true≢false, ◌==◌, ◌&&◌, List, [], ◌∷◌, ◌++◌, length, map, All}
use Rattle.std.proofs.Common.{Option, None, Some, option_map, option_and_then, Ok, Err, MatchResult, refl, sym, ap, subst, ◌∙◌, arith}
use Rattle.std.proofs.Common.{codes, eq-eqb, if◌then◌else◌}
use Rattle.std.specs.Prelude.{pos, nat_le, nat_lt, unwrap_or, not, is_none}
use Rattle.std.specs.List.{AllZip, list_any, list_all}
use Rattle.std.proofs.lemmas.Bool.{leb-true, ltb-true, eqb-true, and_parts}
use Rattle.std.proofs.lemmas.List.{append-nil, append_assoc, map-append}
use Rattle.std.proofs.lemmas.List.Folds.{list_any_at}
use Rattle.std.proofs.lemmas.Bool.Decides.{nat_tests}
use Rattle.std.proofs.lemmas.Option.{none-some, cond_some}
use Rattle.toml.specs.Data.{Data, string, integer, float, boolean, datetime, array, table as table_data, Items, no_items, item, Members, get_member}
use Rattle.toml.specs.Parse.{parse_document}
use Rattle.toml.specs.View.{items_of}
use Rattle.ch11_clock.specs.OriginText.{origin_said, SaysOrigin}
use Rattle.ch11_clock.proofs.OriginRead.{origin_read}
use Rattle.ch11_setup.specs.Attributes.{AttributeData, attribute_of, cut_at}
use Rattle.rec_words.specs.Settings.{Fault, syntax, missing, value, ◌>>=◌, only, number_in, text_in, required, number_or, tables_in}
use Rattle.rec_words.specs.Settings.{most_of_8_bits, most_of_16_bits, most_of_63_bits}
use Rattle.rec_words.specs.Format.{HasOnly, AreDistinctIds}
use Rattle.rec_words.specs.SetupFile.{OriginData, ChannelSetupData, FileData, file_keys, origin_keys, setup_channel_keys, most_of_48_bits, most_origins}
use Rattle.rec_words.specs.SetupFile.{text_or, truth_or, truth_in, tables_of, each_after, time_told_in, origin_in, enough_origins, noted_origins, single_origin}
use Rattle.rec_words.specs.SetupFile.{origins_by, origins_in, new_id, setup_channel_in, setup_channels_of}
use Rattle.rec_words.specs.SetupFile.{ahead_in, unknown_scale, in_utc, is_too_early, origin_unless}
use Rattle.rec_words.specs.SetupFile.{setup_channels_in, attributes_in, setup_file}
use Rattle.rec_words.specs.SetupFile.{RecordingData, is_place, may_follow, followed_at, after_in, recording_keys, recording_in, stands_alone}
use Rattle.rec_words.specs.SetupFile.{recordings_of, general_in, file_by, file_in}
use Rattle.rec_words.specs.SetupFormat.{IsText, IsTruth, SaysTime, IsNotedOrigin, AreOrigins, AreAdded, IsFileChannel, AreFileChannels}
use Rattle.rec_words.specs.SetupFormat.{IsSaidOfUnknown, setup_ids, SaysAttribute, IsFile, IsFileOf}
use Rattle.rec_words.specs.SetupFormat.{IsAfter, IsRecordingTable, MayFollow, AreRuns, AreRecordings, IsGeneral}
use Rattle.rec_words.specs.SetupFile.{is_attribute_byte, attribute_with, attribute_said, attributes_said, all_attributes, attributes_of}
use Rattle.rec_words.specs.ReservedNames.{is_reserved}
use Rattle.rec_words.proofs.AddedRead.{said_is}
use Rattle.rec_words.proofs.ReservedRead.{cut_parts}
use Rattle.rec_words.proofs.FormatRead.{distinct_push}
use Rattle.rec_words.proofs.KeysRead.{then_says, outcome, only_says, number_says, number_required, number_or_says}
use Rattle.rec_words.proofs.ScalesRead.{ahead_says, scale_says}
use Rattle.rec_words.proofs.SettingsRead.{any_of_map}

abbrev Whatever : Fault → Type 0
Whatever fault = Unit {0}

-- ---- keys

text_by : (name default : List ℕ) (m : Members) (found : Option Data) → get_member name m ≡ found
    → MatchResult (unwrap_or (option_map (text_in name) found) (Ok default)) (IsText m name default) Whatever
text_by name default m None is = inr (is, refl)
text_by name default m (Some (string t)) is = inl is
text_by name default m (Some (integer n)) is = tt
text_by name default m (Some (float f)) is = tt
text_by name default m (Some (boolean b)) is = tt
text_by name default m (Some (datetime t)) is = tt
text_by name default m (Some (array items)) is = tt
text_by name default m (Some (table_data ms)) is = tt

text_or_says : (name default : List ℕ) (m : Members) → MatchResult (text_or default name m) (IsText m name default) Whatever
text_or_says name default m = text_by name default m (get_member name m) refl

truth_by : (name : List ℕ) (default : Bool) (m : Members) (found : Option Data) → get_member name m ≡ found
    → MatchResult (unwrap_or (option_map (truth_in name) found) (Ok default)) (IsTruth m name default) Whatever
truth_by name default m None is = inr (is, refl)
truth_by name default m (Some (boolean b)) is = inl is
truth_by name default m (Some (string t)) is = tt
truth_by name default m (Some (integer n)) is = tt
truth_by name default m (Some (float f)) is = tt
truth_by name default m (Some (datetime t)) is = tt
truth_by name default m (Some (array items)) is = tt
truth_by name default m (Some (table_data ms)) is = tt

truth_or_says : (name : List ℕ) (default : Bool) (m : Members) → MatchResult (truth_or default name m) (IsTruth m name default) Whatever
truth_or_says name default m = truth_by name default m (get_member name m) refl

-- ---- lists of tables

abbrev AreIn : Data → List Members → Type 0
AreIn d tables = (items : Items) × (d ≡ array items) × (tables_in items ≡ Some tables)

tables_say : (key : List ℕ) (d : Data) → MatchResult (tables_of key d) (AreIn d) Whatever
tables_say key (array items) = by (tables_in items) refl
  where
    by : (found : Option (List Members)) → tables_in items ≡ found
        → MatchResult (unwrap_or (option_map (λ tables. Ok tables) found) (Err (value key))) (AreIn (array items)) Whatever
    by None is = tt
    by (Some tables) is = (items, refl, is)
tables_say key (string t) = tt
tables_say key (integer n) = tt
tables_say key (float f) = tt
tables_say key (boolean b) = tt
tables_say key (datetime t) = tt
tables_say key (table_data ms) = tt

-- ---- origins

abbrev SaysIt : Data → ℤ → Type 0
SaysIt d nanos = (written : List ℕ) × (d ≡ string written) × SaysOrigin written nanos

time_says : (key : List ℕ) (d : Data) → MatchResult (time_told_in key d) (SaysIt d) Whatever
time_says key (string t) = by (origin_said t) refl
  where
    by : (found : Option ℤ) → origin_said t ≡ found
        → MatchResult (unwrap_or (option_map (λ nanos. Ok nanos) found) (Err (value key))) (SaysIt (string t)) Whatever
    by None is = tt
    by (Some nanos) is = (t, refl, (origin_read t nanos).0 is)
time_says key (integer n) = tt
time_says key (float f) = tt
time_says key (boolean b) = tt
time_says key (datetime t) = tt
time_says key (array items) = tt
time_says key (table_data ms) = tt

time_required : (m : Members) → MatchResult (required (time_told_in (codes "origin")) (codes "origin") m) (SaysTime m) Whatever
time_required m = by (get_member (codes "origin") m) refl
  where
    by : (found : Option Data) → get_member (codes "origin") m ≡ found
        → MatchResult (unwrap_or (option_map (time_told_in (codes "origin")) found) (Err (missing (codes "origin")))) (SaysTime m) Whatever
    by None is = tt
    by (Some d) is = outcome (time_told_in (codes "origin") d) (λ nanos says. (says.0, is ∙ ap (λ x. Some x) says.1, says.2)) (λ f _. tt)
        (time_says (codes "origin") d)

unless_says : (is_early : Bool) (counter : ℕ) (nanos : ℤ)
    → MatchResult (origin_unless is_early counter nanos) (λ origin. origin ≡ record { counter = counter; nanos = nanos }) Whatever
unless_says true counter nanos = tt
unless_says false counter nanos = refl

noted : (unknown : Option ℕ) (m : Members) → MatchResult (origin_in unknown m) (IsNotedOrigin unknown m) Whatever
noted unknown m =
    then_says (IsNotedOrigin unknown m) (only origin_keys m) _ (only_says origin_keys m) (λ ms has.
    then_says (IsNotedOrigin unknown m) (required (number_in 0 most_of_48_bits (codes "counter")) (codes "counter") m) _
    (number_required 0 most_of_48_bits (codes "counter") m) (λ counter n.
    then_says (IsNotedOrigin unknown m) (required (time_told_in (codes "origin")) (codes "origin") m) _ (time_required m) (λ told t.
    then_says (IsNotedOrigin unknown m) (ahead_in unknown m) _ (ahead_says unknown m) (λ ahead a.
    outcome (origin_unless (is_too_early (in_utc told ahead)) counter (in_utc told ahead))
    (λ origin o. subst (IsNotedOrigin unknown m) (sym o) (record {
      told = told;
      ahead = ahead;
      only = has;
      counter_is = n.1 ∙ ap (λ x. Some x) n.2.0;
      counter_fits = n.2.2;
      time_is = t;
      scale_is = a;
      in_utc = refl;
    }))
    (λ f _. tt) (unless_says (is_too_early (in_utc told ahead)) counter (in_utc told ahead)))
    (λ f _. tt)) (λ f _. tt)) (λ f _. tt)) (λ f _. tt)

-- what was read of these tables, behind what was read before
abbrev Behind : {B : Type 0} → (Members → B → Type 0) → List B → List Members → List B → Type 0
Behind {B} Is before tables all = (rest : List B) × (all ≡ before ++ rest) × AllZip Is tables rest

behind_more : {B : Type 0} (Is : Members → B → Type 0) (before : List B) (m : Members) (tables : List Members) (one : B) (all : List B) → Is m one
    → Behind Is (before ++ one ∷ []) tables all → Behind Is before (m ∷ tables) all
behind_more Is before m tables one all is later = (one ∷ later.0, later.1 ∙ append_assoc before (one ∷ []) later.0, (is, later.2))

each_noted : (unknown : Option ℕ) (before : List OriginData) (tables : List Members)
    → MatchResult (each_after (λ _ m. origin_in unknown m) before tables) (Behind (IsNotedOrigin unknown) before tables) Whatever
each_noted unknown before [] = ([], sym (append-nil before), tt)
each_noted unknown before (m ∷ tables) =
    then_says (Behind (IsNotedOrigin unknown) before (m ∷ tables)) (origin_in unknown m) _ (noted unknown m) (λ one is.
    outcome (each_after (λ _ m. origin_in unknown m) (before ++ one ∷ []) tables)
    (λ all later. behind_more (IsNotedOrigin unknown) before m tables one all is later) (λ f _. tt)
    (each_noted unknown (before ++ one ∷ []) tables))
    (λ f _. tt)

enough_says : (tables : List Members)
    → MatchResult (enough_origins tables) (λ ts. (ts ≡ tables) × (1 ≤ length tables) × (length tables ≤ most_origins)) Whatever
enough_says tables = by (nat_le 1 (length tables) && nat_le (length tables) most_origins) refl
  where
    by : (is : Bool) → (nat_le 1 (length tables) && nat_le (length tables) most_origins) ≡ is
        → MatchResult (if is then Ok tables else Err (value (codes "origins"))) (λ ts. (ts ≡ tables) × (1 ≤ length tables)
        × (length tables ≤ most_origins)) Whatever
    by false is = tt
    by true is =
        let both = and_parts (nat_le 1 (length tables)) (nat_le (length tables) most_origins) is in
        (refl, leb-true 1 (length tables) both.0, leb-true (length tables) most_origins both.1)

abbrev NotedIn : (unknown : Option ℕ) → Data → List OriginData → Type 0
NotedIn unknown d origins =
    (tables : List Members) × AreIn d tables × (1 ≤ length tables) × (length tables ≤ most_origins) × AllZip (IsNotedOrigin unknown) tables origins

noted_say : (unknown : Option ℕ) (d : Data) → MatchResult (noted_origins unknown d) (NotedIn unknown d) Whatever
noted_say unknown d =
    then_says (NotedIn unknown d) (tables_of (codes "origins") d) _ (tables_say (codes "origins") d) (λ tables are.
    then_says (NotedIn unknown d) (enough_origins tables) _ (enough_says tables) (λ ts enough.
    outcome (each_after (λ _ m. origin_in unknown m) [] ts)
    (λ all behind.
    let zip = subst (AllZip (IsNotedOrigin unknown) ts) (sym behind.1) behind.2 in
    (tables, are, enough.1, enough.2, subst (λ l. AllZip (IsNotedOrigin unknown) l all) enough.0 zip))
    (λ f _. tt) (each_noted unknown [] ts))
    (λ f _. tt)) (λ f _. tt)

single_says : (d : Data) → MatchResult (single_origin d) (λ origins. (nanos : ℤ) × SaysIt d nanos × (origins ≡ record { counter = 0; nanos = nanos } ∷ []))
    Whatever
single_says d = then_says (λ origins. (nanos : ℤ) × SaysIt d nanos × (origins ≡ record { counter = 0; nanos = nanos } ∷ [])) (time_told_in (codes "origin") d) _
    (time_says (codes "origin") d) (λ nanos says. (nanos, says, refl)) (λ f _. tt)

origins_say : (unknown : Option ℕ) (m : Members) → MatchResult (origins_in unknown m) (AreOrigins unknown m) Whatever
origins_say unknown m = by (get_member (codes "origin") m) (get_member (codes "origins") m) refl refl
  where
    by : (one many : Option Data) → get_member (codes "origin") m ≡ one → get_member (codes "origins") m ≡ many
        → MatchResult (origins_by unknown one many) (AreOrigins unknown m) Whatever
    by None None is are = tt
    by (Some d) None is are = outcome (single_origin d)
        (λ origins h. inl (h.0, (h.1.0, is ∙ ap (λ x. Some x) h.1.1, h.1.2), are, h.2)) (λ f _. tt) (single_says d)
    by None (Some d) is are = outcome (noted_origins unknown d)
        (λ origins h. inr (h.0, is, (h.1.0, are ∙ ap (λ x. Some x) h.1.1, h.1.2), h.2, h.3, h.4)) (λ f _. tt) (noted_say unknown d)
    by (Some one) (Some many) is are = then_says (AreOrigins unknown m) (single_origin one) _ (single_says one) (λ origins h. tt) (λ f _. tt)

-- ---- attributes

some_is : {A : Type 0} (one two : A) → Some one ≡ Some two → one ≡ two
some_is one two e = (cond_some true one two e).1

parts_of : (text : List ℕ) (attribute : AttributeData) → attribute_said text ≡ Some attribute → text ≡ attribute.name ++ 58 ∷ attribute.value
parts_of text attribute e = by (list_all is_attribute_byte text) e
  where
    with_parts : (parts : List ℕ × List ℕ) (is : Bool) → text ≡ parts.0 ++ 58 ∷ parts.1
        → (if is then Some (attribute_of parts.0 parts.1) else None) ≡ Some attribute → text ≡ attribute.name ++ 58 ∷ attribute.value
    with_parts parts false cut e = absurd (none-some attribute e)
    with_parts parts true cut e =
        cut ∙ ap (λ (a : AttributeData). a.name ++ 58 ∷ a.value) (some_is (attribute_of parts.0 parts.1) attribute e)

    cut : (found : Option (List ℕ × List ℕ)) → cut_at 58 text ≡ found → option_and_then attribute_with found ≡ Some attribute
        → text ≡ attribute.name ++ 58 ∷ attribute.value
    cut None is e = absurd (none-some attribute e)
    cut (Some parts) is e = with_parts parts (nat_lt 0 (length parts.0) && not (is_reserved parts.0)) (cut_parts 58 text parts.0 parts.1 is) e

    by : (is : Bool) → (if is then option_and_then attribute_with (cut_at 58 text) else None) ≡ Some attribute
        → text ≡ attribute.name ++ 58 ∷ attribute.value
    by false e = absurd (none-some attribute e)
    by true e = cut (cut_at 58 text) refl e

abbrev TextsOf : Items → List AttributeData → Type 0
TextsOf items attributes = (texts : List (List ℕ)) × (items ≡ items_of (map string texts)) × AllZip SaysAttribute texts attributes

texts_in : (items : Items) (attributes : List AttributeData) → attributes_said items ≡ Some attributes → TextsOf items attributes
texts_in no_items attributes e = ([], refl, subst (AllZip SaysAttribute []) (some_is [] attributes e) tt)
texts_in (item (string t) items) attributes e =
    both (attribute_said t) (attributes_said items) (λ a same. (parts_of t a same, said_is t a same)) (λ others same. texts_in items others same) e
  where
    both : (first : Option AttributeData) (rest : Option (List AttributeData)) → ((a : AttributeData) → first ≡ Some a → SaysAttribute t a)
        → ((others : List AttributeData) → rest ≡ Some others → TextsOf items others)
        → option_and_then (λ a. option_map (λ others. a ∷ others) rest) first ≡ Some attributes → TextsOf (item (string t) items) attributes
    both None rest one later e = absurd (none-some attributes e)
    both (Some a) None one later e = absurd (none-some attributes e)
    both (Some a) (Some others) one later e =
        let found = later others refl in
        (t ∷ found.0, ap (item (string t)) found.1, subst (AllZip SaysAttribute (t ∷ found.0)) (some_is (a ∷ others) attributes e) (one a refl, found.2))
texts_in (item (integer n) items) attributes e = absurd (none-some attributes e)
texts_in (item (float f) items) attributes e = absurd (none-some attributes e)
texts_in (item (boolean b) items) attributes e = absurd (none-some attributes e)
texts_in (item (datetime t) items) attributes e = absurd (none-some attributes e)
texts_in (item (array ds) items) attributes e = absurd (none-some attributes e)
texts_in (item (table_data ms) items) attributes e = absurd (none-some attributes e)

attributes_by : (m : Members) (found : Option Data) → get_member (codes "attributes") m ≡ found
    → MatchResult (unwrap_or (option_map attributes_of found) (Ok [])) (AreAdded m) Whatever
attributes_by m None is = inl (is, refl)
attributes_by m (Some (array items)) is = all (attributes_said items) refl
  where
    all : (found : Option (List AttributeData)) → attributes_said items ≡ found → MatchResult (all_attributes found) (AreAdded m) Whatever
    all None e = tt
    all (Some others) e = let texts = texts_in items others e in inr (texts.0, is ∙ ap (λ i. Some (array i)) texts.1, texts.2)
attributes_by m (Some (string t)) is = tt
attributes_by m (Some (integer n)) is = tt
attributes_by m (Some (float f)) is = tt
attributes_by m (Some (boolean b)) is = tt
attributes_by m (Some (datetime t)) is = tt
attributes_by m (Some (table_data ms)) is = tt

-- ---- channels

new_says : (before : List ChannelSetupData) (id : ℕ)
    → MatchResult (new_id before id) (λ same. (same ≡ id) × All (λ x. x ≢ id) (setup_ids before)) Whatever
new_says before id = by (list_any (λ c. c.id == id) before) refl
  where
    by : (is : Bool) → list_any (λ c. c.id == id) before ≡ is
        → MatchResult (if is then Err (value (codes "id")) else Ok id) (λ same. (same ≡ id) × All (λ x. x ≢ id) (setup_ids before)) Whatever
    by true is = tt
    by false is = (
      refl,
      λ k x within same. true≢false (sym (list_any_at (λ b. b == id) (setup_ids before) k x within (eq-eqb _ id same))
          ∙ (any_of_map (λ b. b == id) (λ (c : ChannelSetupData). c.id) before ∙ is)),
    )

abbrev IsNext : List ChannelSetupData → Members → ChannelSetupData → Type 0
IsNext before m channel = IsFileChannel m channel × AreDistinctIds (setup_ids (before ++ channel ∷ []))

channel_says : (before : List ChannelSetupData) (m : Members) → AreDistinctIds (setup_ids before)
    → MatchResult (setup_channel_in before m) (IsNext before m) Whatever
channel_says before m d =
    then_says (IsNext before m) (only setup_channel_keys m) _ (only_says setup_channel_keys m) (λ ms has.
    then_says (IsNext before m) (required (number_in 1 most_of_16_bits (codes "id")) (codes "id") m) _ (number_required 1 most_of_16_bits (codes "id") m)
    (λ id n.
    then_says (IsNext before m) (new_id before id) _ (new_says before id) (λ same new.
    then_says (IsNext before m) (text_or (codes "channel") (codes "name") m) _ (text_or_says (codes "name") (codes "channel") m) (λ name t.
    then_says (IsNext before m) (number_or 0 0 most_of_8_bits (codes "net") m) _ (number_or_says 0 0 most_of_8_bits (codes "net") m) (λ net k. (
      record {
        only = has;
        id_is = n.1 ∙ ap (λ x. Some x) n.2.0 ∙ ap (λ i. Some (integer (pos i))) (sym new.0);
        named = subst (λ i. 1 ≤ i) (sym new.0) n.2.1;
        id_fits = subst (λ i. i ≤ most_of_16_bits) (sym new.0) n.2.2;
        name_is = t;
        net_is = k;
      },
      subst AreDistinctIds (sym (map-append (λ (c : ChannelSetupData). c.id) before (record { id = same; name = name; net = net } ∷ [])))
          (distinct_push (setup_ids before) same d (subst (λ i. All (λ x. x ≢ i) (setup_ids before)) (sym new.0) new.1)),
    ))
    (λ f _. tt)) (λ f _. tt)) (λ f _. tt)) (λ f _. tt)) (λ f _. tt)

each_channel : (before : List ChannelSetupData) (tables : List Members) → AreDistinctIds (setup_ids before)
    → MatchResult (each_after setup_channel_in before tables) (λ all. Behind IsFileChannel before tables all × AreDistinctIds (setup_ids all)) Whatever
each_channel before [] d = (([], sym (append-nil before), tt), d)
each_channel before (m ∷ tables) d =
    then_says (λ all. Behind IsFileChannel before (m ∷ tables) all × AreDistinctIds (setup_ids all)) (setup_channel_in before m) _ (channel_says before m d)
    (λ one is. outcome (each_after setup_channel_in (before ++ one ∷ []) tables)
    (λ all later. (behind_more IsFileChannel before m tables one all is.0 later.0, later.1)) (λ f _. tt) (each_channel (before ++ one ∷ []) tables is.1))
    (λ f _. tt)

abbrev ChannelsOf : Members → List ChannelSetupData → Type 0
ChannelsOf m channels = AreFileChannels m channels × AreDistinctIds (setup_ids channels)

channels_say : (m : Members) → MatchResult (setup_channels_in m) (ChannelsOf m) Whatever
channels_say m = by (get_member (codes "channel") m) refl
  where
    no_ids : AreDistinctIds []
    no_ids = λ i j e before within. absurd (omega (arith, within))

    by : (found : Option Data) → get_member (codes "channel") m ≡ found
        → MatchResult (unwrap_or (option_map setup_channels_of found) (Ok [])) (ChannelsOf m) Whatever
    by None is = (inl (is, refl), no_ids)
    by (Some d) is = then_says (ChannelsOf m) (tables_of (codes "channel") d) _ (tables_say (codes "channel") d) (λ tables are.
        outcome (each_after setup_channel_in [] tables)
        (λ all h. (inr (tables, (are.0, is ∙ ap (λ x. Some x) are.1, are.2), subst (AllZip IsFileChannel tables) (sym h.0.1) h.0.2), h.1)) (λ f _. tt)
        (each_channel [] tables no_ids))
        (λ f _. tt)

-- ---- recordings

abbrev After : Data → Option ℕ → Type 0
After d after = (place : ℕ) × (d ≡ integer (pos place)) × (after ≡ Some place)

not_place : (place : ℕ) (after : Option ℕ) → after ≡ Some place → is_place place after ≡ true
not_place place after is = rw is (let same : (place == place) ≡ true = grind (arith, nat_tests) in same)

none_at : (before : List RecordingData) (place : ℕ) → list_any (λ earlier. is_place place earlier.after) before ≡ false
    → All (λ (earlier : RecordingData). earlier.after ≢ Some place) before
none_at before place none k x within same =
    true≢false (sym (list_any_at (λ (earlier : RecordingData). is_place place earlier.after) before k x within (not_place place _ same)) ∙ none)

not_true : (b : Bool) → not b ≡ true → b ≡ false
not_true false e = refl
not_true true e = absurd (true≢false (sym e))

followed_says : (before : List RecordingData) (d : Data)
    → MatchResult (followed_at before d) (λ after. After d after × MayFollow before after) Whatever
followed_says before d =
    then_says (λ after. After d after × MayFollow before after) (number_in 0 most_of_63_bits (codes "after") d) _
    (number_says 0 most_of_63_bits (codes "after") d) (λ place n. by place n.0 (may_follow before place) refl) (λ f _. tt)
  where
    by : (place : ℕ) → d ≡ integer (pos place) → (is : Bool) → may_follow before place ≡ is
        → MatchResult (if is then Ok (Some place) else Err (value (codes "after"))) (λ after. After d after × MayFollow before after) Whatever
    by place here false is = tt
    by place here true is =
        let both = and_parts (nat_lt place (length before)) (not (list_any (λ (earlier : RecordingData). is_place place earlier.after) before)) is in
        ((place, here, refl), (ltb-true place (length before) both.0, none_at before place (not_true _ both.1)))

after_says : (before : List RecordingData) (m : Members)
    → MatchResult (after_in before m) (λ after. IsAfter m after × MayFollow before after) Whatever
after_says before m = by (get_member (codes "after") m) refl
  where
    by : (found : Option Data) → get_member (codes "after") m ≡ found
        → MatchResult (unwrap_or (option_map (followed_at before) found) (Ok None)) (λ after. IsAfter m after × MayFollow before after) Whatever
    by None is = (is, tt)
    by (Some d) is = outcome (followed_at before d)
        (λ after h. (subst (IsAfter m) (sym h.0.2) (is ∙ ap (λ x. Some x) h.0.1), h.1)) (λ f _. tt) (followed_says before d)

recording_says : (unknown : Option ℕ) (before : List RecordingData) (m : Members)
    → MatchResult (recording_in unknown before m) (λ r. IsRecordingTable unknown m r × MayFollow before r.after) Whatever
recording_says unknown before m =
    then_says (λ r. IsRecordingTable unknown m r × MayFollow before r.after) (only recording_keys m) _ (only_says recording_keys m) (λ ms has.
    then_says (λ r. IsRecordingTable unknown m r × MayFollow before r.after) (origins_in unknown m) _ (origins_say unknown m) (λ origins o.
    then_says (λ r. IsRecordingTable unknown m r × MayFollow before r.after) (after_in before m) _ (after_says before m) (λ after a.
    then_says (λ r. IsRecordingTable unknown m r × MayFollow before r.after) (setup_channels_in m) _ (channels_say m) (λ channels c. (
      record { only = has; origins_are = o; after_is = a.0; channels_are = c.0; distinct = c.1 },
      a.1,
    ))
    (λ f _. tt)) (λ f _. tt)) (λ f _. tt)) (λ f _. tt)

-- what follows these is behind each of those: each of them may follow what stands before it
abbrev RunsBehind : List RecordingData → List RecordingData → Type 0
RunsBehind before [] = Unit {0}
RunsBehind before (recording ∷ rest) = MayFollow before recording.after × RunsBehind (before ++ recording ∷ []) rest

runs_at : (front before : List RecordingData) (recording : RecordingData) (behind : List RecordingData)
    → RunsBehind front (before ++ recording ∷ behind) → MayFollow (front ++ before) recording.after
runs_at front [] recording behind runs = subst (λ l. MayFollow l recording.after) (sym (append-nil front)) runs.0
runs_at front (first ∷ before) recording behind runs =
    subst (λ l. MayFollow l recording.after) (append_assoc front (first ∷ []) before) (runs_at (front ++ first ∷ []) before recording behind runs.1)

are_runs : (recordings : List RecordingData) → RunsBehind [] recordings → AreRuns recordings
are_runs recordings runs before recording behind is = runs_at [] before recording behind (subst (RunsBehind []) is runs)

abbrev RecordingsBehind : (unknown : Option ℕ) → List RecordingData → List Members → List RecordingData → Type 0
RecordingsBehind unknown before tables all =
    (rest : List RecordingData) × (all ≡ before ++ rest) × AllZip (IsRecordingTable unknown) tables rest × RunsBehind before rest
    × (length rest ≡ length tables)

each_recording : (unknown : Option ℕ) (before : List RecordingData) (tables : List Members)
    → MatchResult (each_after (recording_in unknown) before tables) (RecordingsBehind unknown before tables) Whatever
each_recording unknown before [] = ([], sym (append-nil before), tt, tt, refl)
each_recording unknown before (m ∷ tables) =
    then_says (RecordingsBehind unknown before (m ∷ tables)) (recording_in unknown before m) _ (recording_says unknown before m) (λ one is.
    outcome (each_after (recording_in unknown) (before ++ one ∷ []) tables)
    (λ all later. (one ∷ later.0, later.1 ∙ append_assoc before (one ∷ []) later.0, (is.0, later.2), (is.1, later.3), ap suc later.4))
    (λ f _. tt) (each_recording unknown (before ++ one ∷ []) tables))
    (λ f _. tt)

abbrev Unset : Members → List ℕ → Type 0
Unset m key = get_member key m ≡ None

unset_of : (m : Members) (key : List ℕ) → is_none (get_member key m) ≡ true → Unset m key
unset_of m key e = by (get_member key m) e
  where
    by : (found : Option Data) → is_none found ≡ true → found ≡ None
    by None e = refl
    by (Some d) e = absurd (true≢false (sym e))

recordings_say : (count : ℕ) (unknown : Option ℕ) (m : Members) (d : Data) → get_member (codes "recording") m ≡ Some d
    → MatchResult (recordings_of count unknown m d) (λ rs. AreRecordings unknown m rs × (length rs ≡ count)) Whatever
recordings_say count unknown m d is =
    then_says (λ rs. AreRecordings unknown m rs × (length rs ≡ count)) (tables_of (codes "recording") d) _ (tables_say (codes "recording") d) (λ tables are.
    by tables are (length tables == count && stands_alone m) refl) (λ f _. tt)
  where
    by : (tables : List Members) → AreIn d tables → (fits : Bool) → (length tables == count && stands_alone m) ≡ fits
        → MatchResult ((if fits then Ok tables else Err (value (codes "recording"))) >>= (λ _. each_after (recording_in unknown) [] tables))
        (λ rs. AreRecordings unknown m rs × (length rs ≡ count)) Whatever
    by tables are false fits = tt
    by tables are true fits =
        let both = and_parts (length tables == count) (stands_alone m) fits in
        let many = and_parts (is_none (get_member (codes "origin") m)) _ both.1 in
        let more = and_parts (is_none (get_member (codes "origins") m)) _ many.1 in
        let last = and_parts (is_none (get_member (codes "channel") m)) true more.1 in
        outcome (each_after (recording_in unknown) [] tables)
        (λ all later. (
          record {
            tables = tables;
            tables_are = (are.0, is ∙ ap (λ x. Some x) are.1, are.2);
            no_origin = unset_of m (codes "origin") many.0;
            no_origins = unset_of m (codes "origins") more.0;
            no_channel = unset_of m (codes "channel") last.0;
            said = subst (AllZip (IsRecordingTable unknown) tables) (sym later.1) later.2;
            runs = are_runs all (subst (RunsBehind []) (sym later.1) later.3);
          },
          ap length later.1 ∙ later.4 ∙ eqb-true (length tables) count both.0,
        ))
        (λ f _. tt) (each_recording unknown [] tables)

-- ---- the document

general_says : (m : Members) → MatchResult (general_in m) (IsGeneral m) Whatever
general_says m =
    then_says (IsGeneral m) (text_or (codes "bpfrec") (codes "host") m) _ (text_or_says (codes "host") (codes "bpfrec") m) (λ host h.
    then_says (IsGeneral m) (text_or (codes "bpfrec") (codes "program") m) _ (text_or_says (codes "program") (codes "bpfrec") m) (λ program p.
    then_says (IsGeneral m) (truth_or false (codes "external") m) _ (truth_or_says (codes "external") false m) (λ is_external e.
    then_says (IsGeneral m) (attributes_in m) _ (attributes_by m (get_member (codes "attributes") m) refl) (λ attributes a.
    record { host_is = h; program_is = p; external_is = e; attributes_are = a })
    (λ f _. tt)) (λ f _. tt)) (λ f _. tt)) (λ f _. tt)

one_says : (count : ℕ) → MatchResult (if count == 1 then Ok count else Err (missing (codes "recording"))) (λ _. count ≡ 1) Whatever
one_says count = by (count == 1) refl
  where
    by : (is : Bool) → (count == 1) ≡ is → MatchResult (if is then Ok count else Err (missing (codes "recording"))) (λ _. count ≡ 1) Whatever
    by false e = tt
    by true e = eqb-true count 1 e

module _ (count : ℕ) (m : Members) (has : HasOnly file_keys m) (unknown : Option ℕ) (said : IsSaidOfUnknown m unknown) where
  by_recordings : (found : Option Data) → get_member (codes "recording") m ≡ found → MatchResult (file_by count unknown m found) (IsFile count m) Whatever
  by_recordings None is =
      then_says (IsFile count m) (if count == 1 then Ok count else Err (missing (codes "recording"))) _ (one_says count) (λ n one.
      then_says (IsFile count m) (origins_in unknown m) _ (origins_say unknown m) (λ origins o.
      then_says (IsFile count m) (general_in m) _ (general_says m) (λ general g.
      then_says (IsFile count m) (setup_channels_in m) _ (channels_say m) (λ channels c.
      record {
        only = has;
        unknown = unknown;
        unknown_is = said;
        as_many = sym one;
        recordings_are = inl (
          record { origins = origins; after = None; channels = channels },
          record { unset = is; origins_are = o; after_is = refl; channels_are = c.0; distinct = c.1 },
          refl,
        );
        general_is = g;
      })
      (λ f _. tt)) (λ f _. tt)) (λ f _. tt)) (λ f _. tt)
  by_recordings (Some d) is =
      then_says (IsFile count m) (recordings_of count unknown m d) _ (recordings_say count unknown m d is) (λ recordings r.
      then_says (IsFile count m) (general_in m) _ (general_says m) (λ general g.
      record {
        only = has;
        unknown = unknown;
        unknown_is = said;
        as_many = r.1;
        recordings_are = inr r.0;
        general_is = g;
      })
      (λ f _. tt)) (λ f _. tt)

file_says : (count : ℕ) (m : Members) → MatchResult (file_in count m) (IsFile count m) Whatever
file_says count m =
    then_says (IsFile count m) (only file_keys m) _ (only_says file_keys m) (λ ms has.
    then_says (IsFile count m) (unknown_scale m) _ (scale_says m) (λ unknown u.
    by_recordings count m has unknown u (get_member (codes "recording") m) refl)
    (λ f _. tt)) (λ f _. tt)

pub file_is : (count : ℕ) (text : List ℕ) (file : FileData) → setup_file count text ≡ Ok file → IsFileOf count text file
file_is count text file is = by (parse_document text) refl is
  where
    no_file : Err syntax ≡ Ok file → ⊥
    no_file e = cc

    by : (found : Option Members) → parse_document text ≡ found → unwrap_or (option_map (file_in count) found) (Err syntax) ≡ Ok file
        → IsFileOf count text file
    by None same e = absurd (no_file e)
    by (Some m) same e = (m, same, subst (λ r. MatchResult r (IsFile count m) Whatever) e (file_says count m))
