-- The names that are found to be reserved are those that a reader may take for ones of a setup record.
use Rattle.std.proofs.Common.{ℕ, ◌⊎◌, ◌≡◌, ◌≢◌, ◌<◌, ◌^◌, ◌+◌, inl, inr, Bool, true, false, true≢false, ◌&&◌, ◌||◌, ◌==◌, not}
use Rattle.std.proofs.Common.{List, [], ◌∷◌, ◌++◌, drop, take, refl, sym, ap, ◌∙◌, Option, None, Some, option_map, if◌then◌else◌, codes, arith, length, ⊎_elim}
use Rattle.std.specs.Prelude.{bytes_eq, ◌↔◌}
use Rattle.std.specs.List.{list_any, starts_with, AllByRecursion}
use Rattle.std.proofs.lemmas.Bool.{and_from, and_parts, or_cases, or_left, or_right, eqb-true}
use Rattle.std.proofs.lemmas.Bool.Decides.{nat_tests, Decides-eqb}
use Rattle.std.proofs.lemmas.List.Folds.{Any-from_list_any, list_any-from_Any}
use Rattle.std.proofs.lemmas.Option.{none-some, cond_some}
use Rattle.std.proofs.lemmas.Slice.Eq.{bytes_eq-Decides, starts_is}
use Rattle.ch11_setup.specs.declared.setup.Setup.{Setup}
use Rattle.ch11_setup.specs.declared.setup.SetupChannel.{SetupChannel}
use Rattle.ch11_setup.specs.Attributes.{AttributeData, cut_at}
use Rattle.ch11_setup.specs.Lines.{comment_attribute, content_attributes, general_attributes, index_attributes, recorder_attributes}
use Rattle.ch11_setup.specs.Names.{cleaned}
use Rattle.ch11_setup.specs.Setups.{channels_attributes, recording_attributes, source_attributes, test_name, IsSetup}
use Rattle.ch11_setup.proofs.CleanedNames.{all_append}
use Rattle.rec_words.specs.Settings.{is_among}
use Rattle.rec_words.specs.Format.{IsOneOfNames}
use Rattle.rec_words.specs.ReservedNames.{single_names, channel_beginnings, test_attribute, plain_name, without_last_blanks, begins_as_one, is_taken}
use Rattle.rec_words.specs.ReservedNames.{IsReserved, is_reserved, own_attributes, AreReserved}
use Rattle.rec_words.proofs.KeysRead.{among, is_one}

-- ---- texts that are cut

pub cut_parts : (mark : ℕ) (text front rest : List ℕ) → cut_at mark text ≡ Some (front, rest) → text ≡ front ++ mark ∷ rest
cut_parts mark [] front rest e = absurd (none-some (front, rest) e)
cut_parts mark (byte ∷ text) front rest e =
    here (byte == mark) refl (cut_at mark text) (λ f r. cut_parts mark text f r) e
  where
    pairs : (one two : List ℕ × List ℕ) → Some one ≡ Some two → (one.0 ≡ two.0) × (one.1 ≡ two.1)
    pairs one two e =
        let same : one ≡ two = (cond_some true one two e).1 in
        (ap (λ (p : List ℕ × List ℕ). p.0) same, ap (λ (p : List ℕ × List ℕ). p.1) same)

    behind : (found : Option (List ℕ × List ℕ)) → ((f r : List ℕ) → found ≡ Some (f, r) → text ≡ f ++ mark ∷ r)
        → option_map {U = List ℕ × List ℕ} (λ parts. (byte ∷ parts.0, parts.1)) found ≡ Some (front, rest) → byte ∷ text ≡ front ++ mark ∷ rest
    behind None later e = absurd (none-some (front, rest) e)
    behind (Some parts) later e =
        let same = pairs (byte ∷ parts.0, parts.1) (front, rest) e in
        ap (λ t. byte ∷ t) (later parts.0 parts.1 refl) ∙ ap (λ f. f ++ mark ∷ parts.1) same.0 ∙ ap (λ r. front ++ mark ∷ r) same.1

    here : (is : Bool) → (byte == mark) ≡ is → (found : Option (List ℕ × List ℕ)) → ((f r : List ℕ) → found ≡ Some (f, r) → text ≡ f ++ mark ∷ r)
        → (if is then Some ([], text) else option_map {U = List ℕ × List ℕ} (λ parts. (byte ∷ parts.0, parts.1)) found) ≡ Some (front, rest)
        → byte ∷ text ≡ front ++ mark ∷ rest
    here true is found later e =
        let same = pairs ([], text) (front, rest) e in
        ap (λ b. b ∷ text) (eqb-true byte mark is) ∙ ap (λ f. f ++ mark ∷ text) same.0 ∙ ap (λ r. front ++ mark ∷ r) same.1
    here false is found later e = behind found later e

-- ---- how names begin

-- what begins so
abbrev Begins : List (List ℕ) → List ℕ → Type 0
Begins known name = (beginning rest : List ℕ) × IsOneOfNames known beginning × (name ≡ beginning ++ rest)

begins_to : (known : List (List ℕ)) (name : List ℕ) → list_any (λ one. starts_with (λ x y. x == y) name one) known ≡ true → Begins known name
begins_to known name e =
    let any = Any-from_list_any (λ one. starts_with (λ x y. x == y) name one) known e in (
      any.1,
      drop (length any.1) name,
      (any.0, any.1, any.2, any.3, refl),
      (starts_is Decides-eqb name any.1 (starts_with (λ x y. x == y) name any.1) refl).0 any.4,
    )

begins_from : (known : List (List ℕ)) (name : List ℕ) → Begins known name → list_any (λ one. starts_with (λ x y. x == y) name one) known ≡ true
begins_from known name (beginning, rest, any, is) =
    list_any-from_Any (λ one. starts_with (λ x y. x == y) name one) known (
      any.0,
      any.1,
      any.2,
      any.3,
      (starts_is Decides-eqb name any.1 (starts_with (λ x y. x == y) name any.1) refl).1 rest (is ∙ ap (λ b. b ++ rest) (sym any.4)),
    )

-- ---- names

not_to : (is : Bool) → not is ≡ true → is ≡ true → ⊥
not_to true e is = true≢false (sym e)
not_to false e is = true≢false (sym is)

not_from : (is : Bool) → (is ≡ true → ⊥) → not is ≡ true
not_from true h = absurd (h refl)
not_from false h = refl

reserved_to : (name : List ℕ) → is_reserved name ≡ true → IsReserved name
reserved_to name h =
    let both = and_parts (not (bytes_eq name test_attribute)) (is_taken (plain_name name)) h in
    record {
      other = λ e. not_to (bytes_eq name test_attribute) both.0 ((bytes_eq-Decides name test_attribute).1 e);
      taken = ⊎_elim (λ e. inr (begins_to channel_beginnings (plain_name name) e))
          (λ e. inl (among single_names (without_last_blanks (plain_name name)) e))
          (or_cases (begins_as_one (plain_name name) channel_beginnings) (is_among single_names (without_last_blanks (plain_name name))) both.1);
    }

pub reserved_from : (name : List ℕ) → IsReserved name → is_reserved name ≡ true
reserved_from name is =
    let plain = plain_name name in
    and_from (not (bytes_eq name test_attribute)) (is_taken plain)
    (not_from (bytes_eq name test_attribute) (λ e. is.other ((bytes_eq-Decides name test_attribute).0 e)))
    (⊎_elim
    (λ one. or_right (begins_as_one plain channel_beginnings) (is_among single_names (without_last_blanks plain))
    (is_one single_names (without_last_blanks plain) one))
    (λ begins. or_left (begins_as_one plain channel_beginnings) (is_among single_names (without_last_blanks plain))
    (begins_from channel_beginnings plain begins))
    is.taken)

pub same_names : (name : List ℕ) → (is_reserved name ≡ true) ↔ IsReserved name
same_names name = (reserved_to name, reserved_from name)

-- ---- what a setup record writes

-- the names of these are found to be reserved
abbrev AreFound : List AttributeData → Type 0
AreFound attributes = AllByRecursion (λ attribute. (is_reserved attribute.name || bytes_eq attribute.name test_attribute) ≡ true) attributes

channels_found : (n : ℕ) (channels : List SetupChannel) → AreFound (channels_attributes n channels ++ (comment_attribute ∷ []))
channels_found n [] = (refl, tt)
channels_found n (channel ∷ channels) = (refl, (refl, (refl, (refl, (refl, (refl, (refl, (refl, (refl, channels_found (n + 1) channels)))))))))

found_append : (front rest : List AttributeData) → AreFound front → AreFound rest → AreFound (front ++ rest)
found_append front rest are also =
    all_append (λ attribute. (is_reserved attribute.name || bytes_eq attribute.name test_attribute) ≡ true) front rest are also

index_found : (is_indexed : Bool) → AreFound (index_attributes is_indexed)
index_found true = (refl, (refl, (refl, tt)))
index_found false = (refl, tt)

content_found : (is_indexed : Bool) (sources : ℕ) → AreFound (content_attributes is_indexed sources)
content_found is_indexed sources = (refl, found_append (index_attributes is_indexed) _ (index_found is_indexed) (refl, (refl, tt)))

-- the recording and its recorder, and then the sources
all_found : (setup : Setup) → AreFound (own_attributes setup)
all_found setup =
    let general = general_attributes (test_name setup.attributes.now) (cleaned setup.host.now) setup.time in
    let recorder = recorder_attributes (cleaned setup.host.now) (cleaned setup.program.now) setup.time in
    let content = content_attributes setup.is_indexed (length setup.channels.now + 1) in
    found_append (recording_attributes setup) (source_attributes setup ++ (comment_attribute ∷ []))
    (found_append general (recorder ++ content) (refl, (refl, (refl, (refl, (refl, (refl, tt))))))
    (found_append recorder content (refl, (refl, (refl, (refl, (refl, (refl, tt))))))
    (content_found setup.is_indexed (length setup.channels.now + 1))))
    (refl, (refl, (refl, (refl, (refl, (refl, (refl, (refl, channels_found 2 setup.channels.now))))))))

found_are : (attributes : List AttributeData) → AreFound attributes → AreReserved attributes
found_are [] h = tt
found_are (attribute ∷ attributes) h = (
  ⊎_elim (λ e. inl (reserved_to attribute.name e)) (λ e. inr ((bytes_eq-Decides attribute.name test_attribute).0 e))
      (or_cases (is_reserved attribute.name) (bytes_eq attribute.name test_attribute) h.0),
  found_are attributes h.1,
)

pub written_are : (setup : Setup) → IsSetup setup → AreReserved (own_attributes setup)
written_are setup is = found_are (own_attributes setup) (all_found setup)
