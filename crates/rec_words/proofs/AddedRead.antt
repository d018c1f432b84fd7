-- What a file's setup adds are attributes, and none that its setup record writes.
-- idea: an attribute is kept as its text was cut at the first colon, so its name has none; all bytes of its text were tried,
-- and so was its name.
use Rattle.std.proofs.Common.{ℕ, ◌≡◌, Bool, true, false, true≢false, ◌&&◌, ◌==◌, not, List, [], ◌∷◌, ◌++◌, refl, sym, ap}
use Rattle.std.proofs.Common.{Option, None, Some, option_map, option_and_then, if◌then◌else◌, codes, length, Result, Ok, Err, MatchResult, subst}
use Rattle.std.specs.Prelude.{nat_lt, nat_le, unwrap_or}
use Rattle.std.specs.List.{list_all, AllByRecursion}
use Rattle.std.proofs.lemmas.Bool.{and_parts, ltb-true}
use Rattle.std.proofs.lemmas.Option.{none-some, cond_some}
use Rattle.toml.specs.Data.{Data, string, integer, float, boolean, datetime, array, table as table_data, Items, no_items, item, Members, as_str, get_member}
use Rattle.toml.specs.Parse.{parse_document}
use Rattle.ch11_setup.specs.Attributes.{AttributeData, attribute_of, cut_at, Lacks}
use Rattle.rec_words.specs.Settings.{Fault, syntax, missing, only}
use Rattle.rec_words.specs.ReservedNames.{is_reserved}
use Rattle.rec_words.specs.SetupFile.{GeneralData, FileData, file_keys, text_or, truth_or, unknown_scale, origins_in}
use Rattle.rec_words.specs.SetupFile.{is_attribute_byte, attribute_with, attribute_said, attributes_said}
use Rattle.rec_words.specs.SetupFile.{all_attributes, attributes_of, attributes_in, setup_channels_in, CanBeAdded}
use Rattle.rec_words.specs.SetupFile.{recordings_of, general_in, file_by, file_in, setup_file}
use Rattle.rec_words.proofs.KeysRead.{then_says}
use Rattle.rec_words.proofs.ReservedRead.{cut_parts, reserved_from}

-- ---- bytes

-- what is cut off in front has no such byte
cut_lacks : (mark : ℕ) (text front rest : List ℕ) → cut_at mark text ≡ Some (front, rest) → Lacks mark front
cut_lacks mark [] front rest e = absurd (none-some (front, rest) e)
cut_lacks mark (byte ∷ text) front rest e = here (byte == mark) refl (cut_at mark text) (λ f r. cut_lacks mark text f r) e
  where
    fronts : (one two : List ℕ × List ℕ) → Some one ≡ Some two → one.0 ≡ two.0
    fronts one two e = ap (λ (p : List ℕ × List ℕ). p.0) (cond_some true one two e).1

    here : (is : Bool) → (byte == mark) ≡ is → (found : Option (List ℕ × List ℕ)) → ((f r : List ℕ) → found ≡ Some (f, r) → Lacks mark f)
        → (if is then Some ([], text) else option_map {U = List ℕ × List ℕ} (λ parts. (byte ∷ parts.0, parts.1)) found) ≡ Some (front, rest)
        → Lacks mark front
    here true is found later e = subst (Lacks mark) (fronts ([], text) (front, rest) e) tt
    here false is None later e = absurd (none-some (front, rest) e)
    here false is (Some parts) later e =
        subst (Lacks mark) (fronts (byte ∷ parts.0, parts.1) (front, rest) e) (is, later parts.0 parts.1 refl)

-- bytes that may stand in an attribute are no semicolons
no_semicolon : (byte : ℕ) → is_attribute_byte byte ≡ true → (byte == 59) ≡ false
no_semicolon byte h = by (byte == 59) (and_parts (nat_le 32 byte && nat_le byte 126) (not (byte == 59)) h).1
  where
    by : (is : Bool) → not is ≡ true → is ≡ false
    by true h = absurd (true≢false (sym h))
    by false h = refl

bytes_lack : (text : List ℕ) → list_all is_attribute_byte text ≡ true → Lacks 59 text
bytes_lack [] h = tt
bytes_lack (byte ∷ text) h =
    let parts = and_parts (is_attribute_byte byte) (list_all is_attribute_byte text) h in
    (no_semicolon byte parts.0, bytes_lack text parts.1)

lack_parts : (front : List ℕ) (byte : ℕ) (rest : List ℕ) → Lacks 59 (front ++ byte ∷ rest) → Lacks 59 front × Lacks 59 rest
lack_parts [] byte rest h = (tt, h.1)
lack_parts (first ∷ front) byte rest h = let later = lack_parts front byte rest h.1 in ((h.0, later.0), later.1)

-- ---- attributes

some_is : {A : Type 0} (one two : A) → Some one ≡ Some two → one ≡ two
some_is one two e = (cond_some true one two e).1

with_is : (parts : List ℕ × List ℕ) (attribute : AttributeData) → Lacks 59 parts.0 → Lacks 59 parts.1 → Lacks 58 parts.0
    → attribute_with parts ≡ Some attribute → CanBeAdded attribute
with_is parts attribute ends value_ends colon e =
    by (nat_lt 0 (length parts.0) && not (is_reserved parts.0)) refl e
  where
    not_false : (is : Bool) → not is ≡ true → is ≡ true → ⊥
    not_false true e is = true≢false (sym e)
    not_false false e is = true≢false (sym is)

    by : (is : Bool) → (nat_lt 0 (length parts.0) && not (is_reserved parts.0)) ≡ is
        → (if is then Some (attribute_of parts.0 parts.1) else None) ≡ Some attribute → CanBeAdded attribute
    by false is e = absurd (none-some attribute e)
    by true is e =
        let both = and_parts (nat_lt 0 (length parts.0)) (not (is_reserved parts.0)) is in
        subst CanBeAdded (some_is (attribute_of parts.0 parts.1) attribute e) (
          record { some = ltb-true 0 (length parts.0) both.0; name = colon; name_ends = ends; value = value_ends },
          λ reserved. not_false (is_reserved parts.0) both.1 (reserved_from parts.0 reserved),
        )

pub said_is : (text : List ℕ) (attribute : AttributeData) → attribute_said text ≡ Some attribute → CanBeAdded attribute
said_is text attribute e = by (list_all is_attribute_byte text) refl e
  where
    cut : (found : Option (List ℕ × List ℕ)) → cut_at 58 text ≡ found → Lacks 59 text → option_and_then attribute_with found ≡ Some attribute
        → CanBeAdded attribute
    cut None is lacks e = absurd (none-some attribute e)
    cut (Some parts) is lacks e =
        let both = lack_parts parts.0 58 parts.1 (subst (Lacks 59) (cut_parts 58 text parts.0 parts.1 is) lacks) in
        with_is parts attribute both.0 both.1 (cut_lacks 58 text parts.0 parts.1 is) e

    by : (is : Bool) → list_all is_attribute_byte text ≡ is
        → (if is then option_and_then attribute_with (cut_at 58 text) else None) ≡ Some attribute → CanBeAdded attribute
    by false is e = absurd (none-some attribute e)
    by true is e = cut (cut_at 58 text) refl (bytes_lack text is) e

abbrev AllCan : List AttributeData → Type 0
AllCan attributes = AllByRecursion CanBeAdded attributes

items_can : (items : Items) (attributes : List AttributeData) → attributes_said items ≡ Some attributes → AllCan attributes
items_can no_items attributes e = subst AllCan (some_is [] attributes e) tt
items_can (item d items) attributes e =
    by (as_str d) (attributes_said items) (λ rest same. items_can items rest same) e
  where
    both : (first : Option AttributeData) (rest : Option (List AttributeData)) → ((a : AttributeData) → first ≡ Some a → CanBeAdded a)
        → ((others : List AttributeData) → rest ≡ Some others → AllCan others)
        → option_and_then (λ a. option_map (λ others. a ∷ others) rest) first ≡ Some attributes → AllCan attributes
    both None rest one later e = absurd (none-some attributes e)
    both (Some a) None one later e = absurd (none-some attributes e)
    both (Some a) (Some others) one later e = subst AllCan (some_is (a ∷ others) attributes e) (one a refl, later others refl)

    first_can : (text : Option (List ℕ)) (a : AttributeData) → option_and_then attribute_said text ≡ Some a → CanBeAdded a
    first_can None a e = absurd (none-some a e)
    first_can (Some text) a e = said_is text a e

    by : (text : Option (List ℕ)) (rest : Option (List AttributeData)) → ((others : List AttributeData) → rest ≡ Some others → AllCan others)
        → option_and_then (λ a. option_map (λ others. a ∷ others) rest) (option_and_then attribute_said text) ≡ Some attributes → AllCan attributes
    by text rest later e = both (option_and_then attribute_said text) rest (λ a same. first_can text a same) later e

-- ---- the document

abbrev Any : Fault → Type 0
Any fault = Unit {0}

anything : {A : Type 0} (r : Result A Fault) → MatchResult r (λ _. Unit {0}) Any
anything (Ok a) = tt
anything (Err f) = tt

all_can : (found : Option (List AttributeData)) → ((others : List AttributeData) → found ≡ Some others → AllCan others)
    → MatchResult (all_attributes found) AllCan Any
all_can None can = tt
all_can (Some others) can = can others refl

data_can : (d : Data) → MatchResult (attributes_of d) AllCan Any
data_can (array items) = all_can (attributes_said items) (λ others e. items_can items others e)
data_can (string t) = tt
data_can (integer n) = tt
data_can (float f) = tt
data_can (boolean b) = tt
data_can (datetime t) = tt
data_can (table_data ms) = tt

attributes_can : (m : Members) → MatchResult (attributes_in m) AllCan Any
attributes_can m = by (get_member (codes "attributes") m)
  where
    by : (found : Option Data) → MatchResult (unwrap_or (option_map attributes_of found) (Ok [])) AllCan Any
    by None = tt
    by (Some d) = data_can d

abbrev GeneralCan : GeneralData → Type 0
GeneralCan general = AllCan general.attributes

general_can : (m : Members) → MatchResult (general_in m) GeneralCan Any
general_can m =
    then_says GeneralCan (text_or (codes "bpfrec") (codes "host") m) _ (anything (text_or (codes "bpfrec") (codes "host") m)) (λ host _.
    then_says GeneralCan (text_or (codes "bpfrec") (codes "program") m) _ (anything (text_or (codes "bpfrec") (codes "program") m)) (λ program _.
    then_says GeneralCan (truth_or false (codes "external") m) _ (anything (truth_or false (codes "external") m)) (λ is_external _.
    then_says GeneralCan (attributes_in m) _ (attributes_can m) (λ attributes can. can)
    (λ f _. tt)) (λ f _. tt)) (λ f _. tt)) (λ f _. tt)

abbrev FileCan : FileData → Type 0
FileCan file = GeneralCan file.general

file_can : (count : ℕ) (m : Members) → MatchResult (file_in count m) FileCan Any
file_can count m =
    then_says FileCan (only file_keys m) _ (anything (only file_keys m)) (λ ms _.
    then_says FileCan (unknown_scale m) _ (anything (unknown_scale m)) (λ unknown _. by unknown (get_member (codes "recording") m))
    (λ f _. tt)) (λ f _. tt)
  where
    by : (unknown : Option ℕ) (found : Option Data) → MatchResult (file_by count unknown m found) FileCan Any
    by unknown None =
        let alone = if count == 1 then Ok count else Err (missing (codes "recording")) in
        then_says FileCan alone _ (anything alone) (λ n _.
        then_says FileCan (origins_in unknown m) _ (anything (origins_in unknown m)) (λ origins _.
        then_says FileCan (general_in m) _ (general_can m) (λ general can.
        then_says FileCan (setup_channels_in m) _ (anything (setup_channels_in m)) (λ channels _. can)
        (λ f _. tt)) (λ f _. tt)) (λ f _. tt)) (λ f _. tt)
    by unknown (Some d) =
        then_says FileCan (recordings_of count unknown m d) _ (anything (recordings_of count unknown m d)) (λ recordings _.
        then_says FileCan (general_in m) _ (general_can m) (λ general can. can)
        (λ f _. tt)) (λ f _. tt)

pub added_can : (count : ℕ) (text : List ℕ) (file : FileData) → setup_file count text ≡ Ok file → AllByRecursion CanBeAdded file.general.attributes
added_can count text file is = by (parse_document text) is
  where
    by : (found : Option Members) → unwrap_or (option_map (file_in count) found) (Err syntax) ≡ Ok file → AllCan file.general.attributes
    by None e = absurd (err_ok e)
      where
        err_ok : Err syntax ≡ Ok file → ⊥
        err_ok e = cc
    by (Some m) e = subst (λ r. MatchResult r FileCan Any) e (file_can count m)
