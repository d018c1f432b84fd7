-- Loops over the tables and the texts of a file's setup; texts that are cut in two.
-- idea: what is left of a list gives the rest of what the whole list gives, so each step moves one element from what is left
-- to what was read.
use Rattle.std.proofs.Common.{ℕ, ◌≡◌, ◌≢◌, ◌⊎◌, inl, inr, Bool, ◌<◌, ◌≤◌, ◌+◌, suc, true, false, ◌==◌, List, [], ◌∷◌, ◌++◌, map}
use Rattle.std.proofs.Common.{drop, length, get_or, refl, sym, ap, ◌∙◌, Option, None, Some, option_map, option_and_then, Bor, arith}
use Rattle.std.proofs.Common.{Result, Ok, Err, MatchOption, codes, rules}
use Rattle.std.proofs.lemmas.List.{append_assoc, drop_all, length_push, map-append}
use Rattle.std.proofs.lemmas.Option.{cond_some}
use Rattle.std.proofs.lemmas.Bool.Decides.{nat_tests}
use Rattle.std.proofs.lemmas.Str.Pattern.{IsSplitOnceResult, split_parts}
use Rattle.toml.specs.Data.{Data, Items, Members, as_array, as_table, as_str}
use Rattle.toml.specs.View.{view, items_view}
use Rattle.toml.specs.declared.value.Value.{Value}
use Rattle.toml.proofs.Views.{items_view-drop}
use Rattle.ch11_setup.specs.Attributes.{AttributeData, cut_at}
use Rattle.rec_words.specs.declared.setup_file.AddedAttribute.{AddedAttribute}
use Rattle.rec_words.specs.Settings.{Fault, value, ◌>>=◌, tables_in}
use Rattle.rec_words.specs.SetupFile.{each_after, tables_of, most_origins, enough_origins, origin_in, noted_origins}
use Rattle.rec_words.specs.SetupFile.{attributes_said, attribute_said, recordings_of, recording_in, stands_alone}
use Rattle.rec_words.specs.SetupViews.{attribute_data}
use Rattle.rec_words.proofs.SettingsRead.{array_of, table_here}

-- ---- tables

-- a list of tables
pub tables_listed : (key : List ℕ) (d : Data) (items : Items) (tables : List Members) → Some items ≡ as_array d → tables_in items ≡ Some tables
    → tables_of key d ≡ Ok tables
tables_listed key d items tables listed all = rw (array_of d items (sym listed), all)

module _ {B : Type 0} (read : List B → Members → Result B Fault) (tables : List Members) where
  -- these values are tables, and what is read of them behind these is what is read of all
  abbrev pub IsLeft : (before : List B) → List Value → Type 0
  IsLeft before values =
      (rest : List Members) × (tables_in (items_view values) ≡ Some rest) × (each_after read [] tables ≡ each_after read before rest)

  -- the next of them
  next_table : (before : List B) (values : List Value) (k : ℕ) (v : Value) (table : Members) → k < length values → v ≡ get_or values k v
      → Some table ≡ as_table (view v) → IsLeft before (drop k values)
      → (others : List Members) × (tables_in (items_view (drop (k + 1) values)) ≡ Some others)
      × (each_after read [] tables ≡ (read before table >>= (λ found. each_after read (before ++ found ∷ []) others)))
  next_table before values k v table h same is left =
      let here = table_here values k v left.0 h same left.1 in
      let first : table ≡ here.0 = (cond_some true table here.0 (is ∙ here.2)).1 in
      (here.1, here.3, left.2 ∙ ap (λ ts. each_after read before ts) (here.4 ∙ ap (λ t. t ∷ here.1) (sym first)))

  -- one more was read
  pub left_more : (before : List B) (values : List Value) (k : ℕ) (v : Value) (table : Members) (found : B) → k < length values
      → v ≡ get_or values k v → Some table ≡ as_table (view v) → read before table ≡ Ok found → IsLeft before (drop k values)
      → IsLeft (before ++ found ∷ []) (drop (k + 1) values)
  left_more before values k v table found h same is e left =
      let next = next_table before values k v table h same is left in
      (next.0, next.1, next.2 ∙ ap (λ r. r >>= (λ one. each_after read (before ++ one ∷ []) next.0)) e)

  -- the next has a fault
  pub left_fault : (before : List B) (values : List Value) (k : ℕ) (v : Value) (table : Members) (fault : Fault) → k < length values
      → v ≡ get_or values k v → Some table ≡ as_table (view v) → IsLeft before (drop k values) → read before table ≡ Err fault
      → each_after read [] tables ≡ Err fault
  left_fault before values k v table fault h same is left e =
      let next = next_table before values k v table h same is left in
      next.2 ∙ ap (λ r. r >>= (λ one. each_after read (before ++ one ∷ []) next.0)) e

  -- all were read
  pub left_none : (before : List B) (values : List Value) (k : ℕ) → length values ≤ k → IsLeft before (drop k values)
      → each_after read [] tables ≡ Ok before
  left_none before values k h left =
      let none : [] ≡ left.0 = (cond_some true [] left.0 (rw (drop_all k values h) at left.1)).1 in
      left.2 ∙ ap (λ rest. each_after read before rest) (sym none)

-- ---- origins

-- one more than so many
pub length_more : {A : Type 0} (xs : List A) (x : A) (k : ℕ) → length xs ≡ k → length (xs ++ x ∷ []) ≡ k + 1
length_more xs x k e = length_push xs x ∙ ap (λ n. n + 1) e

-- there are no origins in no tables, and none in too many
pub no_origins : (unknown : Option ℕ) (d : Data) (tables : List Members) (n : ℕ) → tables_of (codes "origins") d ≡ Ok tables → length tables ≡ n → n ≡ 0
    → noted_origins unknown d ≡ Err (value (codes "origins"))
no_origins unknown d tables n of e none = rw (of, e, none)

pub too_many_origins : (unknown : Option ℕ) (d : Data) (tables : List Members) (n : ℕ) → tables_of (codes "origins") d ≡ Ok tables → length tables ≡ n
    → most_origins < n
    → noted_origins unknown d ≡ Err (value (codes "origins"))
too_many_origins unknown d tables n of e many = rw (of, e) (search rules)

-- else they are those of the tables
pub origins_of_tables : (unknown : Option ℕ) (d : Data) (tables : List Members) (n : ℕ) → tables_of (codes "origins") d ≡ Ok tables → length tables ≡ n → 0 < n
    → n ≤ most_origins → noted_origins unknown d ≡ each_after (λ _ members. origin_in unknown members) [] tables
origins_of_tables unknown d tables n of e some few =
    rw of (ap (λ r. r >>= (λ ts. each_after (λ _ members. origin_in unknown members) [] ts)) (enough tables n e some few))
  where
    enough : (tables : List Members) (n : ℕ) → length tables ≡ n → 0 < n → n ≤ most_origins → enough_origins tables ≡ Ok tables
    enough tables n e some few = rw e (search rules)

-- ---- recordings

module _ (count : ℕ) (unknown : Option ℕ) (m : Members) (d : Data) (tables : List Members) (n : ℕ) (of : tables_of (codes "recording") d ≡ Ok tables)
    (as_many : length tables ≡ n) where
  -- there are no recordings in another number of tables, and none in tables that don't stand alone
  pub not_recordings : (n ≢ count) ⊎ (stands_alone m ≡ false) → recordings_of count unknown m d ≡ Err (value (codes "recording"))
  not_recordings (inl other) =
      let not : (length tables == count) ≡ false = grind (arith, nat_tests, as_many, other) in
      rw (of, not) refl
  not_recordings (inr beside) = by (length tables == count) refl
    where
      by : (is : Bool) → (length tables == count) ≡ is → recordings_of count unknown m d ≡ Err (value (codes "recording"))
      by true e = rw (of, e, beside) refl
      by false e = rw (of, e) refl

  -- else they are those of the tables
  pub recordings_of_tables : n ≡ count → stands_alone m ≡ true → recordings_of count unknown m d ≡ each_after (recording_in unknown) [] tables
  recordings_of_tables same alone =
      let is : (length tables == count) ≡ true = grind (arith, nat_tests, as_many, same) in
      rw (of, is, alone) refl

-- ---- attributes

-- one ahead of those that follow
ahead : (before : List AttributeData) (attribute : AttributeData) (rest : Option (List AttributeData))
    → option_map (λ others. before ++ others) (option_map (λ others. attribute ∷ others) rest)
    ≡ option_map (λ others. (before ++ attribute ∷ []) ++ others) rest
ahead before attribute None = refl
ahead before attribute (Some others) = ap Some (sym (append_assoc before (attribute ∷ []) others))

-- the text of one more was read
pub said_more : (values : List Value) (k : ℕ) (v : Value) (before after : List AddedAttribute) (one : AddedAttribute) (attribute : AttributeData)
    → k < length values → v ≡ get_or values k v → after ≡ before ++ one ∷ [] → attribute_data one ≡ attribute
    → Some attribute ≡ option_and_then attribute_said (as_str (view v))
    → attributes_said (items_view values) ≡ option_map (λ others. map attribute_data before ++ others) (attributes_said (items_view (drop k values)))
    → attributes_said (items_view values)
    ≡ option_map (λ others. map attribute_data after ++ others) (attributes_said (items_view (drop (k + 1) values)))
said_more values k v before after one attribute h same pushed is said sofar =
    let rest = attributes_said (items_view (drop (k + 1) values)) in
    let here : attributes_said (items_view (drop k values)) ≡ option_map (λ others. attribute ∷ others) rest =
    ap attributes_said (items_view-drop values k v h)
    ∙ ap (λ a. option_and_then (λ a. option_map (λ others. a ∷ others) rest) (option_and_then attribute_said (as_str (view a)))) (sym same)
    ∙ ap (λ a. option_and_then (λ a. option_map (λ others. a ∷ others) rest) a) (sym said) in
    let all : map attribute_data after ≡ map attribute_data before ++ attribute ∷ [] = ap (map attribute_data) pushed
    ∙ map-append attribute_data before (one ∷ []) ∙ ap (λ a. map attribute_data before ++ a ∷ []) is in
    sofar ∙ ap (option_map (λ others. map attribute_data before ++ others)) here ∙ ahead (map attribute_data before) attribute rest
    ∙ ap (λ found. option_map (λ others. found ++ others) rest) (sym all)

-- ---- texts in two parts

abbrev Lacking : ℕ → List ℕ → Type 0
Lacking mark text = (i : ℕ) → i < length text → get_or text i 0 ≢ mark

lacking_more : (mark byte : ℕ) (text : List ℕ) → Lacking mark (byte ∷ text) → ((byte == mark) ≡ false) × Lacking mark text
lacking_more mark byte text lacks =
    let first : byte ≢ mark = lacks 0 (omega arith) in
    (grind (arith, nat_tests, first), λ i h. lacks (suc i) (omega (arith, h)))

cut_found : (mark : ℕ) (front rest : List ℕ) → Lacking mark front → cut_at mark (front ++ mark ∷ rest) ≡ Some (front, rest)
cut_found mark [] rest lacks = let same : (mark == mark) ≡ true = grind (arith, nat_tests) in rw same refl
cut_found mark (byte ∷ front) rest lacks =
    let more = lacking_more mark byte front lacks in
    rw (more.0, cut_found mark front rest more.1) refl

cut_none : (mark : ℕ) (text : List ℕ) → Lacking mark text → cut_at mark text ≡ None
cut_none mark [] lacks = refl
cut_none mark (byte ∷ text) lacks =
    let more = lacking_more mark byte text lacks in
    rw (more.0, cut_none mark text more.1) refl

cut_by : (mark : ℕ) (text : List ℕ) (found : Option (Bor (List ℕ) × Bor (List ℕ)))
    → MatchOption found (Lacking mark text) (λ x. (text ≡ x.0.now ++ (mark ∷ x.1.now)) × Lacking mark x.0.now)
    → option_map (λ parts. (parts.0.now, parts.1.now)) found ≡ cut_at mark text
cut_by mark text None says = sym (cut_none mark text says)
cut_by mark text (Some x) says = sym (ap (cut_at mark) says.0 ∙ cut_found mark x.0.now x.1.now says.1)

-- what `split_once` gives
pub cut_of_split : (mark : ℕ) (text : List ℕ) (found : Option (Bor (List ℕ) × Bor (List ℕ))) → IsSplitOnceResult mark text found → mark < 128
    → option_map (λ parts. (parts.0.now, parts.1.now)) found ≡ cut_at mark text
cut_of_split mark text found is small = cut_by mark text found (split_parts mark text found is small)
