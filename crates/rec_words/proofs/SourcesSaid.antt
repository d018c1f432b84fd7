-- What a text may add names no data source.
use Rattle.std.proofs.Common.{ℕ, ◌≡◌, inl, inr, Bool, true, false, true≢false, List, [], ◌∷◌, ◌++◌, map, refl, sym, ap, subst, ◌∙◌, codes, ◌==◌}
use Rattle.std.specs.Prelude.{bytes_eq, Ok}
use Rattle.std.specs.List.{AllByRecursion}
use Rattle.std.proofs.lemmas.Bool.{cases_Bool, and_parts, eqb-true}
use Rattle.std.proofs.lemmas.Slice.Eq.{bytes_eq-Decides}
use Rattle.ch11_setup.specs.declared.setup.Setup.{Setup}
use Rattle.ch11_setup.specs.declared.attribute.Attribute.{Attribute}
use Rattle.ch11_setup.specs.Attributes.{AttributeData, AreAttributes}
use Rattle.ch11_setup.specs.Setups.{given_attribute, given_attributes, is_test_name, setup_attributes}
use Rattle.ch11_setup.specs.Sources.{has_front, begins_so, is_named_so, HasNoneOf, NamesNoSource, SaysSources}
use Rattle.rec_words.specs.ReservedNames.{IsReserved, is_reserved}
use Rattle.rec_words.specs.SetupFile.{FileData, setup_file, CanBeAdded}
use Rattle.rec_words.proofs.ReservedRead.{same_names}
use Rattle.rec_words.proofs.AddedRead.{added_can}

abbrev AllCan : List Attribute → Type 0
AllCan attributes = AllByRecursion CanBeAdded (map given_attribute attributes)

-- ---- names

front_splits : (front name : List ℕ) → has_front front name ≡ true → (rest : List ℕ) × (name ≡ front ++ rest)
front_splits [] name e = (name, refl)
front_splits (byte ∷ front) [] e = absurd (true≢false (sym e))
front_splits (byte ∷ front) (other ∷ name) e =
    let both = and_parts (byte == other) (has_front front name) e in
    let rest = front_splits front name both.1 in
    (rest.0, ap (λ b. b ∷ name) (sym (eqb-true byte other both.0)) ∙ ap (λ l. byte ∷ l) rest.1)

-- an attribute whose name isn't reserved has none that begins so, where each that does is reserved
begins_not : (front : List ℕ) → ((rest : List ℕ) → is_reserved (front ++ rest) ≡ true) → (attribute : AttributeData) → (IsReserved attribute.name → ⊥)
    → begins_so front attribute ≡ false
begins_not front all attribute free = elim (cases_Bool (has_front front attribute.name)) as (λ _. has_front front attribute.name ≡ false) [
  | inl on ↦
      let rest = front_splits front attribute.name on in
      absurd (free ((same_names attribute.name).0 (subst (λ name. is_reserved name ≡ true) (sym rest.1) (all rest.0))))
  | inr off ↦ off
]

named_not : (name : List ℕ) → is_reserved name ≡ true → (attribute : AttributeData) → (IsReserved attribute.name → ⊥)
    → is_named_so name attribute ≡ false
named_not name reserved attribute free = elim (cases_Bool (bytes_eq attribute.name name)) as (λ _. bytes_eq attribute.name name ≡ false) [
  | inl on ↦
      let same = (bytes_eq-Decides attribute.name name).0 on in
      absurd (free ((same_names attribute.name).0 (subst (λ n. is_reserved n ≡ true) (sym same) reserved)))
  | inr off ↦ off
]

-- ---- what is given

none_given : (is_one : AttributeData → Bool) → ((attribute : AttributeData) → (IsReserved attribute.name → ⊥) → is_one attribute ≡ false)
    → (attributes : List Attribute) → AllCan attributes → HasNoneOf is_one (given_attributes attributes)
none_given is_one each [] can = tt
none_given is_one each (attribute ∷ attributes) can =
    elim (cases_Bool (is_test_name attribute)) as (λ _. HasNoneOf is_one (given_attributes (attribute ∷ attributes))) [
      | inl on ↦ rw on (none_given is_one each attributes can.1)
      | inr off ↦ rw off (each (given_attribute attribute) can.0.1, none_given is_one each attributes can.1)
    ]

no_source : (attributes : List Attribute) → AllCan attributes → NamesNoSource (given_attributes attributes)
no_source attributes can = record {
  count = none_given _ (named_not (codes "R-1\\N") refl) attributes can;
  numbers = none_given _ (begins_not (codes "R-1\\TK1-") (λ rest. refl)) attributes can;
  types = none_given _ (begins_not (codes "R-1\\CDT-") (λ rest. refl)) attributes can;
  names = none_given _ (begins_not (codes "R-1\\DSI-") (λ rest. refl)) attributes can;
  networks = none_given _ (begins_not (codes "R-1\\ENBR-") (λ rest. refl)) attributes can;
  network_names = none_given _ (begins_not (codes "R-1\\ENAM-") (λ rest. refl)) attributes can;
}

are_attributes : (attributes : List AttributeData) → AllByRecursion CanBeAdded attributes → AreAttributes attributes
are_attributes [] can = tt
are_attributes (attribute ∷ attributes) can = (can.0.0, are_attributes attributes can.1)

-- ---- a text's file

abbrev pub NamesSources : Type 0
NamesSources = (setup : Setup) → NamesNoSource (given_attributes setup.attributes.now) → SaysSources setup (setup_attributes setup)

module _ (named : NamesSources) (count : ℕ) (text : List ℕ) (file : FileData) (setup : Setup)
    (is : setup_file count text ≡ Ok file) (added : map given_attribute setup.attributes.now ≡ file.general.attributes) where
  can : AllCan setup.attributes.now
  can = subst (AllByRecursion CanBeAdded) (sym added) (added_can count text file is)

  pub given_are : AreAttributes (map given_attribute setup.attributes.now)
  given_are = are_attributes (map given_attribute setup.attributes.now) can

  pub sources_are : SaysSources setup (setup_attributes setup)
  sources_are = named setup (no_source setup.attributes.now can)
