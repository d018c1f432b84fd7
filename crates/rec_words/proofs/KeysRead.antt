-- What is read of the keys of a table, and what is wrong with the first that is.
-- idea: a key is looked up in a table, and what is found is a number in range, a text, or neither; each case of the lookup
-- is one case of what the format says of a key.
use Rattle.std.proofs.Common.{ℕ, ◌≡◌, ◌≤◌, inl, inr, Bool, true, false, true≢false, List, [], ◌∷◌, All, Option}
use Rattle.std.proofs.Common.{None, Some, Result, Ok, Err, MatchResult, refl, sym, ap, ◌∙◌, arith}
use Rattle.std.specs.Prelude.{pos, negsuc, nat_le, ◌&&◌, if◌then◌else◌, option_map, unwrap_or, bytes_eq}
use Rattle.std.proofs.lemmas.Slice.Eq.{bytes_eq-Decides}
use Rattle.std.proofs.lemmas.Bool.{le-leb, leb-true, and_from, and_parts}
use Rattle.std.proofs.lemmas.List.Elements.{All-nil, All-cons, All-head, All-tail}
use Rattle.std.proofs.lemmas.List.Folds.{Any-from_list_any, list_any-from_Any}
use Rattle.toml.specs.Data.{Data, string, integer, float, boolean, datetime, array, table as table_data, Members, get_member}
use Rattle.rec_words.specs.Settings.{Fault, unknown, missing, value, ◌>>=◌, keys_of, is_among, other_key, only, number_in, text_in, required, number_or}
use Rattle.rec_words.specs.Format.{KeyKind, of_number, of_text, IsOfKind, IsWell, IsWrong, IsOneOfNames, HasOnly, IsFirstOther, IsNumber}

-- ---- results

-- a weaker fact of each outcome
pub outcome : {A : Type 0} {P R : A → Type 0} {Q U : Fault → Type 0} (r : Result A Fault) → ((a : A) → P a → R a) → ((f : Fault) → Q f → U f)
    → MatchResult r P Q → MatchResult r R U
outcome (Ok a) ok err says = ok a says
outcome (Err f) ok err says = err f says

-- what is read of one thing and then of another
pub then_says : {A B : Type 0} {P : A → Type 0} {Q U : Fault → Type 0} (R : B → Type 0) (r : Result A Fault) (next : A → Result B Fault) → MatchResult r P Q
    → ((a : A) → P a → MatchResult (next a) R U) → ((f : Fault) → Q f → U f) → MatchResult (r >>= next) R U
then_says R (Ok a) next says ok err = ok a says
then_says R (Err f) next says ok err = err f says

pub then_ok : {A B : Type 0} (r : Result A Fault) (a : A) (next : A → Result B Fault) (out : Result B Fault) → r ≡ Ok a → next a ≡ out → (r >>= next) ≡ out
then_ok r a next out is rest = ap (λ x. x >>= next) is ∙ rest

-- ---- names

pub among : (known : List (List ℕ)) (name : List ℕ) → is_among known name ≡ true → IsOneOfNames known name
among known name e =
    let any = Any-from_list_any (λ one. bytes_eq one name) known e in
    (any.0, any.1, any.2, any.3, (bytes_eq-Decides any.1 name).0 any.4)

pub is_one : (known : List (List ℕ)) (name : List ℕ) → IsOneOfNames known name → is_among known name ≡ true
is_one known name any = list_any-from_Any (λ one. bytes_eq one name) known (any.0, any.1, any.2, any.3, (bytes_eq-Decides any.1 name).1 any.4)

not_one : (known : List (List ℕ)) (name : List ℕ) → is_among known name ≡ false → ¬ IsOneOfNames known name
not_one known name e any = true≢false (sym (is_one known name any) ∙ e)

-- the first other name of a list, if it has one
abbrev NamesSay : (known names : List (List ℕ)) → Option (List ℕ) → Type 0
NamesSay known names None = All (IsOneOfNames known) names
NamesSay known names (Some name) = IsFirstOther known names name

names_more : (known : List (List ℕ)) (first : List ℕ) (names : List (List ℕ)) (found : Option (List ℕ)) → IsOneOfNames known first → NamesSay known names found
    → NamesSay known (first ∷ names) found
names_more known first names None is says = All-cons (IsOneOfNames known) first names is says
names_more known first names (Some name) is says = record {
  before = first ∷ says.before;
  after = says.after;
  names_are = ap (λ ns. first ∷ ns) says.names_are;
  known_before = All-cons (IsOneOfNames known) first says.before is says.known_before;
  other = says.other;
}

names_here : (known : List (List ℕ)) (first : List ℕ) (names : List (List ℕ)) (is : Bool) → is_among known first ≡ is
    → NamesSay known names (other_key known names) → NamesSay known (first ∷ names) (if is then other_key known names else Some first)
names_here known first names true e says = names_more known first names (other_key known names) (among known first e) says
names_here known first names false e says = record {
  before = [];
  after = names;
  names_are = refl;
  known_before = All-nil (IsOneOfNames known);
  other = not_one known first e;
}

names_say : (known names : List (List ℕ)) → NamesSay known names (other_key known names)
names_say known [] = All-nil (IsOneOfNames known)
names_say known (name ∷ names) = names_here known name names (is_among known name) refl (names_say known names)

only_by : (known : List (List ℕ)) (members : Members) (found : Option (List ℕ)) → NamesSay known (keys_of members) found
    → MatchResult (unwrap_or (option_map (λ key. Err (unknown key)) found) (Ok members)) (λ m. HasOnly known members) (λ f. (name : List ℕ)
    × IsFirstOther known (keys_of members) name × (f ≡ unknown name))
only_by known members None says = says
only_by known members (Some name) says = (name, says, refl)

-- whether a table has only the known keys
pub only_says : (known : List (List ℕ)) (members : Members) → MatchResult (only known members) (λ m. HasOnly known members) (λ f. (name : List ℕ)
    × IsFirstOther known (keys_of members) name × (f ≡ unknown name))
only_says known members = only_by known members (other_key known (keys_of members)) (names_say known (keys_of members))

no_other : (known names : List (List ℕ)) → All (IsOneOfNames known) names → other_key known names ≡ None
no_other known [] all = refl
no_other known (name ∷ names) all =
    ap (λ b. if b then other_key known names else Some name) (is_one known name (All-head (IsOneOfNames known) name names all))
    ∙ no_other known names (All-tail (IsOneOfNames known) name names all)

pub only_ok : (known : List (List ℕ)) (members : Members) → HasOnly known members → only known members ≡ Ok members
only_ok known members has = ap (λ found. unwrap_or (option_map (λ key. Err (unknown key)) found) (Ok members)) (no_other known (keys_of members) has)

-- ---- values

-- a value is what is asked, or of another kind
abbrev pub ValueSays : {A : Type 0} → KeyKind → List ℕ → Data → (Data → A → Type 0) → Result A Fault → Type 0
ValueSays kind name found Has r = MatchResult r (Has found) (λ f. (¬ IsOfKind kind found) × (f ≡ value name))

abbrev pub HasNumber : (least most : ℕ) → Data → ℕ → Type 0
HasNumber least most found n = (found ≡ integer (pos n)) × (least ≤ n) × (n ≤ most)

abbrev pub HasText : Data → List ℕ → Type 0
HasText found written = found ≡ string written

abbrev whole : Data → ℕ
whole (integer (pos n)) = n
whole _ = 0

in_range : (least most n : ℕ) (name : List ℕ) (is : Bool) → (nat_le least n && nat_le n most) ≡ is
    → ValueSays (of_number least most) name (integer (pos n)) (HasNumber least most) (if is then Ok n else Err (value name))
in_range least most n name true e =
    let parts = and_parts (nat_le least n) (nat_le n most) e in
    (refl, leb-true least n parts.0, leb-true n most parts.1)
in_range least most n name false e = (
  λ (k, same, low, high).
      let is : n ≡ k = ap whole same in
      true≢false (sym (and_from (nat_le least n) (nat_le n most) (le-leb least n (omega (arith, is, low))) (le-leb n most (omega (arith, is, high)))) ∙ e),
  refl,
)

pub number_says : (least most : ℕ) (name : List ℕ) (found : Data)
    → ValueSays (of_number least most) name found (HasNumber least most) (number_in least most name found)
number_says least most name (integer (pos n)) = in_range least most n name (nat_le least n && nat_le n most) refl
number_says least most name (integer (negsuc n)) = (λ (k, same, low, high). cc, refl)
number_says least most name (string t) = (λ (k, same, low, high). cc, refl)
number_says least most name (float f) = (λ (k, same, low, high). cc, refl)
number_says least most name (boolean b) = (λ (k, same, low, high). cc, refl)
number_says least most name (datetime t) = (λ (k, same, low, high). cc, refl)
number_says least most name (array items) = (λ (k, same, low, high). cc, refl)
number_says least most name (table_data ms) = (λ (k, same, low, high). cc, refl)

text_says : (name : List ℕ) (found : Data) → ValueSays of_text name found HasText (text_in name found)
text_says name (string t) = refl
text_says name (integer n) = (λ (t, same). cc, refl)
text_says name (float f) = (λ (t, same). cc, refl)
text_says name (boolean b) = (λ (t, same). cc, refl)
text_says name (datetime d) = (λ (t, same). cc, refl)
text_says name (array items) = (λ (t, same). cc, refl)
text_says name (table_data ms) = (λ (t, same). cc, refl)

number_here : (least most n : ℕ) (name : List ℕ) → least ≤ n → n ≤ most → number_in least most name (integer (pos n)) ≡ Ok n
number_here least most n name low high = ap (λ b. if b then Ok n else Err (value name))
    (and_from (nat_le least n) (nat_le n most) (le-leb least n low) (le-leb n most high))

-- ---- keys that must be set

module _ {A : Type 0} (kind : KeyKind) (name : List ℕ) (members : Members) (read : Data → Result A Fault) (Has : Data → A → Type 0) (says : (found : Data)
    → ValueSays kind name found Has (read found)) where
  required_by : (found : Option Data) → get_member name members ≡ found
      → MatchResult (unwrap_or (option_map read found) (Err (missing name))) (λ a. (d : Data) × (get_member name members ≡ Some d) × Has d a)
      (IsWrong members (record { name = name; kind = kind; needed = true }))
  required_by None is = inl (refl, is, refl)
  required_by (Some d) is = outcome (read d) (λ a has. (d, is, has)) (λ f bad. inr (d, is, bad.0, bad.1)) (says d)

  pub required_says : MatchResult (required read name members) (λ a. (d : Data) × (get_member name members ≡ Some d) × Has d a)
      (IsWrong members (record { name = name; kind = kind; needed = true }))
  required_says = required_by (get_member name members) refl

pub number_required : (least most : ℕ) (name : List ℕ) (members : Members)
    → MatchResult (required (number_in least most name) name members) (λ n. (d : Data) × (get_member name members ≡ Some d) × HasNumber least most d n)
    (IsWrong members (record { name = name; kind = of_number least most; needed = true }))
number_required least most name members = required_says (of_number least most) name members (number_in least most name) (HasNumber least most)
    (number_says least most name)

pub text_required : (name : List ℕ) (members : Members)
    → MatchResult (required (text_in name) name members) (λ t. (d : Data) × (get_member name members ≡ Some d) × HasText d t)
    (IsWrong members (record { name = name; kind = of_text; needed = true }))
text_required name members = required_says of_text name members (text_in name) HasText (text_says name)

pub number_required_ok : (least most n : ℕ) (name : List ℕ) (members : Members) → get_member name members ≡ Some (integer (pos n)) → least ≤ n → n ≤ most
    → required (number_in least most name) name members ≡ Ok n
number_required_ok least most n name members is low high = ap (λ found. unwrap_or (option_map (number_in least most name) found) (Err (missing name))) is
    ∙ number_here least most n name low high

pub text_required_ok : (name t : List ℕ) (members : Members) → get_member name members ≡ Some (string t) → required (text_in name) name members ≡ Ok t
text_required_ok name t members is = ap (λ found. unwrap_or (option_map (text_in name) found) (Err (missing name))) is

-- ---- keys that have a default

number_or_by : (default least most : ℕ) (name : List ℕ) (members : Members) (found : Option Data) → get_member name members ≡ found
    → MatchResult (unwrap_or (option_map (number_in least most name) found) (Ok default)) (IsNumber members name least most default)
    (IsWrong members (record { name = name; kind = of_number least most; needed = false }))
number_or_by default least most name members None is = inr (is, refl)
number_or_by default least most name members (Some d) is =
    outcome (number_in least most name d) (λ n has. inl (is ∙ ap (λ x. Some x) has.0, has.1, has.2)) (λ f bad. inr (d, is, bad.0, bad.1))
    (number_says least most name d)

pub number_or_says : (default least most : ℕ) (name : List ℕ) (members : Members)
    → MatchResult (number_or default least most name members) (IsNumber members name least most default)
    (IsWrong members (record { name = name; kind = of_number least most; needed = false }))
number_or_says default least most name members = number_or_by default least most name members (get_member name members) refl

pub number_or_ok : (default least most n : ℕ) (name : List ℕ) (members : Members) → IsNumber members name least most default n
    → number_or default least most name members ≡ Ok n
number_or_ok default least most n name members (inl set) = ap (λ found. unwrap_or (option_map (number_in least most name) found) (Ok default)) set.0
    ∙ number_here least most n name set.1 set.2
number_or_ok default least most n name members (inr unset) =
    ap (λ found. unwrap_or (option_map (number_in least most name) found) (Ok default)) unset.0 ∙ ap (λ x. Ok x) (sym unset.1)

-- ---- what was read is well

pub well_number : (least most n : ℕ) (name : List ℕ) (needed : Bool) (members : Members) (d : Data) → get_member name members ≡ Some d
    → HasNumber least most d n → IsWell members (record { name = name; kind = of_number least most; needed = needed })
well_number least most n name needed members d is has = inl (d, is, (n, has.0, has.1, has.2))

pub well_text : (name t : List ℕ) (needed : Bool) (members : Members) (d : Data) → get_member name members ≡ Some d → HasText d t
    → IsWell members (record { name = name; kind = of_text; needed = needed })
well_text name t needed members d is has = inl (d, is, (t, has))

pub well_or : (default least most n : ℕ) (name : List ℕ) (members : Members) → IsNumber members name least most default n
    → IsWell members (record { name = name; kind = of_number least most; needed = false })
well_or default least most n name members (inl set) = inl (integer (pos n), set.0, (n, refl, set.1, set.2))
well_or default least most n name members (inr unset) = inr (refl, unset.0)
