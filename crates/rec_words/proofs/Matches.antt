-- What the getters of matches read, against the rows that a definition gives.
use Rattle.std.proofs.Common.{ℕ, ◌≡◌, ◌⊎◌, inl, inr, Bool, true, false, List, [], ◌∷◌, Option, None, Some, map, option_map, slice_get, refl, sym, ◌∙◌, ap, Bor}
use Rattle.std.specs.Prelude.{find, unwrap_or, option_and_then}
use Rattle.std.proofs.lemmas.Bool.{cases_Bool}
use Rattle.clap.specs.Walk.{row_of}
use Rattle.clap.specs.Words.{Row, Text, first_of, first_value, found_of, rows_of}
use Rattle.clap.specs.declared.ArgMatches.{ArgMatches}
use Rattle.rec_words.specs.Commands.{word_for}

find_map_cons : {X Y : Type 0} (f : X → Y) (p : Y → Bool) (x : X) (xs : List X) → find p (map f xs) ≡ option_map f (find (λ y. p (f y)) xs)
    → (p (f x) ≡ true) ⊎ (p (f x) ≡ false)
    → find p (map f (x ∷ xs)) ≡ option_map f (find (λ y. p (f y)) (x ∷ xs))
find_map_cons f p x xs rest (inl e) = rw e refl
find_map_cons f p x xs rest (inr e) = rw e rest

find_map : {X Y : Type 0} (f : X → Y) (p : Y → Bool) (xs : List X) → find p (map f xs) ≡ option_map f (find (λ y. p (f y)) xs)
find_map f p [] = refl
find_map f p (x ∷ xs) = find_map_cons f p x xs (find_map f p xs) (cases_Bool (p (f x)))

first_text : (texts : List (Bor (List ℕ))) → slice_get (map (λ (s : Bor (List ℕ)). s.now) texts) 0
    ≡ option_map (λ (s : Bor (List ℕ)). s.now) (slice_get texts 0)
first_text [] = refl
first_text (s ∷ texts) = refl

at_found : {E A : Type 0} (row : E → Row) (arg : E → A) (vals : A → List (Bor (List ℕ))) (o : Option E)
    → ((e : E) → (row e).values ≡ map (λ (s : Bor (List ℕ)). s.now) (vals (arg e)))
    → option_and_then (λ (r : Row). slice_get r.values 0) (option_map row o)
    ≡ option_and_then (λ a. option_map (λ (s : Bor (List ℕ)). s.now) (slice_get (vals a) 0)) (option_map arg o)
at_found row arg vals None same = refl
at_found row arg vals (Some e) same = rw same (first_text (vals (arg e)))

-- the first value of an id, among entries and among their rows
pub first_same : {E A : Type 0} (row : E → Row) (arg : E → A) (vals : A → List (Bor (List ℕ))) (key : Row → Bool) (es : List E)
    → ((e : E) → (row e).values ≡ map (λ (s : Bor (List ℕ)). s.now) (vals (arg e)))
    → option_and_then (λ (r : Row). slice_get r.values 0) (find key (map row es))
    ≡ option_and_then (λ a. option_map (λ (s : Bor (List ℕ)). s.now) (slice_get (vals a) 0)) (option_map arg (find (λ e. key (row e)) es))
first_same row arg vals key es same =
    ap (option_and_then (λ (r : Row). slice_get r.values 0)) (find_map row key es) ∙ at_found row arg vals (find (λ e. key (row e)) es) same

-- a name and rows that are given apart, of one subcommand
pub pair_is : {S : Type 0} (pair : S → Text × List Row) (o : Option S) (n : Text) (rs : List Row) → Some n ≡ option_map (λ s. (pair s).0) o
    → Some rs ≡ option_map (λ (p : Text × List Row). p.1) (option_map pair o)
    → option_map pair o ≡ Some (n, rs)
pair_is pair None n rs e f = cc
pair_is pair (Some s) n rs e f =
    let one : n ≡ (pair s).0 = cc in
    let two : rs ≡ (pair s).1 = cc in
    rw (one, two) refl

-- the text of a getter that falls back on the empty text
pub text_is : (o : Option (Bor (List ℕ))) (none : Bor (List ℕ)) (found : Option Text) → none.now ≡ [] → option_map (λ (s : Bor (List ℕ)). s.now) o ≡ found
    → (unwrap_or o none).now ≡ unwrap_or found []
text_is None none found empty e = rw (← e) empty
text_is (Some s) none found empty e = rw (← e) refl

-- the value that a getter reads is that of the rows
pub value_is : (m : ArgMatches) (id : Text) → first_of id (rows_of (found_of m)) ≡ first_value (found_of m) id
value_is m id = first_same row_of _ _ _ (found_of m).entries.items (λ e. refl)

-- the word that a getter with a fallback gives
pub word_is : (m : ArgMatches) (id : Text) (o : Option (Bor (List ℕ))) (none : Bor (List ℕ)) → none.now ≡ []
    → option_map (λ (s : Bor (List ℕ)). s.now) o ≡ first_value (found_of m) id → (unwrap_or o none).now ≡ word_for id (rows_of (found_of m))
word_is m id o none empty e = text_is o none (first_of id (rows_of (found_of m))) empty (e ∙ sym (value_is m id))
