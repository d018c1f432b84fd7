-- What stands at an index of a list, and a list that is put together.
use Rattle.std.proofs.Common.{ℕ, suc, zero, ◌+◌, ◌≡◌, ◌≢◌, ◌<◌, inl, inr, List, [], ◌∷◌, ◌++◌, length}
use Rattle.std.proofs.Common.{Some, refl, sym, ◌∙◌, ap, subst, arith, map, drop, take}
use Rattle.std.specs.Prelude.{slice_get, slice_set, AllPairs, get_or}
use Rattle.std.specs.List.{AllZip, Any}
use Rattle.std.proofs.lemmas.List.{take_more, map-append}
use Rattle.std.proofs.lemmas.Bool.{cases_lt}
use Rattle.std.proofs.lemmas.Option.{same_Some, none-some, slice_get_within, get_or_from_slice_get, slice_get-get_or}

-- the element behind a front
pub get_behind : {X : Type 0} (xs : List X) (x : X) (ys : List X) → slice_get (xs ++ x ∷ ys) (length xs) ≡ Some x
get_behind [] x ys = refl
get_behind (z ∷ zs) x ys = get_behind zs x ys

pub set_same : {X : Type 0} (xs : List X) (k : ℕ) (x : X) → slice_get xs k ≡ Some x → slice_set xs k x ≡ xs
set_same [] k x is = refl
set_same (z ∷ zs) zero x is = ap (λ w. w ∷ zs) (sym (same_Some z x is))
set_same (z ∷ zs) (suc k) x is = ap (λ ws. z ∷ ws) (set_same zs k x is)

-- a change that a map doesn't see
pub set_unseen : {A B : Type 0} (f : A → B) (xs : List A) (k : ℕ) (x y : A) → slice_get xs k ≡ Some x → f y ≡ f x → map f (slice_set xs k y) ≡ map f xs
set_unseen f [] k x y is same = refl
set_unseen f (z ∷ zs) zero x y is same = ap (λ w. w ∷ map f zs) (same ∙ ap f (sym (same_Some z x is)))
set_unseen f (z ∷ zs) (suc k) x y is same = ap (λ ws. f z ∷ ws) (set_unseen f zs k x y is same)

-- what stands in a map is of what stands there
pub map_there : {A B : Type 0} (f : A → B) (xs : List A) (k : ℕ) (y : B) → slice_get (map f xs) k ≡ Some y → (x : A) × (slice_get xs k ≡ Some x) × (f x ≡ y)
map_there f [] k y is = absurd (none-some y is)
map_there f (x ∷ xs) zero y is = (x, refl, same_Some (f x) y is)
map_there f (x ∷ xs) (suc k) y is = map_there f xs k y is

pub there_map : {A B : Type 0} (f : A → B) (xs : List A) (k : ℕ) (x : A) → slice_get xs k ≡ Some x → slice_get (map f xs) k ≡ Some (f x)
there_map f [] k x is = absurd (none-some x is)
there_map f (z ∷ zs) zero x is = ap (λ w. Some (f w)) (same_Some z x is)
there_map f (z ∷ zs) (suc k) x is = there_map f zs k x is

-- two maps that agree
pub map_same : {A B : Type 0} (f g : A → B) (xs : List A) → ((j : ℕ) (x : A) → slice_get xs j ≡ Some x → f x ≡ g x) → map f xs ≡ map g xs
map_same f g [] same = refl
map_same f g (x ∷ xs) same = ap (λ w. w ∷ map f xs) (same zero x refl) ∙ ap (λ ws. g x ∷ ws) (map_same f g xs (λ j y there. same (suc j) y there))

-- and two that agree but at one index
pub set_map : {A B : Type 0} (f g : A → B) (xs : List A) (k : ℕ) (x : A) → slice_get xs k ≡ Some x
    → ((j : ℕ) (y : A) → slice_get xs j ≡ Some y → j ≢ k → f y ≡ g y) → slice_set (map f xs) k (g x) ≡ map g xs
set_map f g [] k x is same = refl
set_map f g (z ∷ zs) zero x is same =
    ap (λ w. g w ∷ map f zs) (sym (same_Some z x is))
    ∙ ap (λ ws. g z ∷ ws) (map_same f g zs (λ j y there. same (suc j) y there (λ bad. omega (arith, bad))))
set_map f g (z ∷ zs) (suc k) x is same =
    ap (λ w. w ∷ slice_set (map f zs) k (g x)) (same zero z refl (λ bad. omega (arith, bad)))
    ∙ ap (λ ws. g z ∷ ws) (set_map f g zs k x is (λ j y there other. same (suc j) y there (λ bad. other (omega (arith, bad)))))

-- what holds of each element holds of the one at an index
pub Any_there : {X : Type 0} (P : X → Type 0) (xs : List X) (k : ℕ) (x : X) → slice_get xs k ≡ Some x → P x → Any P xs
Any_there P xs k x is holds = (k, x, slice_get_within xs k x is, get_or_from_slice_get xs k x x is, holds)

apart : (xs : List ℕ) (j k : ℕ) (a b : ℕ) → AllPairs (λ (x y : ℕ). x ≢ y) xs → slice_get xs j ≡ Some a → slice_get xs k ≡ Some b → j < k → a ≢ b
apart xs j k a b distinct is_a is_b before =
    subst (λ (x : ℕ). x ≢ b) (get_or_from_slice_get xs j a a is_a)
    (subst (λ (y : ℕ). get_or xs j a ≢ y) (get_or_from_slice_get xs k b a is_b)
    (distinct j k a before (slice_get_within xs k b is_b)))

-- where no two are the same, those at two indexes differ
pub distinct_at : (xs : List ℕ) (j k : ℕ) (a b : ℕ) → AllPairs (λ (x y : ℕ). x ≢ y) xs → slice_get xs j ≡ Some a → slice_get xs k ≡ Some b → j ≢ k → a ≢ b
distinct_at xs j k a b distinct is_a is_b differs =
    elim (cases_lt j k) as (λ _. a ≢ b) [
      | inl before ↦ apart xs j k a b distinct is_a is_b before
      | inr upto ↦ λ e. apart xs k j b a distinct is_b is_a (omega (arith, upto, differs)) (sym e)
    ]

-- ---- two lists side by side

pub zip_there : {A B : Type 0} (R : A → B → Type 0) (xs : List A) (ys : List B) (k : ℕ) (x : A) → AllZip R xs ys → slice_get xs k ≡ Some x
    → (y : B) × (slice_get ys k ≡ Some y) × R x y
zip_there R [] ys k x all is = absurd (none-some x is)
zip_there R (z ∷ zs) [] k x all is = absurd all
zip_there R (z ∷ zs) (y ∷ ys) zero x all is = (y, refl, subst (λ w. R w y) (same_Some z x is) all.0)
zip_there R (z ∷ zs) (y ∷ ys) (suc k) x all is = zip_there R zs ys k x all.1 is

pub zip_back : {A B : Type 0} (R : A → B → Type 0) (xs : List A) (ys : List B) (k : ℕ) (y : B) → AllZip R xs ys → slice_get ys k ≡ Some y
    → (x : A) × (slice_get xs k ≡ Some x) × R x y
zip_back R xs [] k y all is = absurd (none-some y is)
zip_back R [] (w ∷ ys) k y all is = absurd all
zip_back R (z ∷ zs) (w ∷ ys) zero y all is = (z, refl, subst (λ v. R z v) (same_Some w y is) all.0)
zip_back R (z ∷ zs) (w ∷ ys) (suc k) y all is = zip_back R zs ys k y all.1 is

pub zip_set : {A B : Type 0} (R : A → B → Type 0) (xs : List A) (ys : List B) (k : ℕ) (x : A) (y : B) → AllZip R xs ys → R x y
    → AllZip R (slice_set xs k x) (slice_set ys k y)
zip_set R [] [] k x y all r = tt
zip_set R [] (v ∷ ys) k x y all r = absurd all
zip_set R (z ∷ zs) [] k x y all r = absurd all
zip_set R (z ∷ zs) (v ∷ ys) zero x y all r = (r, all.1)
zip_set R (z ∷ zs) (v ∷ ys) (suc k) x y all r = (all.0, zip_set R zs ys k x y all.1 r)

-- where one is only changed as another list is
pub zip_set_left : {A B : Type 0} (R : A → B → Type 0) (xs : List A) (ys : List B) (k : ℕ) (x : A) (y : B) → AllZip R xs ys → slice_get ys k ≡ Some y → R x y
    → AllZip R (slice_set xs k x) ys
zip_set_left R [] ys k x y all is r = all
zip_set_left R (z ∷ zs) [] k x y all is r = absurd all
zip_set_left R (z ∷ zs) (v ∷ ys) zero x y all is r = (subst (λ w. R x w) (sym (same_Some v y is)) r, all.1)
zip_set_left R (z ∷ zs) (v ∷ ys) (suc k) x y all is r = (all.0, zip_set_left R zs ys k x y all.1 is r)

-- ---- the first element

pub first_is : {X : Type 0} (xs : List X) (x : X) → slice_get xs 0 ≡ Some x → xs ≡ x ∷ drop 1 xs
first_is [] x is = absurd (none-some x is)
first_is (z ∷ zs) x is = ap (λ y. y ∷ zs) (same_Some z x is)

-- a map of one element more
pub map_more : {A B : Type 0} (f : A → B) (xs : List A) (i : ℕ) (x : A) → i < length xs → x ≡ get_or xs i x
    → map f (take (i + 1) xs) ≡ map f (take i xs) ++ f x ∷ []
map_more f xs i x within is = ap (map f) (take_more xs i x within ∙ ap (λ y. take i xs ++ y ∷ []) (sym is)) ∙ map-append f (take i xs) (x ∷ [])

-- what a map has at an index, of the element there
pub map_at : {A B : Type 0} (f : A → B) (xs : List A) (k : ℕ) (e : A) (d : B) → k < length xs → get_or (map f xs) k d ≡ f (get_or xs k e)
map_at f xs k e d within = get_or_from_slice_get (map f xs) k (f (get_or xs k e)) d (there_map f xs k (get_or xs k e) (slice_get-get_or xs k e within))

pub zip_push : {A B : Type 0} (R : A → B → Type 0) (xs : List A) (ys : List B) (x : A) (y : B) → AllZip R xs ys → R x y → AllZip R (xs ++ x ∷ []) (ys ++ y ∷ [])
zip_push R [] [] x y all r = (r, tt)
zip_push R [] (v ∷ ys) x y all r = absurd all
zip_push R (z ∷ zs) [] x y all r = absurd all
zip_push R (z ∷ zs) (v ∷ ys) x y all r = (all.0, zip_push R zs ys x y all.1 r)
