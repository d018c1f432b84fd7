-- What stands at an index of a list, and of one of which an element was changed.
use Rattle.std.proofs.Common.{ℕ, suc, zero, ◌≡◌, ◌≢◌, inl, inr, ◌⊎◌, List, [], ◌∷◌, Some, refl, sym, ap, subst, arith, All, get_or}
use Rattle.std.specs.Prelude.{slice_get, slice_set}
use Rattle.std.proofs.lemmas.List.Elements.{All-get_or}
use Rattle.std.proofs.lemmas.Option.{same_Some, none-some, slice_get_within, get_or_from_slice_get, slice_get-get_or}

pub set_there : {X : Type 0} (xs : List X) (k : ℕ) (x y : X) → slice_get xs k ≡ Some x → slice_get (slice_set xs k y) k ≡ Some y
set_there [] k x y is = absurd (none-some x is)
set_there (z ∷ zs) zero x y is = refl
set_there (z ∷ zs) (suc k) x y is = set_there zs k x y is

pub set_elsewhere : {X : Type 0} (xs : List X) (k j : ℕ) (x y : X) → slice_get xs j ≡ Some x → j ≢ k → slice_get (slice_set xs k y) j ≡ Some x
set_elsewhere [] k j x y is other = absurd (none-some x is)
set_elsewhere (z ∷ zs) zero zero x y is other = absurd (other refl)
set_elsewhere (z ∷ zs) zero (suc j) x y is other = is
set_elsewhere (z ∷ zs) (suc k) zero x y is other = is
set_elsewhere (z ∷ zs) (suc k) (suc j) x y is other = set_elsewhere zs k j x y is (λ e. other (ap suc e))

pub set_cases : {X : Type 0} (xs : List X) (k : ℕ) (y : X) (j : ℕ) (b : X) → slice_get (slice_set xs k y) j ≡ Some b
    → ((j ≡ k) × (b ≡ y)) ⊎ ((j ≢ k) × (slice_get xs j ≡ Some b))
set_cases [] k y j b is = absurd (none-some b is)
set_cases (x ∷ xs) zero y zero b is = inl (refl, sym (same_Some y b is))
set_cases (x ∷ xs) zero y (suc j) b is = inr ((λ e. omega (arith, e)), is)
set_cases (x ∷ xs) (suc k) y zero b is = inr ((λ e. omega (arith, e)), is)
set_cases (x ∷ xs) (suc k) y (suc j) b is = elim (set_cases xs k y j b is)
    as (λ _. ((suc j ≡ suc k) × (b ≡ y)) ⊎ ((suc j ≢ suc k) × (slice_get xs j ≡ Some b))) [
      | inl same ↦ inl (ap suc same.0, same.1)
      | inr other ↦ inr ((λ e. other.0 (omega (arith, e))), other.1)
    ]

-- what holds of all holds of what stands somewhere, and the other way round
pub all_there : {X : Type 0} (P : X → Type 0) (xs : List X) (k : ℕ) (x : X) → All P xs → slice_get xs k ≡ Some x → P x
all_there P xs k x all is = subst P (get_or_from_slice_get xs k x x is) (All-get_or P xs k x (slice_get_within xs k x is) all)

pub all_from_there : {X : Type 0} (P : X → Type 0) (xs : List X) → ((k : ℕ) (x : X) → slice_get xs k ≡ Some x → P x) → All P xs
all_from_there P xs h = λ k d within. h k (get_or xs k d) (slice_get-get_or xs k d within)
