-- An element more at the end of a list in parts.
use Rattle.std.proofs.Common.{◌≡◌, inl, inr, Bool, true, false, List, [], ◌∷◌, ◌++◌, refl, sym, ◌∙◌, ap}
use Rattle.std.specs.List.{flat_map}
use Rattle.std.proofs.lemmas.Bool.{cases_Bool}
use Rattle.std.proofs.lemmas.List.{append_assoc, append-nil}
use Rattle.rec_lane.specs.Parts.{ended_from, last_from}

-- the last part goes on
pub ended_on : {X : Type 0} (goes_on : List X → X → Bool) (part xs : List X) (x : X)
    → goes_on (last_from goes_on part xs) x ≡ true
    → ended_from goes_on part (xs ++ x ∷ []) ≡ ended_from goes_on part xs
ended_on goes_on part [] x so = rw so refl
ended_on goes_on part (y ∷ ys) x so = elim (cases_Bool (goes_on part y))
    as (λ _. ended_from goes_on part (y ∷ (ys ++ x ∷ [])) ≡ ended_from goes_on part (y ∷ ys)) [
      | inl on ↦ rw on (ended_on goes_on (part ++ y ∷ []) ys x (rw on at so))
      | inr off ↦ rw off (ap (λ ps. part ∷ ps) (ended_on goes_on (y ∷ []) ys x (rw off at so)))
    ]

pub last_on : {X : Type 0} (goes_on : List X → X → Bool) (part xs : List X) (x : X)
    → goes_on (last_from goes_on part xs) x ≡ true
    → last_from goes_on part (xs ++ x ∷ []) ≡ last_from goes_on part xs ++ x ∷ []
last_on goes_on part [] x so = rw so refl
last_on goes_on part (y ∷ ys) x so = elim (cases_Bool (goes_on part y))
    as (λ _. last_from goes_on part (y ∷ (ys ++ x ∷ [])) ≡ last_from goes_on part (y ∷ ys) ++ x ∷ []) [
      | inl on ↦ rw on (last_on goes_on (part ++ y ∷ []) ys x (rw on at so))
      | inr off ↦ rw off (last_on goes_on (y ∷ []) ys x (rw off at so))
    ]

-- or it is ended, and another begins
pub ended_off : {X : Type 0} (goes_on : List X → X → Bool) (part xs : List X) (x : X)
    → goes_on (last_from goes_on part xs) x ≡ false
    → ended_from goes_on part (xs ++ x ∷ []) ≡ ended_from goes_on part xs ++ last_from goes_on part xs ∷ []
ended_off goes_on part [] x so = rw so refl
ended_off goes_on part (y ∷ ys) x so = elim (cases_Bool (goes_on part y))
    as (λ _. ended_from goes_on part (y ∷ (ys ++ x ∷ [])) ≡ ended_from goes_on part (y ∷ ys) ++ last_from goes_on part (y ∷ ys) ∷ []) [
      | inl on ↦ rw on (ended_off goes_on (part ++ y ∷ []) ys x (rw on at so))
      | inr off ↦ rw off (ap (λ ps. part ∷ ps) (ended_off goes_on (y ∷ []) ys x (rw off at so)))
    ]

pub last_off : {X : Type 0} (goes_on : List X → X → Bool) (part xs : List X) (x : X)
    → goes_on (last_from goes_on part xs) x ≡ false
    → last_from goes_on part (xs ++ x ∷ []) ≡ x ∷ []
last_off goes_on part [] x so = rw so refl
last_off goes_on part (y ∷ ys) x so = elim (cases_Bool (goes_on part y)) as (λ _. last_from goes_on part (y ∷ (ys ++ x ∷ [])) ≡ x ∷ []) [
  | inl on ↦ rw on (last_off goes_on (part ++ y ∷ []) ys x (rw on at so))
  | inr off ↦ rw off (last_off goes_on (y ∷ []) ys x (rw off at so))
]

-- the parts put together are the list
pub whole_from : {X : Type 0} (goes_on : List X → X → Bool) (part xs : List X)
    → flat_map (λ (p : List X). p) (ended_from goes_on part xs) ++ last_from goes_on part xs ≡ part ++ xs
whole_from goes_on part [] = sym (append-nil part)
whole_from goes_on part (y ∷ ys) = elim (cases_Bool (goes_on part y))
    as (λ _. flat_map (λ p. p) (ended_from goes_on part (y ∷ ys)) ++ last_from goes_on part (y ∷ ys) ≡ part ++ y ∷ ys) [
      | inl on ↦ rw on (whole_from goes_on (part ++ y ∷ []) ys ∙ append_assoc part (y ∷ []) ys)
      | inr off ↦ rw off (append_assoc part _ _ ∙ ap (λ zs. part ++ zs) (whole_from goes_on (y ∷ []) ys))
    ]
