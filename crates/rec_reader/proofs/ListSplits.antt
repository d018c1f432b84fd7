-- A list that is split at one element and at another.
use Rattle.std.proofs.Common.{◌≡◌, zero, suc, ◌⊎◌, inl, inr, List, [], ◌∷◌, ◌++◌, Contains, refl, arith}
use Rattle.std.proofs.lemmas.List.Elements.{Contains-append_right}

pub not_empty : {A : Type 0} (before : List A) (x : A) (after : List A) → [] ≡ before ++ x ∷ after → ⊥
not_empty [] x after e = cc
not_empty (a ∷ before) x after e = cc

-- both are the same, or one stands before the other
abbrev pub Meets : {A : Type 0} (xs : List A) (x : A) (ys zs : List A) (z : A) (ws : List A) → Type 0
Meets {A} xs x ys zs z ws =
    ((xs ≡ zs) × (x ≡ z) × (ys ≡ ws))
    ⊎ (((between : List A) × (zs ≡ xs ++ x ∷ between) × (ys ≡ between ++ z ∷ ws))
    ⊎ ((between : List A) × (xs ≡ zs ++ z ∷ between) × (ws ≡ between ++ x ∷ ys)))

one_further : {A : Type 0} (a b : A) (xs : List A) (x : A) (ys zs : List A) (z : A) (ws : List A) → a ≡ b → Meets xs x ys zs z ws
    → Meets (a ∷ xs) x ys (b ∷ zs) z ws
one_further a b xs x ys zs z ws e (inl same) = let s = same.0 in inl (cc, same.1, same.2)
one_further a b xs x ys zs z ws e (inr (inl before)) = let s = before.1 in inr (inl (before.0, cc, before.2))
one_further a b xs x ys zs z ws e (inr (inr after)) = let s = after.1 in inr (inr (after.0, cc, after.2))

pub meets : {A : Type 0} (xs : List A) (x : A) (ys zs : List A) (z : A) (ws : List A) → xs ++ x ∷ ys ≡ zs ++ z ∷ ws → Meets xs x ys zs z ws
meets [] x ys [] z ws e = inl (refl, cc, cc)
meets [] x ys (b ∷ zs) z ws e = inr (inl (zs, cc, cc))
meets (a ∷ xs) x ys [] z ws e = inr (inr (xs, cc, cc))
meets (a ∷ xs) x ys (b ∷ zs) z ws e =
    let tail : xs ++ x ∷ ys ≡ zs ++ z ∷ ws = cc in
    one_further a b xs x ys zs z ws (cc) (meets xs x ys zs z ws tail)

-- ---- what a list contains

pub first_of : {A : Type 0} (x : A) (xs : List A) → Contains (x ∷ xs) x
first_of x xs = (0, omega arith, refl)

pub later_of : {A : Type 0} (x : A) (xs : List A) (y : A) → Contains xs y → Contains (x ∷ xs) y
later_of x xs y has = Contains-append_right (x ∷ []) xs y has

pub first_or_later : {A : Type 0} (x : A) (xs : List A) (y : A) → Contains (x ∷ xs) y → (x ≡ y) ⊎ Contains xs y
first_or_later x xs y (zero, within, is) = inl is
first_or_later x xs y (suc k, within, is) = inr (k, omega arith, is)

pub none_in : {A : Type 0} (y : A) → Contains [] y → ⊥
none_in y has = let l = has.1 in absurd (omega arith)
