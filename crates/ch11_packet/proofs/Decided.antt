-- What can be decided.
use Rattle.std.proofs.Common.{◌≡◌, ℕ, ◌%◌, ◌⊎◌, inl, inr, Bool, true, false, List, [], ◌∷◌, refl, arith}
use Rattle.std.proofs.lemmas.Bool.{cases_eq}

pub decide_false : (b : Bool) → (b ≡ false) ⊎ (b ≡ false → ⊥)
decide_false true = inr (λ e. absurd cc)
decide_false false = inl refl

pub decide_true : (b : Bool) → (b ≡ true) ⊎ (b ≡ true → ⊥)
decide_true true = inl refl
decide_true false = inr (λ e. absurd cc)

pub decide_same : (a b : Bool) → (a ≡ b) ⊎ (a ≡ b → ⊥)
decide_same true true = inl refl
decide_same true false = inr (λ e. absurd cc)
decide_same false true = inr (λ e. absurd cc)
decide_same false false = inl refl

odd_by : (n : ℕ) → (n % 2 ≡ 1) ⊎ (n % 2 ≡ 1 → ⊥) → (n % 2 ≡ 1) ⊎ (n % 2 ≡ 0)
odd_by n (inl odd) = inl odd
odd_by n (inr isnt) = inr (omega (arith, isnt))

pub decide_odd : (n : ℕ) → (n % 2 ≡ 1) ⊎ (n % 2 ≡ 0)
decide_odd n = odd_by n (cases_eq (n % 2) 1)

cells_by : (x y : ℕ) (xs ys : List ℕ) → (x ≡ y) ⊎ (x ≡ y → ⊥) → (xs ≡ ys) ⊎ (xs ≡ ys → ⊥) → (x ∷ xs ≡ y ∷ ys) ⊎ (x ∷ xs ≡ y ∷ ys → ⊥)
cells_by x y xs ys (inl one) (inl all) = inl cc
cells_by x y xs ys (inl one) (inr isnt) = inr (λ e. isnt (let same : xs ≡ ys = cc in same))
cells_by x y xs ys (inr isnt) all = inr (λ e. isnt (let same : x ≡ y = cc in same))

pub decide_list : (xs ys : List ℕ) → (xs ≡ ys) ⊎ (xs ≡ ys → ⊥)
decide_list [] [] = inl refl
decide_list [] (y ∷ ys) = inr (λ e. absurd cc)
decide_list (x ∷ xs) [] = inr (λ e. absurd cc)
decide_list (x ∷ xs) (y ∷ ys) = cells_by x y xs ys (cases_eq x y) (decide_list xs ys)
