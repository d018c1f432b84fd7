-- Lists of lists, and what holds of each element of a list that is put together.
use Rattle.std.proofs.Common.{◌≡◌, refl, List, [], ◌∷◌, ◌++◌, All, get_or}
use Rattle.std.specs.Prelude.{Bool, true, false, if◌then◌else◌}
use Rattle.std.specs.List.{flat_map}
use Rattle.std.proofs.lemmas.List.Elements.{All-nil, All-cons, All-head, All-tail, All-append}

-- what holds of each element of two lists put together holds of each of both
pub All_front : {X : Type 0} (P : X → Type 0) (xs ys : List X) → All P (xs ++ ys) → All P xs
All_front P [] ys all = All-nil P
All_front P (x ∷ xs) ys all = All-cons P x xs (All-head P x (xs ++ ys) all) (All_front P xs ys (All-tail P x (xs ++ ys) all))

-- and of the second list
pub All_back : {X : Type 0} (P : X → Type 0) (xs ys : List X) → All P (xs ++ ys) → All P ys
All_back P [] ys all = all
All_back P (x ∷ xs) ys all = All_back P xs ys (All-tail P x (xs ++ ys) all)

-- and so of lists of lists
pub All_parts : {X : Type 0} (P : X → Type 0) (xss : List (List X)) → All P (flat_map (λ (xs : List X). xs) xss) → All (λ (xs : List X). All P xs) xss
All_parts {X} P [] all = All-nil (λ (xs : List X). All P xs)
All_parts {X} P (xs ∷ xss) all =
    All-cons (λ (ys : List X). All P ys) xs xss (All_front P xs (flat_map (λ (ys : List X). ys) xss) all)
    (All_parts P xss (All_back P xs (flat_map (λ (ys : List X). ys) xss) all))

-- what holds of each element that a function gives
pub All_flat : {X Y : Type 0} (P : Y → Type 0) (f : X → List Y) (xs : List X) → All (λ (x : X). All P (f x)) xs → All P (flat_map f xs)
All_flat P f [] all = All-nil P
All_flat {X} P f (x ∷ xs) all =
    All-append P (f x) (flat_map f xs) (All-head (λ (y : X). All P (f y)) x xs all)
    (All_flat P f xs (All-tail (λ (y : X). All P (f y)) x xs all))

-- two facts of each element give a third
pub All_with : {X : Type 0} (P Q R : X → Type 0) → ((x : X) → P x → Q x → R x) → (xs : List X) → All P xs → All Q xs → All R xs
All_with P Q R f xs a b = λ k d within. f (get_or xs k d) (a k d within) (b k d within)

-- no element, whatever a test says
abbrev pub NoneOf : (A : Type 0) → List A
NoneOf A = []

pub nothing_if : {A : Type 0} (b : Bool) → NoneOf A ≡ (if b then NoneOf A else NoneOf A)
nothing_if true = refl
nothing_if false = refl
