-- A part of a list that is written from a place on.
use Rattle.std.proofs.Common.{◌≡◌, ℕ, ◌+◌, ◌-◌, ◌≤◌, List, [], ◌++◌, length, take, drop, sym, ap, ◌∙◌}
use Rattle.std.proofs.Common.{append-nil, arith, drop_at, length-take-le, length-append, length-drop}
use Rattle.std.proofs.lemmas.List.{take_at, take_all, drop_all}
use borrow.Rule.Slice.PartMut.{put_mid, post_of}
use lib.Seq.{take-add, take-append-le}

-- what is written fills the list to its end
pub put_mid-to_end : (at : ℕ) (xs ys : List ℕ) → at ≤ length xs → length ys ≡ length xs - at → put_mid at (length xs - at) xs ys ≡ take at xs ++ ys
put_mid-to_end at xs ys within fits =
    let some = length-drop at xs in
    let none : drop (length xs - at) (drop at xs) ≡ [] = drop_all (length xs - at) (drop at xs) (omega (arith, some)) in
    ap (λ l. take at xs ++ (ys ++ l)) none ∙ ap (λ l. take at xs ++ l) (append-nil ys)

-- the vector whose items were lent as xs, and which has ys from the place on
pub lent_to_end : (n at : ℕ) (xs ys zs : List ℕ) → n ≡ length xs → at ≤ length xs → length ys ≡ length xs - at
    → take n (put_mid at (length xs - at) xs ys ++ drop (length (put_mid at (length xs - at) xs ys)) zs) ≡ take at xs ++ ys
lent_to_end n at xs ys zs is within fits =
    let whole = put_mid-to_end at xs ys within fits in
    let front = length-take-le at xs within in
    let len : length (put_mid at (length xs - at) xs ys) ≡ n = ap length whole ∙ length-append (take at xs) ys ∙ omega (arith, front, fits, is) in
    take_at (put_mid at (length xs - at) xs ys) (drop (length (put_mid at (length xs - at) xs ys)) zs) n len ∙ whole

-- the front of what a vector was grown to
pub grown_front : (at step : ℕ) (xs ys : List ℕ) → at ≡ length xs → take at (take (at + step) xs ++ ys) ≡ xs
grown_front at step xs ys is =
    let all : take (at + step) xs ≡ xs = take_all (at + step) xs (omega (arith, is)) in
    ap (λ l. take at (l ++ ys)) all ∙ take_at xs ys at (sym is)

pub length-room : (at : ℕ) (xs : List ℕ) → length (take (length xs - at) (drop at xs)) ≡ length xs - at
length-room at xs =
    let some = length-drop at xs in
    ap length (take_all (length xs - at) (drop at xs) (omega (arith, some))) ∙ some
