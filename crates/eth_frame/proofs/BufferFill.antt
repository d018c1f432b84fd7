-- A part of a slice that is written from a place on.
use Rattle.std.proofs.Common.{◌≡◌, ℕ, ◌+◌, ◌≤◌, List, ◌++◌, length, take, drop, ap, ◌∙◌, drop_at, length-take-le}
use Rattle.std.proofs.lemmas.List.{take_at}
use borrow.Rule.Slice.PartMut.{put_mid, post_of}
use lib.Seq.{take-add, take-append-le}

-- what stands before the place, and the first of what is written
pub take-put_mid-more : (at room n : ℕ) (xs ys : List ℕ) → at ≤ length xs → n ≤ length ys → take (at + n) (put_mid at room xs ys) ≡ take at xs ++ take n ys
take-put_mid-more at room n xs ys within fits =
    let after = post_of at room xs in
    let front = length-take-le at xs within in
    take-add at n (take at xs ++ (ys ++ after))
    ∙ ap (λ l. l ++ take n (drop at (take at xs ++ (ys ++ after)))) (take_at (take at xs) (ys ++ after) at front)
    ∙ ap (λ l. take at xs ++ take n l) (drop_at (take at xs) (ys ++ after) at front)
    ∙ ap (λ l. take at xs ++ l) (take-append-le n ys after fits)
