-- Time marks at the front of a feed's bytes.
use Rattle.std.proofs.Common.{◌≡◌, ℕ, ◌<◌, ◌≤◌, Bool, true, false, eqb, ltb, List, ◌++◌, length, None, Some, Ok}
use Rattle.std.proofs.Common.{Err, inl, inr, refl, sym, ap, ◌∙◌, arith}
use Rattle.std.proofs.lemmas.Bool.{lt-ltb, le-ltb, ltb-false, eqb-true, cases_Bool}
use Rattle.std.proofs.lemmas.List.{length-append}
use Rattle.eth_frame.specs.declared.feed.head.TheConstants.{HEAD_LEN}
use Rattle.eth_frame.specs.declared.source.SourceFault.TheVariants.{Length}
use Rattle.eth_frame.specs.declared.source.SourceEnding.TheVariants.{Fault}
use Rattle.eth_frame.specs.Frame.{FrameData}
use Rattle.eth_frame.specs.FeedRecord.{length_field, head_fault, body_at, record_at, time_at, mark_at}
use Rattle.eth_frame.proofs.Records.{SameFields-front, record_at-whole}

-- what a head says of it
pub mark_at-split : (timed : Bool) (head rest : List ℕ) → length head ≡ HEAD_LEN → mark_at timed (head ++ rest) ≡ mark_at timed head
mark_at-split false head rest len = refl
mark_at-split true head rest len =
    let same = SameFields-front head rest len in
    let l = length-append head rest in
    let a : ltb (length (head ++ rest)) HEAD_LEN ≡ false = le-ltb _ _ (omega (arith, l, len)) in
    let b : ltb (length head) HEAD_LEN ≡ false = le-ltb _ _ (omega (arith, len)) in
    rw (a, b, same.counter, same.marks, same.length_is) refl

-- ---- a frame's record is none

no_frame_of_none : (bytes : List ℕ) (frame : FrameData) → eqb (length_field bytes) 0 ≡ true → HEAD_LEN ≤ length bytes → record_at bytes ≡ Ok frame → ⊥
no_frame_of_none bytes frame none whole e =
    let zero_len = eqb-true (length_field bytes) 0 none in
    let bad : head_fault bytes ≡ Some Length = rw zero_len refl in
    let is : record_at bytes ≡ Err (Fault Length) = record_at-whole bytes whole ∙ ap (λ o. body_at o bytes) bad in
    let both : Err (Fault Length) ≡ Ok frame = sym is ∙ e in
    cc

pub framed_no_mark : (bytes : List ℕ) (frame : FrameData) → record_at bytes ≡ Ok frame → time_at bytes ≡ None
framed_no_mark bytes frame e = elim (cases_Bool (ltb (length bytes) HEAD_LEN)) [
  | inl short ↦ rw short refl
  | inr whole ↦
      elim (cases_Bool (eqb (length_field bytes) 0)) [
        | inl none ↦ absurd (no_frame_of_none bytes frame none (ltb-false _ _ whole) e)
        | inr some ↦ rw (whole, some) refl
      ]
]
