-- What the bytes at the front say is what their head and the bytes after it say.
use Rattle.std.proofs.Common.{◌≡◌, ℕ, ◌+◌, ◌<◌, ◌≤◌, Bool, true, false, cond, eqb, ltb, List, [], ◌++◌, length, get_or}
use Rattle.std.proofs.Common.{take, Option, None, Some, Result, Ok, Err, refl, ap, ◌∙◌, arith, drop_at, lit<}
use Rattle.std.proofs.lemmas.Bool.{ne_eqb, le-ltb, lt-ltb}
use Rattle.std.proofs.lemmas.Bool.Decides.{nat_tests}
use Rattle.std.proofs.lemmas.List.{length-append, get_or_append_left}
use Rattle.eth_frame.specs.declared.feed.head.TheConstants.{HEAD_LEN}
use Rattle.eth_frame.specs.declared.source.SourceFault.{SourceFault}
use Rattle.eth_frame.specs.declared.source.SourceFault.TheVariants.{Truncated}
use Rattle.eth_frame.specs.declared.source.SourceEnding.{SourceEnding}
use Rattle.eth_frame.specs.declared.source.SourceEnding.TheVariants.{End, Fault}
use Rattle.eth_frame.specs.Frame.{FrameData}
use Rattle.eth_frame.specs.FeedRecord.{counter_field, marks_field, length_field, has_crc_error, has_frame_error, head_fault, frame_at, body_at, record_at}

-- the head's fields, and the first bytes after it
abbrev pub frame_after : List ℕ → List ℕ → FrameData
frame_after head rest = record {
  counter = counter_field head;
  crc_error = has_crc_error (marks_field head);
  frame_error = has_frame_error (marks_field head);
  bytes = take (length_field head) rest;
}

abbrev pub body_after : Option SourceFault → List ℕ → List ℕ → Result FrameData SourceEnding
body_after (Some fault) head rest = Err (Fault fault)
body_after None head rest = cond (ltb (length rest) (length_field head)) (Err (Fault Truncated)) (Ok (frame_after head rest))

-- the fields of a head are those of the bytes that it begins
pub record SameFields (a b : List ℕ) : Type 0 where
  pub counter : counter_field a ≡ counter_field b
  pub marks : marks_field a ≡ marks_field b
  pub length_is : length_field a ≡ length_field b

pub SameFields-front : (head rest : List ℕ) → length head ≡ HEAD_LEN → SameFields (head ++ rest) head
SameFields-front head rest len =
    let at : (i : ℕ) → i < 9 → get_or (head ++ rest) i 0 ≡ get_or head i 0 = λ i lt. get_or_append_left head rest 0 i (omega arith) in
    let a0 = at 0 (lit< tt) in
    let a1 = at 1 (lit< tt) in
    let a2 = at 2 (lit< tt) in
    let a3 = at 3 (lit< tt) in
    let a4 = at 4 (lit< tt) in
    let a5 = at 5 (lit< tt) in
    let a7 = at 7 (lit< tt) in
    let a8 = at 8 (lit< tt) in
    record { counter = rw (a0, a1, a2, a3, a4, a5) refl; marks = at 6 (lit< tt); length_is = rw (a7, a8) refl }

head_fault-SameFields : (a b : List ℕ) → SameFields a b → head_fault a ≡ head_fault b
head_fault-SameFields a b same = rw (same.length_is, same.marks) refl

frame_at-split : (head rest : List ℕ) → length head ≡ HEAD_LEN → frame_at (head ++ rest) ≡ frame_after head rest
frame_at-split head rest len =
    let same = SameFields-front head rest len in
    rw (same.counter, same.marks, same.length_is, drop_at head rest HEAD_LEN len) refl

body_at-split : (fault : Option SourceFault) (head rest : List ℕ) → length head ≡ HEAD_LEN → body_at fault (head ++ rest) ≡ body_after fault head rest
body_at-split (Some fault) head rest len = refl
body_at-split None head rest len =
    let same = SameFields-front head rest len in
    let test : ltb (length (head ++ rest)) (HEAD_LEN + length_field (head ++ rest)) ≡ ltb (length rest) (length_field head) =
    rw (same.length_is, length-append head rest, len) (grind (arith, nat_tests)) in
    rw (test, frame_at-split head rest len) refl

pub record_at-split : (head rest : List ℕ) → length head ≡ HEAD_LEN → record_at (head ++ rest) ≡ body_after (head_fault head) head rest
unfolding record_at
record_at-split head rest len =
    let long : length (head ++ rest) ≡ length head + length rest = length-append head rest in
    let some : eqb (length (head ++ rest)) 0 ≡ false = ne_eqb _ _ (λ e. omega arith) in
    let whole : ltb (length (head ++ rest)) HEAD_LEN ≡ false = le-ltb _ _ (omega arith) in
    rw (some, whole) (ap (λ o. body_at o (head ++ rest)) (head_fault-SameFields _ _ (SameFields-front head rest len))
    ∙ body_at-split (head_fault head) head rest len)

-- nothing, and less than a head
pub record_at-nil : record_at [] ≡ Err End
unfolding record_at
record_at-nil = refl

pub record_at-short : (bytes : List ℕ) → 0 < length bytes → length bytes < HEAD_LEN → record_at bytes ≡ Err (Fault Truncated)
unfolding record_at
record_at-short bytes some short =
    let a : eqb (length bytes) 0 ≡ false = ne_eqb _ _ (λ e. omega arith) in
    let b : ltb (length bytes) HEAD_LEN ≡ true = lt-ltb _ _ short in
    rw (a, b) refl

-- a frame is given by its parts
pub from_parts : (frame : FrameData) (counter : ℕ) (crc_error frame_error : Bool) (bytes : List ℕ) → frame.counter ≡ counter → frame.crc_error ≡ crc_error
    → frame.frame_error ≡ frame_error → bytes ≡ frame.bytes
    → record { counter = counter; crc_error = crc_error; frame_error = frame_error; bytes = bytes } ≡ frame
from_parts frame counter crc_error frame_error bytes a b c d = rw (← a, ← b, ← c, d) refl

-- a whole head
pub record_at-whole : (bytes : List ℕ) → HEAD_LEN ≤ length bytes → record_at bytes ≡ body_at (head_fault bytes) bytes
unfolding record_at
record_at-whole bytes whole =
    let a : eqb (length bytes) 0 ≡ false = ne_eqb _ _ (λ e. omega arith) in
    let b : ltb (length bytes) HEAD_LEN ≡ false = le-ltb _ _ whole in
    rw (a, b) refl
