-- The laws of a source over a feed, proved: nothing is left once it has ended, and it ends by a
-- failure only once the device has failed.
use Rattle.std.specs.Prelude.{ℕ, zero, suc, ◌≡◌, ◌<◌, ◌+◌, ◌-◌, ◌==◌, ◌||◌, nat_lt, Bool, true}
use Rattle.std.specs.Prelude.{false, List}
use Rattle.std.specs.Prelude.{[], ◌∷◌, length, Option, None, Some, Result, Ok, Err, IfSome, refl}
use Rattle.std.proofs.Common.{cond, sym, ap, subst, ◌∙◌, lit<}
use Rattle.std.proofs.lemmas.Bool.{cond_both, false≢true}
use Rattle.eth_frame.specs.declared.frame.TheConstants.{MIN_FRAME_LEN, MAX_FRAME_LEN}
use Rattle.eth_frame.specs.declared.feed.head.TheConstants.{HEAD_LEN, MAX_MARKS}
use Rattle.eth_frame.specs.declared.source.SourceFault.{SourceFault}
use Rattle.eth_frame.specs.declared.source.SourceFault.TheVariants.{Truncated, Length, Marks}
use Rattle.eth_frame.specs.declared.source.SourceFault.TheVariants.{Device}
use Rattle.eth_frame.specs.declared.source.SourceEnding.{SourceEnding}
use Rattle.eth_frame.specs.declared.source.SourceEnding.TheVariants.{End, Fault}
use Rattle.eth_frame.specs.Frame.{FrameData}
use Rattle.eth_frame.specs.Source.{Left, no_frames}
use Rattle.eth_frame.specs.FeedRecord.{record_at, head_fault, body_at, length_field, marks_field}
use Rattle.eth_frame.specs.FeedRecord.{frame_at}
use Rattle.eth_frame.specs.FeedRecord.{time_at}
use Rattle.eth_frame.specs.Feed.{left_from, after_record, left_of_source, failures_before}
use Rattle.eth_frame.specs.TimedFeed.{after_time, timed_from, left_of_timed, left_given}

pub left_once_ended : (ended : Option SourceEnding) (known : Option (List ℕ))
    (ending : SourceEnding)
    → ended ≡ Some ending → IfSome (left_of_source ended known) (λ l. l ≡ no_frames ending)
left_once_ended ended known ending e =
    subst (λ (o : Option SourceEnding). IfSome (left_of_source o known)
    (λ l. l ≡ no_frames ending)) (sym e) refl

-- ---- no bytes say that the device failed

abbrev is_device : SourceFault → Bool
is_device Device = true
is_device fault = false

abbrev is_failure : SourceEnding → Bool
is_failure End = false
is_failure (Fault fault) = is_device fault

abbrev is_failed_read : Result FrameData SourceEnding → Bool
is_failed_read (Ok frame) = false
is_failed_read (Err ending) = is_failure ending

abbrev is_failed_head : Option SourceFault → Bool
is_failed_head None = false
is_failed_head (Some fault) = is_device fault

body_at_tells_none : (fault : Option SourceFault) (bytes : List ℕ) → is_failed_head fault ≡ false
    → is_failed_read (body_at fault bytes) ≡ false
body_at_tells_none (Some fault) bytes h = h
body_at_tells_none None bytes h =
    cond_both (nat_lt (length bytes) (HEAD_LEN + length_field bytes)) (Err (Fault Truncated))
    (Ok (frame_at bytes))
    (λ r. is_failed_read r ≡ false) (λ _. refl) (λ _. refl)

head_fault_tells_none : (bytes : List ℕ) → is_failed_head (head_fault bytes) ≡ false
head_fault_tells_none bytes =
    let bad_length =
    nat_lt (length_field bytes) MIN_FRAME_LEN || nat_lt MAX_FRAME_LEN (length_field bytes) in
    let bad_marks = nat_lt MAX_MARKS (marks_field bytes) in
    cond_both bad_length (Some Length) (cond bad_marks (Some Marks) None)
    (λ o. is_failed_head o ≡ false)
    (λ _. refl)
    (λ _. cond_both bad_marks (Some Marks) None (λ o. is_failed_head o ≡ false) (λ _. refl)
    (λ _. refl))

record_at_tells_none : (bytes : List ℕ) → is_failed_read (record_at bytes) ≡ false
unfolding record_at
record_at_tells_none bytes =
    let whole = body_at (head_fault bytes) bytes in
    let short = nat_lt (length bytes) HEAD_LEN in
    cond_both (length bytes == 0) (Err End) (cond short (Err (Fault Truncated)) whole)
    (λ r. is_failed_read r ≡ false)
    (λ _. refl)
    (λ _. cond_both short (Err (Fault Truncated)) whole (λ r. is_failed_read r ≡ false)
    (λ _. refl) (λ _. body_at_tells_none (head_fault bytes) bytes (head_fault_tells_none bytes)))

after_record_tells_none : (read : Result FrameData SourceEnding) (from : ℕ → Left)
    → is_failed_read read ≡ false
    → ((n : ℕ) → is_failure (from n).ending ≡ false)
    → is_failure (after_record read from).ending ≡ false
after_record_tells_none (Ok frame) from h rest = rest _
after_record_tells_none (Err ending) from h rest = h

left_from_tells_none : (skipped : ℕ) (bytes : List ℕ)
    → is_failure (left_from skipped bytes).ending ≡ false
unfolding left_from
left_from_tells_none skipped [] = refl
left_from_tells_none zero (b ∷ bs) =
    after_record_tells_none (record_at (b ∷ bs)) (λ n. left_from (n - 1) bs)
    (record_at_tells_none (b ∷ bs)) (λ n. left_from_tells_none (n - 1) bs)
left_from_tells_none (suc skipped) (b ∷ bs) = left_from_tells_none skipped bs

pub failed_once_ended : (ended : Option SourceEnding) (known : Option (List ℕ))
    → IfSome (left_of_source ended known) (λ l. l.ending ≡ Fault Device → 0 < failures_before ended)
failed_once_ended None None = tt
failed_once_ended None (Some bytes) =
    λ e. absurd (false≢true (sym (left_from_tells_none 0 bytes) ∙ ap is_failure e))
failed_once_ended (Some End) known = λ e. absurd (false≢true (ap is_failure e))
failed_once_ended (Some (Fault Device)) known = λ e. lit< tt
failed_once_ended (Some (Fault fault)) known = λ e. absurd (false≢true (ap is_failure e))

-- ---- where there may be time marks

after_time_tells_none : (mark : Option ℕ) (later other : Left) → is_failure later.ending ≡ false
    → is_failure other.ending ≡ false
    → is_failure (after_time mark later other).ending ≡ false
after_time_tells_none (Some counter) later other a b = a
after_time_tells_none None later other a b = b

timed_from_tells_none : (skipped : ℕ) (bytes : List ℕ)
    → is_failure (timed_from skipped bytes).ending ≡ false
unfolding timed_from
timed_from_tells_none skipped [] = refl
timed_from_tells_none zero (b ∷ bs) =
    after_time_tells_none (time_at (b ∷ bs)) (timed_from (HEAD_LEN - 1) bs)
    (after_record (record_at (b ∷ bs)) (λ n. timed_from (n - 1) bs))
    (timed_from_tells_none (HEAD_LEN - 1) bs)
    (after_record_tells_none (record_at (b ∷ bs)) (λ n. timed_from (n - 1) bs)
    (record_at_tells_none (b ∷ bs)) (λ n. timed_from_tells_none (n - 1) bs))
timed_from_tells_none (suc skipped) (b ∷ bs) = timed_from_tells_none skipped bs

timed_once_ended : (ended : Option SourceEnding) (known : Option (List ℕ)) (ending : SourceEnding)
    → ended ≡ Some ending → IfSome (left_of_timed ended known) (λ l. l ≡ no_frames ending)
timed_once_ended ended known ending e =
    subst (λ (o : Option SourceEnding). IfSome (left_of_timed o known) (λ l. l ≡ no_frames ending))
    (sym e) refl

failed_once_timed : (ended : Option SourceEnding) (known : Option (List ℕ))
    → IfSome (left_of_timed ended known) (λ l. l.ending ≡ Fault Device → 0 < failures_before ended)
failed_once_timed None None = tt
failed_once_timed None (Some bytes) =
    λ e. absurd (false≢true (sym (timed_from_tells_none 0 bytes) ∙ ap is_failure e))
failed_once_timed (Some End) known = λ e. absurd (false≢true (ap is_failure e))
failed_once_timed (Some (Fault Device)) known = λ e. lit< tt
failed_once_timed (Some (Fault fault)) known = λ e. absurd (false≢true (ap is_failure e))

pub given_once_ended : (timed : Bool) (ended : Option SourceEnding) (known : Option (List ℕ))
    (ending : SourceEnding)
    → ended ≡ Some ending → IfSome (left_given timed ended known) (λ l. l ≡ no_frames ending)
given_once_ended true ended known ending e = timed_once_ended ended known ending e
given_once_ended false ended known ending e = left_once_ended ended known ending e

pub failed_once_given : (timed : Bool) (ended : Option SourceEnding) (known : Option (List ℕ))
    → IfSome (left_given timed ended known) (λ l. l.ending ≡ Fault Device
    → 0 < failures_before ended)
failed_once_given true ended known = failed_once_timed ended known
failed_once_given false ended known = failed_once_ended ended known
