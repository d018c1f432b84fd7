-- What a source over a feed with time marks has left, before and after it took something.
use Rattle.std.proofs.Common.{◌≡◌, ℕ, zero, suc, ◌+◌, ◌-◌, ◌<◌, ◌⊎◌, inl, inr, Bool, true, false, List, [], ◌∷◌, length, drop, Option, None}
use Rattle.std.proofs.Common.{Some, Result, Ok, Err, IfSome, IfErr, refl, sym, ap, subst, ◌∙◌, arith, lit<}
use Rattle.eth_frame.specs.declared.feed.head.TheConstants.{HEAD_LEN}
use Rattle.eth_frame.specs.declared.source.Next.{Next}
use Rattle.eth_frame.specs.declared.source.Next.TheVariants as next
use Rattle.eth_frame.specs.declared.source.SourceFault.{SourceFault}
use Rattle.eth_frame.specs.declared.source.SourceFault.TheVariants.{Device}
use Rattle.eth_frame.specs.declared.source.SourceEnding.{SourceEnding}
use Rattle.eth_frame.specs.declared.source.SourceEnding.TheVariants.{End, Fault}
use Rattle.eth_frame.specs.Frame.{FrameData}
use Rattle.eth_frame.specs.Source.{no_frames, with_first_frame, with_first_time, source_ending_of, Fails}
use Rattle.eth_frame.specs.FeedRecord.{record_at, time_at, mark_at}
use Rattle.eth_frame.specs.Feed.{after_record, failures_before}
use Rattle.eth_frame.specs.FeedTaking.{TakesRecord}
use Rattle.eth_frame.specs.TimedFeed.{after_time, timed_from, left_of_timed_feed, left_of_timed, left_given}
use Rattle.eth_frame.proofs.Records.{record_at-nil}
use Rattle.eth_frame.proofs.Lefts.{Gives, Gives-taken, Fails-device}
use Rattle.eth_frame.proofs.Marks.{framed_no_mark}
use Rattle.eth_frame.proofs.OneFeedReading.{record_at-Ends}

-- to skip bytes is to drop them
timed_from-drop : (n : ℕ) (bytes : List ℕ) → timed_from n bytes ≡ left_of_timed_feed (drop n bytes)
unfolding timed_from
timed_from-drop zero bytes = refl
timed_from-drop (suc n) [] = refl
timed_from-drop (suc n) (b ∷ bs) = timed_from-drop n bs

-- the bytes begin with a frame's record
pub timed-frame : (bytes : List ℕ) (frame : FrameData) → record_at bytes ≡ Ok frame
    → left_of_timed_feed bytes ≡ with_first_frame frame (left_of_timed_feed (drop (HEAD_LEN + length frame.bytes) bytes))
unfolding timed_from
timed-frame [] frame e = absurd (let nil = record_at-nil in cc)
timed-frame (b ∷ bs) frame e =
    let skipped = (length frame.bytes + HEAD_LEN) - 1 in
    let size : HEAD_LEN + length frame.bytes ≡ suc skipped = omega arith in
    ap (λ o. after_time o (timed_from (HEAD_LEN - 1) bs) (after_record (record_at (b ∷ bs)) (λ n. timed_from (n - 1) bs))) (framed_no_mark (b ∷ bs) frame e)
    ∙ (ap (λ (r : Result FrameData SourceEnding). after_record r (λ n. timed_from (n - 1) bs)) e
    ∙ ap (with_first_frame frame) (timed_from-drop skipped bs ∙ ap (λ n. left_of_timed_feed (drop n (b ∷ bs))) (sym size)))

-- with no record
pub timed-ending : (bytes : List ℕ) (ending : SourceEnding) → time_at bytes ≡ None → record_at bytes ≡ Err ending
    → left_of_timed_feed bytes ≡ no_frames ending
unfolding timed_from
timed-ending [] ending none e = let nil = record_at-nil in let same : End ≡ ending = cc in ap no_frames same
timed-ending (b ∷ bs) ending none e =
    ap (λ o. after_time o (timed_from (HEAD_LEN - 1) bs) (after_record (record_at (b ∷ bs)) (λ n. timed_from (n - 1) bs))) none
    ∙ ap (λ (r : Result FrameData SourceEnding). after_record r (λ n. timed_from (n - 1) bs)) e

-- with a time mark
pub timed-mark : (bytes : List ℕ) (counter : ℕ) → time_at bytes ≡ Some counter
    → left_of_timed_feed bytes ≡ with_first_time counter (left_of_timed_feed (drop HEAD_LEN bytes))
unfolding timed_from
timed-mark [] counter e = absurd cc
timed-mark (b ∷ bs) counter e =
    ap (λ o. after_time o (timed_from (HEAD_LEN - 1) bs) (after_record (record_at (b ∷ bs)) (λ n. timed_from (n - 1) bs))) e
    ∙ ap (with_first_time counter) (timed_from-drop (HEAD_LEN - 1) bs)

-- ---- what an answer gives

no_mark_at_end : (bytes : List ℕ) → record_at bytes ≡ Err End → time_at bytes ≡ None
no_mark_at_end bytes e = ap time_at (record_at-Ends bytes End e)

Gives-timed : (ended now : Option SourceEnding) (a c : Option (List ℕ)) (result : Result Next SourceFault) (held : Option FrameData) → ended ≡ None
    → now ≡ source_ending_of result
    → IfErr result (λ fault. (fault ≡ Device) ⊎ IfSome a (λ bytes. time_at bytes ≡ None))
    → IfSome a (λ bytes. TakesRecord bytes result held c) → Gives result (left_of_timed ended a) held (left_of_timed now c)
Gives-timed (Some ending) now a c result held e n none took = absurd cc
Gives-timed None now None c (Ok next.Frame) held e n none took = tt
Gives-timed None now (Some x) c (Ok next.Frame) None e n none took = absurd took
Gives-timed None (Some ending) (Some x) c (Ok next.Frame) (Some frame) e n none took = absurd cc
Gives-timed None None (Some x) None (Ok next.Frame) (Some frame) e n none took = absurd (let after = took.1 in cc)
Gives-timed None None (Some x) (Some z) (Ok next.Frame) (Some frame) e n none took =
    let rest : z ≡ drop (HEAD_LEN + length frame.bytes) x = let after = took.1 in cc in
    timed-frame x frame took.0 ∙ ap (λ l. with_first_frame frame (left_of_timed_feed l)) (sym rest)
Gives-timed None now None c (Ok (next.Time counter)) held e n none took = tt
Gives-timed None (Some ending) (Some x) c (Ok (next.Time counter)) held e n none took = absurd cc
Gives-timed None None (Some x) None (Ok (next.Time counter)) held e n none took = absurd (let after = took.1 in cc)
Gives-timed None None (Some x) (Some z) (Ok (next.Time counter)) held e n none took =
    let rest : z ≡ drop HEAD_LEN x = let after = took.1 in cc in
    timed-mark x counter took.0 ∙ ap (λ l. with_first_time counter (left_of_timed_feed l)) (sym rest)
Gives-timed None now None c (Ok next.End) held e n none took = tt
Gives-timed None None (Some x) c (Ok next.End) held e n none took = absurd cc
Gives-timed None (Some ending) (Some x) c (Ok next.End) held e n none took =
    let same : ending ≡ End = cc in
    (timed-ending x End (no_mark_at_end x took.0) took.0, ap (λ (d : SourceEnding). Some (no_frames d)) same)
Gives-timed None None a c (Err fault) held e n none took = absurd cc
Gives-timed None (Some ending) None c (Err fault) held e n none took = inr tt
Gives-timed None (Some ending) (Some x) c (Err fault) held e n none (inr device) = inl device
Gives-timed None (Some ending) (Some x) c (Err fault) held e n (inl device) (inl read) = inl device
Gives-timed None (Some ending) (Some x) c (Err fault) held e n (inr none) (inl read) =
    let same : ending ≡ Fault fault = cc in
    inr (timed-ending x (Fault fault) none read, ap (λ (d : SourceEnding). Some (no_frames d)) same)

Fails-timed : (ended now : Option SourceEnding) (a c : Option (List ℕ)) (result : Result Next SourceFault) → ended ≡ None → now ≡ source_ending_of result
    → result ≡ Err Device
    → Fails (left_of_timed ended a) ended (failures_before ended) (left_of_timed now c) (failures_before now)
Fails-timed (Some ending) now a c result e n r = absurd cc
Fails-timed None now None c result e n r = tt
Fails-timed None now (Some x) c (Ok answer) e n r = absurd cc
Fails-timed None None (Some x) c (Err fault) e n r = absurd cc
Fails-timed None (Some ending) (Some x) c (Err fault) e n r =
    let same : ending ≡ Fault Device = cc in
    (refl, subst (λ (d : SourceEnding). 0 < failures_before (Some d)) (sym same) (lit< tt), ap (λ (d : SourceEnding). Some (no_frames d)) same)

-- ---- with time marks or without

pub Gives-given : (timed : Bool) (ended now : Option SourceEnding) (a c : Option (List ℕ)) (result : Result Next SourceFault) (held : Option FrameData)
    → ended ≡ None → now ≡ source_ending_of result → (timed ≡ false → (counter : ℕ) → result ≡ Ok (next.Time counter) → ⊥)
    → IfErr result (λ fault. (fault ≡ Device) ⊎ IfSome a (λ bytes. mark_at timed bytes ≡ None))
    → IfSome a (λ bytes. TakesRecord bytes result held c) → Gives result (left_given timed ended a) held (left_given timed now c)
Gives-given false ended now a c result held e n timeless none took = Gives-taken ended now a c result held e n (timeless refl) took
Gives-given true ended now a c result held e n timeless none took = Gives-timed ended now a c result held e n none took

pub Fails-given : (timed : Bool) (ended now : Option SourceEnding) (a c : Option (List ℕ)) (result : Result Next SourceFault) → ended ≡ None
    → now ≡ source_ending_of result → result ≡ Err Device
    → Fails (left_given timed ended a) ended (failures_before ended) (left_given timed now c) (failures_before now)
Fails-given false ended now a c result e n r = Fails-device ended now a c result e n r
Fails-given true ended now a c result e n r = Fails-timed ended now a c result e n r
