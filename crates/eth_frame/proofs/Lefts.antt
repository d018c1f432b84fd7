-- What a source over a feed has left, before and after it took a record.
use Rattle.std.proofs.Common.{◌≡◌, ℕ, zero, suc, ◌+◌, ◌-◌, ◌<◌, ◌⊎◌, inl, inr, List, [], ◌∷◌, length, drop, Option, None}
use Rattle.std.proofs.Common.{Some, Result, Ok, Err, IfSome, IfErr, refl, sym, ap, subst, ◌∙◌, arith, lit<}
use Rattle.eth_frame.specs.declared.feed.head.TheConstants.{HEAD_LEN}
use Rattle.eth_frame.specs.declared.source.Next.{Next}
use Rattle.eth_frame.specs.declared.source.Next.TheVariants as next
use Rattle.eth_frame.specs.declared.source.SourceFault.{SourceFault}
use Rattle.eth_frame.specs.declared.source.SourceFault.TheVariants.{Device}
use Rattle.eth_frame.specs.declared.source.SourceEnding.{SourceEnding}
use Rattle.eth_frame.specs.declared.source.SourceEnding.TheVariants.{End, Fault}
use Rattle.eth_frame.specs.Frame.{FrameData}
use Rattle.eth_frame.specs.Source.{Left, no_frames, with_first_frame, source_ending_of, GivesFirst, GivesTime, GivesEnding, Fails}
use Rattle.eth_frame.specs.FeedRecord.{record_at}
use Rattle.eth_frame.specs.Feed.{left_from, left_of_feed, after_record, left_of_source, failures_before}
use Rattle.eth_frame.specs.FeedTaking.{TakesRecord}
use Rattle.eth_frame.proofs.Records.{record_at-nil}

-- to pass over bytes is to drop them
pub left_from-drop : (n : ℕ) (bytes : List ℕ) → left_from n bytes ≡ left_of_feed (drop n bytes)
unfolding left_from
left_from-drop zero bytes = refl
left_from-drop (suc n) [] = refl
left_from-drop (suc n) (b ∷ bs) = left_from-drop n bs

-- the bytes begin with a record
pub left_of_feed-frame : (bytes : List ℕ) (frame : FrameData) → record_at bytes ≡ Ok frame
    → left_of_feed bytes ≡ with_first_frame frame (left_of_feed (drop (HEAD_LEN + length frame.bytes) bytes))
unfolding left_from
left_of_feed-frame [] frame e = absurd (let nil = record_at-nil in cc)
left_of_feed-frame (b ∷ bs) frame e =
    let skipped = (length frame.bytes + HEAD_LEN) - 1 in
    let size : HEAD_LEN + length frame.bytes ≡ suc skipped = omega arith in
    ap (λ (r : Result FrameData SourceEnding). after_record r (λ n. left_from (n - 1) bs)) e
    ∙ ap (with_first_frame frame) (left_from-drop skipped bs ∙ ap (λ n. left_of_feed (drop n (b ∷ bs))) (sym size))

-- the bytes begin with no record
pub left_of_feed-ending : (bytes : List ℕ) (ending : SourceEnding) → record_at bytes ≡ Err ending → left_of_feed bytes ≡ no_frames ending
unfolding left_from
left_of_feed-ending [] ending e = let nil = record_at-nil in let same : End ≡ ending = cc in ap no_frames same
left_of_feed-ending (b ∷ bs) ending e = ap (λ (r : Result FrameData SourceEnding). after_record r (λ n. left_from (n - 1) bs)) e

-- ---- what an answer gives

-- the first frame, or the ending, if the device didn't fail
abbrev pub Gives : Result Next SourceFault → Option Left → Option FrameData → Option Left → Type 0
Gives (Ok next.Frame) old held new = GivesFirst old held new
Gives (Ok (next.Time counter)) old held new = GivesTime old counter new
Gives (Ok next.End) old held new = GivesEnding old End new
Gives (Err fault) old held new = (fault ≡ Device) ⊎ GivesEnding old (Fault fault) new

pub Gives-taken : (ended now : Option SourceEnding) (a c : Option (List ℕ)) (result : Result Next SourceFault) (held : Option FrameData) → ended ≡ None
    → now ≡ source_ending_of result → ((counter : ℕ) → result ≡ Ok (next.Time counter) → ⊥)
    → IfSome a (λ bytes. TakesRecord bytes result held c) → Gives result (left_of_source ended a) held (left_of_source now c)
Gives-taken (Some ending) now a c result held e n timeless took = absurd cc
Gives-taken None now None c (Ok next.Frame) held e n timeless took = tt
Gives-taken None now (Some x) c (Ok next.Frame) None e n timeless took = absurd took
Gives-taken None (Some ending) (Some x) c (Ok next.Frame) (Some frame) e n timeless took = absurd cc
Gives-taken None None (Some x) None (Ok next.Frame) (Some frame) e n timeless took = absurd (let after = took.1 in cc)
Gives-taken None None (Some x) (Some z) (Ok next.Frame) (Some frame) e n timeless took =
    let rest : z ≡ drop (HEAD_LEN + length frame.bytes) x = let after = took.1 in cc in
    left_of_feed-frame x frame took.0 ∙ ap (λ l. with_first_frame frame (left_of_feed l)) (sym rest)
Gives-taken None now a c (Ok (next.Time counter)) held e n timeless took = absurd (timeless counter refl)
Gives-taken None now None c (Ok next.End) held e n timeless took = tt
Gives-taken None None (Some x) c (Ok next.End) held e n timeless took = absurd cc
Gives-taken None (Some ending) (Some x) c (Ok next.End) held e n timeless took =
    let same : ending ≡ End = cc in
    (left_of_feed-ending x End took.0, ap (λ (d : SourceEnding). Some (no_frames d)) same)
Gives-taken None None a c (Err fault) held e n timeless took = absurd cc
Gives-taken None (Some ending) None c (Err fault) held e n timeless took = inr tt
Gives-taken None (Some ending) (Some x) c (Err fault) held e n timeless (inl read) =
    let same : ending ≡ Fault fault = cc in
    inr (left_of_feed-ending x (Fault fault) read, ap (λ (d : SourceEnding). Some (no_frames d)) same)
Gives-taken None (Some ending) (Some x) c (Err fault) held e n timeless (inr device) = inl device

pub Gives-frame : (result : Result Next SourceFault) (old : Option Left) (held : Option FrameData) (new : Option Left) → result ≡ Ok next.Frame
    → Gives result old held new → GivesFirst old held new
Gives-frame (Ok next.Frame) old held new is gives = gives
Gives-frame (Ok (next.Time counter)) old held new is gives = absurd cc
Gives-frame (Ok next.End) old held new is gives = absurd cc
Gives-frame (Err fault) old held new is gives = absurd cc

pub Gives-end : (result : Result Next SourceFault) (old : Option Left) (held : Option FrameData) (new : Option Left) → result ≡ Ok next.End
    → Gives result old held new → GivesEnding old End new
Gives-end (Ok next.Frame) old held new is gives = absurd cc
Gives-end (Ok (next.Time counter)) old held new is gives = absurd cc
Gives-end (Ok next.End) old held new is gives = gives
Gives-end (Err fault) old held new is gives = absurd cc

pub Gives-time : (result : Result Next SourceFault) (old : Option Left) (held : Option FrameData) (new : Option Left) (counter : ℕ)
    → result ≡ Ok (next.Time counter) → Gives result old held new → GivesTime old counter new
Gives-time (Ok next.Frame) old held new counter is gives = absurd cc
Gives-time (Ok (next.Time other)) old held new counter is gives =
    let same : other ≡ counter = cc in
    subst (λ k. GivesTime old k new) same gives
Gives-time (Ok next.End) old held new counter is gives = absurd cc
Gives-time (Err fault) old held new counter is gives = absurd cc

pub Gives-fault : (result : Result Next SourceFault) (old : Option Left) (held : Option FrameData) (new : Option Left) → Gives result old held new
    → IfErr result (λ fault. (fault ≡ Device) ⊎ GivesEnding old (Fault fault) new)
Gives-fault (Ok answer) old held new gives = tt
Gives-fault (Err fault) old held new gives = gives

-- the device failed
pub Fails-device : (ended now : Option SourceEnding) (a c : Option (List ℕ)) (result : Result Next SourceFault) → ended ≡ None → now ≡ source_ending_of result
    → result ≡ Err Device
    → Fails (left_of_source ended a) ended (failures_before ended) (left_of_source now c) (failures_before now)
Fails-device (Some ending) now a c result e n r = absurd cc
Fails-device None now None c result e n r = tt
Fails-device None now (Some x) c (Ok answer) e n r = absurd cc
Fails-device None None (Some x) c (Err fault) e n r = absurd cc
Fails-device None (Some ending) (Some x) c (Err fault) e n r =
    let same : ending ≡ Fault Device = cc in
    (refl, subst (λ (d : SourceEnding). 0 < failures_before (Some d)) (sym same) (lit< tt), ap (λ (d : SourceEnding). Some (no_frames d)) same)
