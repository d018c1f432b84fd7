-- Bytes are the feed of what they say, and of nothing else.
use Rattle.std.proofs.Common.{◌≡◌, ℕ, zero, suc, ◌+◌, ◌<◌, ◌≤◌, ◌⊎◌, inl, inr, Bool, true, false, ◌||◌, cond, eqb}
use Rattle.std.proofs.Common.{ltb, List, [], ◌∷◌, ◌++◌, length, get_or, take, drop, Option, None, Some, Result, Ok}
use Rattle.std.proofs.Common.{Err, refl, sym, ap, subst, ◌∙◌, append_assoc, arith, le_refl}
use Rattle.std.specs.List.{flat_map, AllByRecursion}
use Rattle.std.specs.Int.{w16, to_le_bytes, bytes_low_first}
use Rattle.std.proofs.lemmas.Bool.{lt-ltb, le-ltb, ltb-true, ltb-false, eqb-true, eqb-false, or_parts, or_cases, or_right}
use Rattle.std.proofs.lemmas.List.{length-append, length-take, length-drop, take_at, drop_at, take-append-drop, drop-drop, nil_from_length}
use Rattle.eth_frame.specs.declared.frame.TheConstants.{MIN_FRAME_LEN, MAX_FRAME_LEN}
use Rattle.eth_frame.specs.declared.feed.head.TheConstants.{HEAD_LEN, MAX_MARKS}
use Rattle.eth_frame.specs.declared.source.SourceFault.{SourceFault}
use Rattle.eth_frame.specs.declared.source.SourceFault.TheVariants.{Truncated, Length, Marks, Device}
use Rattle.eth_frame.specs.declared.source.SourceEnding.{SourceEnding}
use Rattle.eth_frame.specs.declared.source.SourceEnding.TheVariants.{End, Fault}
use Rattle.eth_frame.specs.Frame.{FrameData, IsFrame}
use Rattle.eth_frame.specs.Source.{Left, with_first_frame}
use Rattle.eth_frame.specs.FeedRecord.{marks_byte, feed_record_head, feed_record, counter_field, marks_field, length_field}
use Rattle.eth_frame.specs.FeedRecord.{has_crc_error, has_frame_error, head_fault, frame_at, body_at, record_at}
use Rattle.eth_frame.specs.Bytes.{AreBytes}
use Rattle.eth_frame.specs.Feed.{IsBadLength, EndsFeed, Feed, left_of_feed}
use Rattle.eth_frame.proofs.Bytes.{AreBytes-drop, two_bytes, six_bytes}
use Rattle.eth_frame.proofs.Records.{record_at-nil, record_at-short, record_at-whole, record_at-split, body_after, frame_after, from_parts}
use Rattle.eth_frame.proofs.Lefts.{left_of_feed-frame, left_of_feed-ending}
use Rattle.eth_frame.proofs.Fields.{counter_field-head_bytes, length_field-head_bytes, marks_byte-crc_error}
use Rattle.eth_frame.proofs.Fields.{marks_byte-frame_error, marks_byte-of, head_fault-record_head}

-- ---- what is spelled so is said

pub record_at-record : (frame : FrameData) (more : List ℕ) → IsFrame frame → record_at (feed_record frame ++ more) ≡ Ok frame
record_at-record frame more is =
    let head = feed_record_head frame in
    let rest = frame.bytes ++ more in
    let len : length_field head ≡ length frame.bytes = length_field-head_bytes frame.counter frame.crc_error frame.frame_error (length frame.bytes)
    (omega arith) in
    let whole : ltb (length rest) (length_field head) ≡ false = le-ltb _ _ (omega (arith, length-append frame.bytes more)) in
    let made : frame_after head rest ≡ frame =
    from_parts frame _ _ _ _ (sym (counter_field-head_bytes frame.counter frame.crc_error frame.frame_error (length frame.bytes) is.counter))
    (sym (marks_byte-crc_error frame.crc_error frame.frame_error)) (sym (marks_byte-frame_error frame.crc_error frame.frame_error))
    (ap (λ n. take n rest) len ∙ take_at frame.bytes more (length frame.bytes) refl) in
    ap record_at (append_assoc head frame.bytes more)
    ∙ record_at-split head rest refl
    ∙ ap (λ o. body_after o head rest) (head_fault-record_head frame is)
    ∙ rw whole refl
    ∙ ap (λ (f : FrameData). Ok f) made

head_fault-none : (bytes : List ℕ) → MIN_FRAME_LEN ≤ length_field bytes → length_field bytes ≤ MAX_FRAME_LEN → marks_field bytes ≤ MAX_MARKS
    → head_fault bytes ≡ None
head_fault-none bytes long short marks = rw (le-ltb _ _ long, le-ltb _ _ short, le-ltb _ _ marks) refl

head_fault-length : (bytes : List ℕ) → IsBadLength (length_field bytes) → head_fault bytes ≡ Some Length
head_fault-length bytes (inl low) = rw (lt-ltb _ _ low) refl
head_fault-length bytes (inr high) = rw (or_right (ltb (length_field bytes) MIN_FRAME_LEN) _ (lt-ltb _ _ high)) refl

head_fault-marks : (bytes : List ℕ) → MIN_FRAME_LEN ≤ length_field bytes → length_field bytes ≤ MAX_FRAME_LEN → MAX_MARKS < marks_field bytes
    → head_fault bytes ≡ Some Marks
head_fault-marks bytes long short marks = rw (le-ltb _ _ long, le-ltb _ _ short, lt-ltb _ _ marks) refl

pub Ends-record_at : (rest : List ℕ) (ending : SourceEnding) → EndsFeed rest ending → record_at rest ≡ Err ending
Ends-record_at rest End ends = ap record_at ends ∙ record_at-nil
Ends-record_at rest (Fault Truncated) (inl head) = record_at-short rest head.0 head.1
Ends-record_at rest (Fault Truncated) (inr body) =
    record_at-whole rest body.0 ∙ ap (λ o. body_at o rest) (head_fault-none rest body.1 body.2 body.3) ∙ rw (lt-ltb _ _ body.4) refl
Ends-record_at rest (Fault Length) ends = record_at-whole rest ends.0 ∙ ap (λ o. body_at o rest) (head_fault-length rest ends.1)
Ends-record_at rest (Fault Marks) ends = record_at-whole rest ends.0 ∙ ap (λ o. body_at o rest) (head_fault-marks rest ends.1 ends.2 ends.3)
Ends-record_at rest (Fault Device) ends = absurd ends

left_of_feed-records : (frames : List FrameData) (rest : List ℕ) (ending : SourceEnding) → AllByRecursion IsFrame frames → EndsFeed rest ending
    → left_of_feed (flat_map feed_record frames ++ rest) ≡ record { frames = frames; times = []; ending = ending }
left_of_feed-records [] rest ending each ends = left_of_feed-ending rest ending (Ends-record_at rest ending ends)
left_of_feed-records (f ∷ fs) rest ending each ends =
    let more = flat_map feed_record fs ++ rest in
    let size : length (feed_record f) ≡ HEAD_LEN + length f.bytes = omega arith in
    ap left_of_feed (append_assoc (feed_record f) (flat_map feed_record fs) rest)
    ∙ left_of_feed-frame (feed_record f ++ more) f (record_at-record f more each.0)
    ∙ ap (λ l. with_first_frame f (left_of_feed l)) (drop_at (feed_record f) more (HEAD_LEN + length f.bytes) size)
    ∙ ap (with_first_frame f) (left_of_feed-records fs rest ending each.1 ends)

pub said : (bytes : List ℕ) (frames : List FrameData) (ending : SourceEnding) → Feed bytes frames ending
    → left_of_feed bytes ≡ record { frames = frames; times = []; ending = ending }
said bytes frames ending feed = ap left_of_feed feed.whole ∙ left_of_feed-records frames feed.rest ending feed.in_range feed.ends

pub one : (bytes : List ℕ) (frames others : List FrameData) (ending other : SourceEnding) → Feed bytes frames ending → Feed bytes others other
    → (frames ≡ others) × (ending ≡ other)
one bytes frames others ending other a b =
    let same = sym (said bytes frames ending a) ∙ said bytes others other b in
    (ap (λ (l : Left). l.frames) same, ap (λ (l : Left). l.ending) same)

-- ---- what is said is spelled so

-- the first 9 bytes, one by one
pub head_cells : (bytes : List ℕ) → HEAD_LEN ≤ length bytes
    → bytes ≡ (get_or bytes 0 0 ∷ get_or bytes 1 0 ∷ get_or bytes 2 0 ∷ get_or bytes 3 0 ∷ get_or bytes 4 0 ∷ get_or bytes 5 0 ∷ get_or bytes 6 0
    ∷ get_or bytes 7 0 ∷ get_or bytes 8 0 ∷ []) ++ drop HEAD_LEN bytes
head_cells (a ∷ b ∷ c ∷ d ∷ e ∷ f ∷ g ∷ h ∷ i ∷ rest) whole = refl
head_cells short whole = absurd (omega arith)

counter_bytes : (bytes : List ℕ) → AreBytes bytes → bytes_low_first 0 6 (counter_field bytes)
    ≡ get_or bytes 0 0 ∷ get_or bytes 1 0 ∷ get_or bytes 2 0 ∷ get_or bytes 3 0 ∷ get_or bytes 4 0 ∷ get_or bytes 5 0 ∷ []
counter_bytes bytes fit = six_bytes _ _ _ _ _ _ (fit 0) (fit 1) (fit 2) (fit 3) (fit 4) (fit 5)

length_bytes : (bytes : List ℕ) → AreBytes bytes → to_le_bytes w16 (length_field bytes) ≡ get_or bytes 7 0 ∷ get_or bytes 8 0 ∷ []
length_bytes bytes fit = two_bytes _ _ (fit 7) (fit 8)

-- what a head's fields are where nothing is wrong with it
pub record IsWell (bytes : List ℕ) : Type 0 where
  pub long : MIN_FRAME_LEN ≤ length_field bytes
  pub short : length_field bytes ≤ MAX_FRAME_LEN
  pub marks : marks_field bytes ≤ MAX_MARKS

no_fault : (bad wrong : Bool) → cond bad (Some Length) (cond wrong (Some Marks) None) ≡ None → (bad ≡ false) × (wrong ≡ false)
no_fault true wrong e = absurd cc
no_fault false true e = absurd cc
no_fault false false e = (refl, refl)

well_head : (bytes : List ℕ) → head_fault bytes ≡ None → IsWell bytes
well_head bytes e =
    let tests = no_fault (ltb (length_field bytes) MIN_FRAME_LEN || ltb MAX_FRAME_LEN (length_field bytes)) (ltb MAX_MARKS (marks_field bytes)) e in
    let parts = or_parts _ _ tests.0 in
    record { long = ltb-false _ _ parts.0; short = ltb-false _ _ parts.1; marks = ltb-false _ _ tests.1 }

pub record Spelled (bytes : List ℕ) (frame : FrameData) : Type 0 where
  pub parts : bytes ≡ feed_record frame ++ drop (HEAD_LEN + length frame.bytes) bytes
  pub in_range : IsFrame frame

frame_at-Spelled : (bytes : List ℕ) → AreBytes bytes → IsWell bytes → HEAD_LEN + length_field bytes ≤ length bytes → Spelled bytes (frame_at bytes)
frame_at-Spelled bytes fit well whole =
    let n = length_field bytes in
    let rest = drop HEAD_LEN bytes in
    let marks = marks_byte (has_crc_error (marks_field bytes)) (has_frame_error (marks_field bytes)) in
    let len : length (take n rest) ≡ n = omega (arith, length-take n rest, length-drop HEAD_LEN bytes) in
    let tail : marks ∷ to_le_bytes w16 (length (take n rest)) ≡ get_or bytes 6 0 ∷ get_or bytes 7 0 ∷ get_or bytes 8 0 ∷ [] =
    ap (λ k. marks ∷ to_le_bytes w16 k) len ∙ ap (λ l. marks ∷ l) (length_bytes bytes fit)
    ∙ ap (λ m. m ∷ get_or bytes 7 0 ∷ get_or bytes 8 0 ∷ []) (marks_byte-of (marks_field bytes) well.marks) in
    let head : feed_record_head (frame_at bytes) ≡ get_or bytes 0 0 ∷ get_or bytes 1 0 ∷ get_or bytes 2 0 ∷ get_or bytes 3 0 ∷ get_or bytes 4 0
    ∷ get_or bytes 5 0 ∷ get_or bytes 6 0 ∷ get_or bytes 7 0 ∷ get_or bytes 8 0 ∷ [] =
    ap (λ l. l ++ (marks ∷ to_le_bytes w16 (length (take n rest)))) (counter_bytes bytes fit)
    ∙ ap (λ l. (get_or bytes 0 0 ∷ get_or bytes 1 0 ∷ get_or bytes 2 0 ∷ get_or bytes 3 0 ∷ get_or bytes 4 0 ∷ get_or bytes 5 0 ∷ []) ++ l) tail in
    let body : rest ≡ take n rest ++ drop (HEAD_LEN + length (take n rest)) bytes =
    sym (take-append-drop n rest) ∙ ap (λ l. take n rest ++ l) (drop-drop n HEAD_LEN bytes ∙ ap (λ k. drop (HEAD_LEN + k) bytes) (sym len)) in
    record {
      parts = head_cells bytes (omega arith) ∙ ap (λ l. l ++ rest) (sym head) ∙ ap (λ l. feed_record_head (frame_at bytes) ++ l) body
          ∙ sym (append_assoc (feed_record_head (frame_at bytes)) (take n rest) (drop (HEAD_LEN + length (take n rest)) bytes));
      in_range = record { counter = omega (arith, fit 0, fit 1, fit 2, fit 3, fit 4, fit 5); shortest = omega arith; longest = omega arith };
    }

-- what each answer of reading one record says of the tests

ok_tests : (none short : Bool) (whole : Result FrameData SourceEnding) (frame : FrameData)
    → cond none (Err End) (cond short (Err (Fault Truncated)) whole) ≡ Ok frame → (none ≡ false) × (short ≡ false) × (whole ≡ Ok frame)
ok_tests true short whole frame e = absurd cc
ok_tests false true whole frame e = absurd cc
ok_tests false false whole frame e = (refl, refl, e)

cond_ok : (short : Bool) (f frame : FrameData) (fault : SourceEnding) → cond short (Err fault) (Ok f) ≡ Ok frame → (short ≡ false) × (f ≡ frame)
cond_ok true f frame fault e = absurd cc
cond_ok false f frame fault e = (refl, cc)

body_at-ok : (o : Option SourceFault) (bytes : List ℕ) (frame : FrameData) → body_at o bytes ≡ Ok frame
    → (o ≡ None) × (HEAD_LEN + length_field bytes ≤ length bytes) × (frame_at bytes ≡ frame)
body_at-ok (Some fault) bytes frame e = absurd cc
body_at-ok None bytes frame e =
    let tests = cond_ok (ltb (length bytes) (HEAD_LEN + length_field bytes)) (frame_at bytes) frame (Fault Truncated) e in
    (refl, ltb-false _ _ tests.0, tests.1)

record_at-ok : (bytes : List ℕ) (frame : FrameData) → AreBytes bytes → record_at bytes ≡ Ok frame → Spelled bytes frame × (HEAD_LEN ≤ length bytes)
unfolding record_at
record_at-ok bytes frame fit e =
    let tests = ok_tests (eqb (length bytes) 0) (ltb (length bytes) HEAD_LEN) (body_at (head_fault bytes) bytes) frame e in
    let body = body_at-ok (head_fault bytes) bytes frame tests.2 in
    (subst (Spelled bytes) body.2 (frame_at-Spelled bytes fit (well_head bytes body.0) body.1), ltb-false _ _ tests.1)

err_tests : (none short : Bool) (whole : Result FrameData SourceEnding) (ending : SourceEnding)
    → cond none (Err End) (cond short (Err (Fault Truncated)) whole) ≡ Err ending
    → ((none ≡ true) × (End ≡ ending)) ⊎ (((none ≡ false) × (short ≡ true) × (Fault Truncated ≡ ending)) ⊎ ((short ≡ false) × (whole ≡ Err ending)))
err_tests true short whole ending e = inl (refl, cc)
err_tests false true whole ending e = inr (inl (refl, refl, cc))
err_tests false false whole ending e = inr (inr (refl, e))

cond_err : (short : Bool) (f : FrameData) (fault ending : SourceEnding) → cond short (Err fault) (Ok f) ≡ Err ending → (short ≡ true) × (fault ≡ ending)
cond_err true f fault ending e = (refl, cc)
cond_err false f fault ending e = absurd cc

fault_tests : (bad wrong : Bool) (fault : SourceFault) → cond bad (Some Length) (cond wrong (Some Marks) None) ≡ Some fault
    → ((bad ≡ true) × (Length ≡ fault)) ⊎ ((bad ≡ false) × (wrong ≡ true) × (Marks ≡ fault))
fault_tests true wrong fault e = inl (refl, cc)
fault_tests false true fault e = inr (refl, refl, cc)
fault_tests false false fault e = absurd cc

bad_length : (n : ℕ) → (ltb n MIN_FRAME_LEN || ltb MAX_FRAME_LEN n) ≡ true → IsBadLength n
bad_length n e = elim (or_cases _ _ e) [ inl low ↦ inl (ltb-true _ _ low) | inr high ↦ inr (ltb-true _ _ high) ]

head_fault-Ends : (bytes : List ℕ) (fault : SourceFault) → HEAD_LEN ≤ length bytes → head_fault bytes ≡ Some fault → EndsFeed bytes (Fault fault)
head_fault-Ends bytes fault whole e =
    elim (fault_tests (ltb (length_field bytes) MIN_FRAME_LEN || ltb MAX_FRAME_LEN (length_field bytes)) (ltb MAX_MARKS (marks_field bytes)) fault e) [
      | inl bad ↦ subst (λ (f : SourceFault). EndsFeed bytes (Fault f)) bad.1 (whole, bad_length _ bad.0)
      | inr wrong ↦
          let parts = or_parts _ _ wrong.0 in
          subst (λ (f : SourceFault). EndsFeed bytes (Fault f)) wrong.2 (whole, ltb-false _ _ parts.0, ltb-false _ _ parts.1, ltb-true _ _ wrong.1)
    ]

body_at-Ends : (o : Option SourceFault) (bytes : List ℕ) (ending : SourceEnding) → HEAD_LEN ≤ length bytes → head_fault bytes ≡ o
    → body_at o bytes ≡ Err ending → EndsFeed bytes ending
body_at-Ends (Some fault) bytes ending whole o-is e =
    let same : Fault fault ≡ ending = cc in
    subst (EndsFeed bytes) same (head_fault-Ends bytes fault whole o-is)
body_at-Ends None bytes ending whole o-is e =
    let well = well_head bytes o-is in
    let tests = cond_err (ltb (length bytes) (HEAD_LEN + length_field bytes)) (frame_at bytes) (Fault Truncated) ending e in
    subst (EndsFeed bytes) tests.1 (inr (whole, well.long, well.short, well.marks, ltb-true _ _ tests.0))

above_zero : (n : ℕ) → (n ≡ 0 → ⊥) → 0 < n
above_zero zero some = absurd (some refl)
above_zero (suc n) some = omega arith

pub record_at-Ends : (bytes : List ℕ) (ending : SourceEnding) → record_at bytes ≡ Err ending → EndsFeed bytes ending
unfolding record_at
record_at-Ends bytes ending e =
    elim (err_tests (eqb (length bytes) 0) (ltb (length bytes) HEAD_LEN) (body_at (head_fault bytes) bytes) ending e) [
      | inl none ↦ subst (EndsFeed bytes) none.1 (nil_from_length bytes (eqb-true _ _ none.0))
      | inr some ↦
          elim some [
            | inl short ↦ subst (EndsFeed bytes) short.2 (inl (above_zero _ (eqb-false _ _ short.0), ltb-true _ _ short.1))
            | inr whole ↦ body_at-Ends (head_fault bytes) bytes ending (ltb-false _ _ whole.0) refl whole.1
          ]
    ]

-- a feed with one more record in front
Feed-cons : (bytes more : List ℕ) (frame : FrameData) (left : Left) → bytes ≡ feed_record frame ++ more → IsFrame frame → Feed more left.frames left.ending
    → Feed bytes (frame ∷ left.frames) left.ending
Feed-cons bytes more frame left parts is feed = record {
  rest = feed.rest;
  whole = parts ∙ ap (λ l. feed_record frame ++ l) feed.whole ∙ sym (append_assoc (feed_record frame) (flat_map feed_record left.frames) feed.rest);
  in_range = (is, feed.in_range);
  ends = feed.ends;
}

Feed-step : (n : ℕ) (bytes : List ℕ) (read : Result FrameData SourceEnding) → length bytes ≤ suc n → AreBytes bytes → record_at bytes ≡ read
    → ((more : List ℕ) → length more ≤ n → AreBytes more → Feed more (left_of_feed more).frames (left_of_feed more).ending)
    → Feed bytes (left_of_feed bytes).frames (left_of_feed bytes).ending
Feed-step n bytes (Err ending) few fit e rest =
    let left = left_of_feed-ending bytes ending e in
    subst (λ (l : Left). Feed bytes l.frames l.ending) (sym left) (record { rest = bytes; whole = refl; in_range = tt; ends = record_at-Ends bytes ending e })
Feed-step n bytes (Ok frame) few fit e rest =
    let size = HEAD_LEN + length frame.bytes in
    let more = drop size bytes in
    let (spelled, whole) = record_at-ok bytes frame fit e in
    let fewer : length more ≤ n = omega (arith, length-drop size bytes) in
    let left = left_of_feed-frame bytes frame e in
    subst (λ (l : Left). Feed bytes l.frames l.ending) (sym left)
    (Feed-cons bytes more frame (left_of_feed more) spelled.parts spelled.in_range (rest more fewer (AreBytes-drop size bytes fit)))

Feed-nil : Feed [] (left_of_feed []).frames (left_of_feed []).ending
Feed-nil = subst (λ (l : Left). Feed [] l.frames l.ending) (sym (left_of_feed-ending [] End record_at-nil))
    (record { rest = []; whole = refl; in_range = tt; ends = refl })

Feed-left : (n : ℕ) (bytes : List ℕ) → length bytes ≤ n → AreBytes bytes → Feed bytes (left_of_feed bytes).frames (left_of_feed bytes).ending
Feed-left zero bytes few fit = subst (λ l. Feed l (left_of_feed l).frames (left_of_feed l).ending) (sym (nil_from_length bytes (omega arith))) Feed-nil
Feed-left (suc n) bytes few fit = Feed-step n bytes (record_at bytes) few fit refl (λ more fewer fits. Feed-left n more fewer fits)

pub meant : (bytes : List ℕ) (frames : List FrameData) (ending : SourceEnding) → AreBytes bytes
    → left_of_feed bytes ≡ record { frames = frames; times = []; ending = ending } → Feed bytes frames ending
meant bytes frames ending fit e = subst (λ (l : Left). Feed bytes l.frames l.ending) e (Feed-left (length bytes) bytes (le_refl _) fit)
