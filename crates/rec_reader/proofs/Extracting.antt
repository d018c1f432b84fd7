-- Counts of frames that were extracted.
use Rattle.std.proofs.Common.{ℕ, ◌≡◌, ◌≤◌, ◌+◌, Bool, true, false, cond, List, [], ◌∷◌, ◌++◌, length, refl, sym, ap, subst, ◌∙◌, arith}
use Rattle.std.specs.Prelude.{◌==◌, nat_le, not, count_by, if◌then◌else◌, Result, Ok, Err, OnOk}
use Rattle.std.proofs.lemmas.Bool.{eq-eqb, eqb-true, le-leb, leb-true, and_from, and_parts, ne_eqb}
use Rattle.std.proofs.lemmas.List.{append-nil, append_assoc}
use Rattle.std.proofs.lemmas.List.Concat.{flat_map-append}
use Rattle.std.proofs.lemmas.List.Sums.{sum_by-append}
use Rattle.eth_frame.specs.declared.frame.TheConstants.{MIN_FRAME_LEN}
use Rattle.ch11_packet.specs.FramesRead.{ReadFrameData}
use Rattle.ch11_packet.specs.declared.class.What.{What}
use Rattle.ch11_packet.specs.declared.class.What.TheVariants.{Frames}
use Rattle.rec_reader.specs.declared.extract.Extracted.{Extracted}
use Rattle.rec_reader.specs.Packets.{PacketData}
use Rattle.rec_reader.specs.ChannelFrames.{channel_frames, frames_held, has_record}
use Rattle.rec_reader.specs.Extracting.{Counts, grown, is_passed}

-- ---- one frame

in_record : (frame : ReadFrameData) → frame.content ≡ 0 → MIN_FRAME_LEN ≤ length frame.bytes → has_record frame ≡ true
in_record frame content long = and_from (frame.content == 0) (nat_le MIN_FRAME_LEN (length frame.bytes)) (eq-eqb frame.content 0 content)
    (le-leb MIN_FRAME_LEN (length frame.bytes) long)

without_by : (frame : ReadFrameData) (has : Bool) → has_record frame ≡ has → (frame.content ≡ 0 → MIN_FRAME_LEN ≤ length frame.bytes → ⊥)
    → has_record frame ≡ false
without_by frame false e isnt = e
without_by frame true e isnt =
    let parts = and_parts (frame.content == 0) (nat_le MIN_FRAME_LEN (length frame.bytes)) e in
    absurd (isnt (eqb-true frame.content 0 parts.0) (leb-true MIN_FRAME_LEN (length frame.bytes) parts.1))

-- a count that didn't grow
grown_none : (count : ℕ) → count ≡ grown count 0
grown_none count = omega arith

-- a frame that has a record is counted with the frames, and another one with those passed over
counts_by : (frame : ReadFrameData) (has : Bool) → has_record frame ≡ has
    → (count_by has_record (frame ∷ []) ≡ cond has 1 0) × (count_by is_passed (frame ∷ []) ≡ cond (not has) 1 0)
counts_by frame has is = (ap (λ b. 0 + cond b 1 0) is ∙ zero_more (cond has 1 0), ap (λ b. 0 + cond (not b) 1 0) is ∙ zero_more (cond (not has) 1 0))
  where
    zero_more : (n : ℕ) → 0 + n ≡ n
    zero_more n = omega arith

pub counts_record : (old new : Extracted) (frame : ReadFrameData) → frame.content ≡ 0 → MIN_FRAME_LEN ≤ length frame.bytes → new.frames ≡ grown old.frames 1
    → new.passed ≡ old.passed → Counts old new (frame ∷ [])
counts_record old new frame content long grew same =
    let is = counts_by frame true (in_record frame content long) in
    record {
      frames_are = grew ∙ ap (grown old.frames) (sym is.0);
      passed_are = same ∙ grown_none old.passed ∙ ap (grown old.passed) (sym is.1);
    }

pub counts_passed : (old new : Extracted) (frame : ReadFrameData) → (frame.content ≡ 0 → MIN_FRAME_LEN ≤ length frame.bytes → ⊥)
    → new.passed ≡ grown old.passed 1 → new.frames ≡ old.frames → Counts old new (frame ∷ [])
counts_passed old new frame isnt grew same =
    let is = counts_by frame false (without_by frame (has_record frame) refl isnt) in
    record {
      frames_are = same ∙ grown_none old.frames ∙ ap (grown old.frames) (sym is.0);
      passed_are = grew ∙ ap (grown old.passed) (sym is.1);
    }

-- ---- more frames

pub counts_none : (old : Extracted) → Counts old old []
counts_none old = record { frames_are = grown_none old.frames; passed_are = grown_none old.passed }

-- a packet that holds something else has no frames
no_frames : (what : What) (bytes : List ℕ) → ((count : ℕ) → what ≡ Frames count → ⊥) → [] ≡ frames_held what bytes
no_frames (Frames count) bytes none = absurd (none count refl)
no_frames _ bytes none = refl

pub counts_nothing : (old : Extracted) (what : What) (bytes : List ℕ) → ((count : ℕ) → what ≡ Frames count → ⊥) → Counts old old (frames_held what bytes)
counts_nothing old what bytes none = subst (Counts old old) (no_frames what bytes none) (counts_none old)

-- and one of another channel none of this one
pub counts_elsewhere : (old : Extracted) (own channel : ℕ) (frames : List ReadFrameData) → (own ≡ channel → ⊥)
    → Counts old old ((if own == channel then frames else []) ++ [])
counts_elsewhere old own channel frames differs = subst (λ b. Counts old old ((if b then frames else []) ++ [])) (sym (ne_eqb own channel differs))
    (counts_none old)

-- whatever the answer
pub on_ok : {T E : Type 0} {P : Type 0} (r : Result T E) → P → OnOk r P
on_ok (Ok x) p = p
on_ok (Err e) p = tt

grown_twice : (count some more : ℕ) → grown (grown count some) more ≡ grown count (some + more)
grown_twice count some more = omega arith

pub counts_more : (old held new : Extracted) (some more : List ReadFrameData) → Counts old held some → Counts held new more → Counts old new (some ++ more)
counts_more old held new some more a b =
    let frames : count_by has_record (some ++ more) ≡ count_by has_record some + count_by has_record more =
    sum_by-append (λ x. cond (has_record x) 1 0) some more in
    let passed : count_by is_passed (some ++ more) ≡ count_by is_passed some + count_by is_passed more =
    sum_by-append (λ x. cond (is_passed x) 1 0) some more in
    record {
      frames_are = b.frames_are ∙ ap (λ n. grown n (count_by has_record more)) a.frames_are
          ∙ grown_twice old.frames (count_by has_record some) (count_by has_record more) ∙ ap (grown old.frames) (sym frames);
      passed_are = b.passed_are ∙ ap (λ n. grown n (count_by is_passed more)) a.passed_are
          ∙ grown_twice old.passed (count_by is_passed some) (count_by is_passed more) ∙ ap (grown old.passed) (sym passed);
    }

-- what was counted of the frames that a walk meets
pub record Counted (old new : Extracted) (left all : List ReadFrameData) : Type 0 where
  pub met : List ReadFrameData
  pub counts : Counts old new met
  pub whole : met ++ left ≡ all

pub counts_next : (old held new : Extracted) (frame : ReadFrameData) (left rest all : List ReadFrameData) → Counted old held left all → left ≡ frame ∷ rest
    → Counts held new (frame ∷ []) → Counted old new rest all
counts_next old held new frame left rest all before is one = record {
  met = before.met ++ frame ∷ [];
  counts = counts_more old held new before.met (frame ∷ []) before.counts one;
  whole = append_assoc before.met (frame ∷ []) rest ∙ ap (λ l. before.met ++ l) (sym is) ∙ before.whole;
}

pub counts_begun : (old : Extracted) (all : List ReadFrameData) → Counted old old all all
counts_begun old all = record { met = []; counts = counts_none old; whole = refl }

-- what was counted of the packets of a channel, and of a further one
pub counts_packet : (old held new : Extracted) (channel : ℕ) (packets : List PacketData) (packet : PacketData)
    → Counts old held (channel_frames channel packets) → Counts held new (channel_frames channel (packet ∷ []))
    → Counts old new (channel_frames channel (packets ++ packet ∷ []))
counts_packet old held new channel packets packet a b =
    subst (Counts old new) (sym (flat_map-append _ packets (packet ∷ [])))
    (counts_more old held new (channel_frames channel packets) (channel_frames channel (packet ∷ [])) a b)
