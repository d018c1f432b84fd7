-- The packets of moments, and what one moment more makes of them.
use Rattle.std.proofs.Common.{ℕ, ◌≡◌, inl, inr, true, false, List, [], ◌∷◌, ◌++◌, Option, None, Some, refl, sym, ◌∙◌, ap, map}
use Rattle.std.specs.Prelude.{if◌then◌else◌, ◌==◌}
use Rattle.std.specs.List.{filter}
use Rattle.std.proofs.lemmas.Bool.{cases_Bool, both_ways}
use Rattle.std.proofs.lemmas.List.{append-nil, map-append}
use Rattle.std.proofs.lemmas.List.Elements.{filter-append}
use Rattle.std.proofs.lemmas.Grind.{flat_map-append}
use Rattle.eth_frame.specs.Frame.{FrameData}
use Rattle.rec_lane.specs.Offered.{OfferedFrame, accepted, frames_of, is_accepted}
use Rattle.rec_lane.specs.Parts.{ended_parts, last_part, as_part}
use Rattle.rec_lane.specs.Packets.{has_room}
use Rattle.rec_lane.specs.Moments.{Moment, frame_moment, moments_at, moments_of, moment_counter, kept_at, kept_in, is_span_due, has_room_for, joins, stays}
use Rattle.rec_lane.specs.Moments.{closed_packets, open_packet}
use Rattle.rec_lane.specs.Moments.Moment.{OfTime}
use Rattle.rec_lane.proofs.Parted.{ended_on, last_on, ended_off, last_off}

-- ---- moments of frames

pub accepted_more : (before more : List OfferedFrame) → accepted (before ++ more) ≡ accepted before ++ accepted more
accepted_more before more =
    ap frames_of (filter-append is_accepted before more)
    ∙ map-append (λ (f : OfferedFrame). f.frame) (filter is_accepted before) (filter is_accepted more)

pub dropped : (x : OfferedFrame) → (x.value == 0) ≡ true → accepted (x ∷ []) ≡ []
dropped x so = rw so refl

pub taken : (x : OfferedFrame) → (x.value == 0) ≡ false → accepted (x ∷ []) ≡ x.frame ∷ []
taken x so = rw so refl

pub kept_more : (moments more : List Moment) → kept_in (moments ++ more) ≡ kept_in moments ++ kept_in more
kept_more moments more = flat_map-append kept_at moments more

pub moments_more : (before more : List OfferedFrame) → moments_of (before ++ more) ≡ moments_of before ++ moments_of more
moments_more before more = flat_map-append moments_at before more

-- time marks keep nothing
times_keep_none : (times : List ℕ) → kept_in (map OfTime times) ≡ []
times_keep_none [] = refl
times_keep_none (t ∷ ts) = times_keep_none ts

kept_one : (f : OfferedFrame) → kept_in (moments_at f) ≡ accepted (f ∷ [])
kept_one f = elim (cases_Bool (f.value == 0)) as (λ _. kept_in (moments_at f) ≡ accepted (f ∷ [])) [
  | inl zero_value ↦ rw zero_value (times_keep_none f.times)
  | inr some_value ↦ rw some_value (ap (λ fs. f.frame ∷ fs) (times_keep_none f.times))
]

-- what is kept at the moments of frames are the accepted ones
pub kept_moments : (offered : List OfferedFrame) → kept_in (moments_of offered) ≡ accepted offered
kept_moments [] = refl
kept_moments (f ∷ fs) =
    kept_more (moments_at f) (moments_of fs)
    ∙ (ap (λ ks. ks ++ kept_in (moments_of fs)) (kept_one f)
    ∙ (ap (λ ks. accepted (f ∷ []) ++ ks) (kept_moments fs) ∙ sym (accepted_more (f ∷ []) fs)))

-- ---- one moment more

-- it is of the open packet
pub closed_on : (limit : ℕ) (span : Option ℕ) (moments : List Moment) (m : Moment) → joins limit span (open_packet limit span moments) m ≡ true
    → closed_packets limit span (moments ++ m ∷ []) ≡ closed_packets limit span moments
closed_on limit span moments m so = ap (map kept_in) (ended_on (stays limit span) [] moments m so)

pub open_on : (limit : ℕ) (span : Option ℕ) (moments : List Moment) (m : Moment) → joins limit span (open_packet limit span moments) m ≡ true
    → open_packet limit span (moments ++ m ∷ []) ≡ open_packet limit span moments ++ kept_at m
open_on limit span moments m so =
    ap kept_in (last_on (stays limit span) [] moments m so)
    ∙ (kept_more (last_part (stays limit span) moments) (m ∷ [])
    ∙ ap (λ ks. open_packet limit span moments ++ ks) (append-nil (kept_at m)))

-- or it closes it
pub closed_off : (limit : ℕ) (span : Option ℕ) (moments : List Moment) (m : Moment) → joins limit span (open_packet limit span moments) m ≡ false
    → closed_packets limit span (moments ++ m ∷ []) ≡ closed_packets limit span moments ++ open_packet limit span moments ∷ []
closed_off limit span moments m so =
    ap (map kept_in) (ended_off (stays limit span) [] moments m so)
    ∙ map-append kept_in (ended_parts (stays limit span) moments) (last_part (stays limit span) moments ∷ [])

pub open_off : (limit : ℕ) (span : Option ℕ) (moments : List Moment) (m : Moment) → joins limit span (open_packet limit span moments) m ≡ false
    → open_packet limit span (moments ++ m ∷ []) ≡ kept_at m
open_off limit span moments m so = ap kept_in (last_off (stays limit span) [] moments m so) ∙ append-nil (kept_at m)

-- nothing is due where there are no frames, so what has room there joins
pub none_due : (span : Option ℕ) (counter : ℕ) → is_span_due span [] counter ≡ false
none_due None counter = refl
none_due (Some span) counter = refl

pub joins_none : (limit : ℕ) (span : Option ℕ) (m : Moment) → has_room_for limit [] m ≡ true → joins limit span [] m ≡ true
joins_none limit span m roomy = ap (λ b. if b then false else has_room_for limit [] m) (none_due span (moment_counter m)) ∙ roomy

-- so what is closed has frames
pub some_closed : (limit : ℕ) (span : Option ℕ) (frames : List FrameData) (m : Moment) → has_room_for limit [] m ≡ true
    → joins limit span frames m ≡ false → as_part frames ≡ frames ∷ []
some_closed limit span [] m roomy off = absurd (both_ways _ off (joins_none limit span m roomy))
some_closed limit span (f ∷ fs) m roomy off = refl

-- the packets after a moment more, with the one that went out
pub closed_with : (limit : ℕ) (span : Option ℕ) (moments : List Moment) (m : Moment) → has_room_for limit [] m ≡ true
    → closed_packets limit span (moments ++ m ∷ []) ≡ closed_packets limit span moments
    ++ (if joins limit span (open_packet limit span moments) m then [] else as_part (open_packet limit span moments))
closed_with limit span moments m roomy =
    let frames = open_packet limit span moments in
    elim (cases_Bool (joins limit span frames m)) as (λ _. closed_packets limit span (moments ++ m ∷ []) ≡ closed_packets limit span moments
    ++ (if joins limit span frames m then [] else as_part frames)) [
      | inl on ↦
          closed_on limit span moments m on
          ∙ sym (ap (λ b. closed_packets limit span moments ++ (if b then [] else as_part frames)) on ∙ append-nil (closed_packets limit span moments))
      | inr off ↦
          closed_off limit span moments m off
          ∙ (ap (λ ps. closed_packets limit span moments ++ ps) (sym (some_closed limit span frames m roomy off))
          ∙ sym (ap (λ b. closed_packets limit span moments ++ (if b then [] else as_part frames)) off))
    ]

pub open_with : (limit : ℕ) (span : Option ℕ) (moments : List Moment) (m : Moment)
    → open_packet limit span (moments ++ m ∷ [])
    ≡ (if joins limit span (open_packet limit span moments) m then open_packet limit span moments ++ kept_at m else kept_at m)
open_with limit span moments m =
    let frames = open_packet limit span moments in
    elim (cases_Bool (joins limit span frames m)) as (λ _. open_packet limit span (moments ++ m ∷ [])
    ≡ (if joins limit span frames m then frames ++ kept_at m else kept_at m)) [
      | inl on ↦ open_on limit span moments m on ∙ sym (ap (λ b. if b then frames ++ kept_at m else kept_at m) on)
      | inr off ↦ open_off limit span moments m off ∙ sym (ap (λ b. if b then frames ++ kept_at m else kept_at m) off)
    ]

-- the first moment of all
pub closed_first : (limit : ℕ) (span : Option ℕ) (m : Moment) → has_room_for limit [] m ≡ true → closed_packets limit span (m ∷ []) ≡ []
closed_first limit span m roomy = closed_on limit span [] m (joins_none limit span m roomy)

pub open_first : (limit : ℕ) (span : Option ℕ) (m : Moment) → open_packet limit span (m ∷ []) ≡ kept_at m
open_first limit span m = elim (cases_Bool (joins limit span [] m)) as (λ _. open_packet limit span (m ∷ []) ≡ kept_at m) [
  | inl on ↦ open_on limit span [] m on
  | inr off ↦ open_off limit span [] m off
]

-- a frame that fits alone has room, whether it is kept or not
pub room_for : (limit : ℕ) (f : FrameData) (value : ℕ) → has_room limit [] f ≡ true → has_room_for limit [] (frame_moment f value) ≡ true
room_for limit f value roomy = elim (cases_Bool (value == 0)) as (λ _. has_room_for limit [] (frame_moment f value) ≡ true) [
  | inl zero_value ↦ rw zero_value refl
  | inr some_value ↦ rw some_value roomy
]
