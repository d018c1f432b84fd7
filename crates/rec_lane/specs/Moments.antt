-- The packets of a group of frames where packets have a span beside their limit: a packet is closed
-- by the first moment that is a span after its first frame, or whose frame has no room.
use Rattle.std.specs.Prelude.{ℕ, ◌≡◌, ◌≢◌, ◌+◌, ◌-◌, ◌%◌, ◌^◌, ◌<◌, ◌≤◌, ◌==◌, nat_le, Bool, true}
use Rattle.std.specs.Prelude.{false, not, if◌then◌else◌}
use Rattle.std.specs.Prelude.{List, [], ◌∷◌, ◌++◌, length, map, All, Option, None, Some}
use Rattle.std.specs.List.{flat_map}
use Rattle.eth_frame.specs.Frame.{FrameData}
use Rattle.rec_lane.specs.Offered.{OfferedFrame}
use Rattle.rec_lane.specs.Parts.{ended_parts, last_part, as_part}
use Rattle.rec_lane.specs.Packets.{FitsLimit, has_room}

-- ---- moments

-- a moment of a channel: a frame that was offered, which was kept or not, or a time mark
pub data Moment : Type 0 where
  OfFrame : (frame : FrameData) (kept : Bool) → Moment
  OfTime : (counter : ℕ) → Moment

-- that of a frame for which its program returned this value
abbrev pub frame_moment : FrameData → (value : ℕ) → Moment
frame_moment f value = OfFrame f (not (value == 0))

-- those of an offered frame: its own, and those of the time marks after it
abbrev pub moments_at : OfferedFrame → List Moment
moments_at f = frame_moment f.frame f.value ∷ map OfTime f.times

abbrev pub moments_of : List OfferedFrame → List Moment
moments_of offered = flat_map moments_at offered

-- the counter of a moment, and the frame that was kept at it, if one was
abbrev pub moment_counter : Moment → ℕ
moment_counter (OfFrame f kept) = f.counter
moment_counter (OfTime counter) = counter

abbrev pub kept_at : Moment → List FrameData
kept_at (OfFrame f true) = f ∷ []
kept_at other = []

abbrev pub kept_in : List Moment → List FrameData
kept_in moments = flat_map kept_at moments

-- ---- packets

-- how much later this counter is than a first one, as counters of 48 bits go round
abbrev pub age : (first counter : ℕ) → ℕ
age first counter = (counter + 2 ^ 48 - first) % 2 ^ 48

-- whether this counter is a span or more after that of the first of these frames
abbrev pub is_span_due : Option ℕ → List FrameData → (counter : ℕ) → Bool
is_span_due None frames counter = false
is_span_due (Some span) [] counter = false
is_span_due (Some span) (f ∷ fs) counter = nat_le span (age f.counter counter)

-- whether the packet of these frames has room for the frame that was kept, if one was
abbrev pub has_room_for : ℕ → List FrameData → Moment → Bool
has_room_for limit frames (OfFrame f true) = has_room limit frames f
has_room_for limit frames other = true

-- whether the moment is one of the packet of these frames
abbrev pub joins : (limit : ℕ) → Option ℕ → List FrameData → Moment → Bool
joins limit span frames m =
    if is_span_due span frames (moment_counter m) then false else has_room_for limit frames m

-- whether it is one of the packet of these moments
abbrev pub stays : (limit : ℕ) → Option ℕ → List Moment → Moment → Bool
stays limit span moments m = joins limit span (kept_in moments) m

-- the packets of these moments: those that are closed, and the frames of the last one, to which
-- more may be added
abbrev pub closed_packets : (limit : ℕ) → Option ℕ → List Moment → List (List FrameData)
closed_packets limit span moments = map kept_in (ended_parts (stays limit span) moments)

abbrev pub open_packet : (limit : ℕ) → Option ℕ → List Moment → List FrameData
open_packet limit span moments = kept_in (last_part (stays limit span) moments)

-- all packets
abbrev pub packets_of : (limit : ℕ) → Option ℕ → List Moment → List (List FrameData)
packets_of limit span moments =
    closed_packets limit span moments ++ as_part (open_packet limit span moments)

-- ---- what they are

-- no moment is a span after the first frame that is kept before it
abbrev pub IsYoung : Option ℕ → List Moment → Type 0
IsYoung span moments =
    (before after : List Moment) (m : Moment) → moments ≡ before ++ m ∷ after
    → is_span_due span (kept_in before) (moment_counter m) ≡ false

-- these moments are of one packet: its frames fit the limit, and no moment is a span after the
-- first
pub record AreTogether (limit : ℕ) (span : Option ℕ) (moments : List Moment) : Type 0 where
  pub fits : FitsLimit limit (kept_in moments)
  pub young : IsYoung span moments

-- the part is the longest beginning of these moments that is of one packet, and these are left
pub record IsLongestPart
    (limit : ℕ) (span : Option ℕ) (moments part rest : List Moment) : Type 0 where
  pub front : moments ≡ part ++ rest
  pub some : part ≢ []
  pub together : AreTogether limit span part
  pub longest : (other more : List Moment) →
      moments ≡ other ++ more → AreTogether limit span other → length other ≤ length part

-- the moments are in these parts, each the longest beginning of what is left
abbrev pub AreLongestParts :
    (limit : ℕ) → Option ℕ → List Moment → List (List Moment) → Type 0
AreLongestParts limit span moments [] = moments ≡ []
AreLongestParts limit span moments (part ∷ more) =
    (rest : List Moment)
    × IsLongestPart limit span moments part rest × AreLongestParts limit span rest more

-- those of the parts that have frames are the packets
abbrev pub with_kept : List (List Moment) → List (List FrameData)
with_kept [] = []
with_kept (part ∷ more) = as_part (kept_in part) ++ with_kept more

-- each frame is less than a span after the first of them
abbrev pub AreWithinSpan : Option ℕ → List FrameData → Type 0
AreWithinSpan None frames = Unit {0}
AreWithinSpan (Some span) [] = Unit {0}
AreWithinSpan (Some span) (f ∷ fs) = All (λ (g : FrameData). age f.counter g.counter < span) fs
