-- A frame, and the end of a channel, make few pieces certain.
-- idea: only the last group and its last packet can be ended by them, and the next group begins with its program alone.
use Rattle.std.proofs.Common.{ℕ, ◌+◌, ◌≡◌, ◌≤◌, inl, inr, Bool, true, false, List, [], ◌∷◌, ◌++◌, length, refl, sym, ◌∙◌, ap, subst, arith, map}
use Rattle.std.specs.Prelude.{if◌then◌else◌}
use Rattle.std.specs.List.{flat_map}
use Rattle.std.proofs.lemmas.Bool.{cases_Bool, le-leb}
use Rattle.std.proofs.lemmas.List.{append_assoc, append-nil, map-append}
use Rattle.std.proofs.lemmas.Grind.{flat_map-append}
use Rattle.ch11_packet.specs.declared.limit.TheConstants.{MIN_LIMIT}
use Rattle.ch11_packet.specs.Frames.{data_len, frame_len}
use Rattle.ch11_packet.specs.PacketLen.{packet_len}
use Rattle.eth_frame.specs.Frame.{FrameData, IsFrame}
use Rattle.rec_lane.specs.Offered.{OfferedFrame, accepted, time_noted}
use Rattle.rec_lane.specs.Parts.{as_part}
use Rattle.rec_lane.specs.Packets.{has_room}
use Rattle.rec_lane.specs.Moments.{frame_moment, moments_of, joins, closed_packets}
use Rattle.rec_lane.specs.Moments.Moment.{OfTime}
use Rattle.rec_lane.specs.Pieces.{LaneSettings, PieceData, has_group_version, ended_groups, last_group, program_piece, data_piece, end_piece}
use Rattle.rec_lane.specs.Pieces.{closed_group_packets, open_group_packet, open_group_pieces, group_pieces, pieces_so_far, channel_pieces}
use Rattle.rec_lane.specs.Growth.{packets_in, AreFew, GrowsByFew}
use Rattle.rec_lane.proofs.Parted.{ended_on, last_on, ended_off, last_off}
use Rattle.rec_lane.proofs.Packing.{moments_more, closed_with, room_for}
use Rattle.rec_lane.proofs.Offering.{group_closed, one_frame}
use Rattle.rec_lane.specs.Pieces.{last_counter}
use Rattle.rec_lane.specs.Lanes.{LaneState, HasMet, version_of}
use Rattle.rec_lane.specs.Steps.{closes_at, time_pieces}
use Rattle.rec_lane.proofs.Beginnings.{all_pieces}
use Rattle.rec_lane.proofs.Noting.{makes_with_frames}

-- ---- few pieces

few_none : AreFew []
few_none = record { two = omega arith; one_packet = omega arith }

few_as_part : (s : LaneSettings) (frames : List FrameData) → AreFew (map (data_piece s) (as_part frames))
few_as_part s [] = few_none
few_as_part s (f ∷ fs) = record { two = omega arith; one_packet = omega arith }

few_and_other : (s : LaneSettings) (frames : List FrameData) (last : PieceData) → packets_in (last ∷ []) ≡ 0
    → AreFew (map (data_piece s) (as_part frames) ++ last ∷ [])
few_and_other s [] last none = record { two = omega arith; one_packet = omega (arith, none) }
few_and_other s (f ∷ fs) last none = record { two = omega arith; one_packet = omega (arith, none) }

few_if : (s : LaneSettings) (b : Bool) (frames : List FrameData) → AreFew (map (data_piece s) (if b then [] else as_part frames))
few_if s true frames = few_none
few_if s false frames = few_as_part s frames

-- ---- a frame more

roomy_frame : (limit : ℕ) (f : FrameData) → MIN_LIMIT ≤ limit → IsFrame f → has_room limit [] f ≡ true
roomy_frame limit f roomy frame =
    le-leb (packet_len (data_len [] + frame_len (length f.bytes))) limit (let longest = frame.longest in omega (arith, roomy, longest))

-- the moment of a frame after which no time mark came
moment_alone : (x : OfferedFrame) → x.times ≡ [] → moments_of (x ∷ []) ≡ frame_moment x.frame x.value ∷ []
moment_alone x none = ap (λ ts. frame_moment x.frame x.value ∷ (map OfTime ts ++ [])) none

closed_grows : (s : LaneSettings) (group : List OfferedFrame) (x : OfferedFrame) → x.times ≡ [] → has_room s.limit [] x.frame ≡ true
    → GrowsByFew (map (data_piece s) (closed_group_packets s group)) (map (data_piece s) (closed_group_packets s (group ++ x ∷ [])))
closed_grows s group x none roomy =
    let m = frame_moment x.frame x.value in
    let frames = open_group_packet s group in
    let more = if joins s.limit s.span frames m then [] else as_part frames in (
      map (data_piece s) more,
      ap (λ ms. map (data_piece s) (closed_packets s.limit s.span ms)) (moments_more group (x ∷ []) ∙ ap (λ ms. moments_of group ++ ms) (moment_alone x none))
          ∙ (ap (map (data_piece s)) (closed_with s.limit s.span (moments_of group) m (room_for s.limit x.frame x.value roomy))
          ∙ map-append (data_piece s) (closed_group_packets s group) more),
      few_if s (joins s.limit s.span frames m) frames,
    )

grows_behind : (front old new : List PieceData) → GrowsByFew old new → GrowsByFew (front ++ old) (front ++ new)
grows_behind front old new g = (g.0, ap (λ ps. front ++ ps) g.1 ∙ sym (append_assoc front old g.0), g.2)

-- the first frame of a group: its program, and no packet that is closed
first_alone : (s : LaneSettings) (x : OfferedFrame) → x.times ≡ [] → has_room s.limit [] x.frame ≡ true
    → open_group_pieces s (x ∷ []) ≡ program_piece s (x ∷ [])
first_alone s x none roomy =
    ap (λ ps. program_piece s (x ∷ []) ++ map (data_piece s) ps) (one_frame s x (moment_alone x none) roomy) ∙ append-nil (program_piece s (x ∷ []))

open_grows : (s : LaneSettings) (group : List OfferedFrame) (x : OfferedFrame) → x.times ≡ [] → has_room s.limit [] x.frame ≡ true
    → GrowsByFew (open_group_pieces s group) (open_group_pieces s (group ++ x ∷ []))
open_grows s [] x none roomy = (
  program_piece s (x ∷ []),
  first_alone s x none roomy,
  record { two = omega arith; one_packet = omega arith },
)
open_grows s (g ∷ gs) x none roomy = grows_behind (program_piece s (g ∷ gs)) _ _ (closed_grows s (g ∷ gs) x none roomy)

frame_grows : (s : LaneSettings) (offered : List OfferedFrame) (x : OfferedFrame) → x.times ≡ [] → has_room s.limit [] x.frame ≡ true
    → GrowsByFew (pieces_so_far s offered) (pieces_so_far s (offered ++ x ∷ []))
frame_grows s offered x none roomy =
    let gp = group_pieces s in
    let group = last_group offered in
    let ended = flat_map gp (ended_groups offered) in
    let last = map (data_piece s) (as_part (open_group_packet s group)) in
    elim (cases_Bool (has_group_version group x)) as (λ _. GrowsByFew (pieces_so_far s offered) (pieces_so_far s (offered ++ x ∷ []))) [
      | inl on ↦
          subst (λ gs. GrowsByFew (pieces_so_far s offered) (flat_map gp gs ++ open_group_pieces s (last_group (offered ++ x ∷ []))))
          (sym (ended_on has_group_version [] offered x on))
          (subst (λ g. GrowsByFew (pieces_so_far s offered) (ended ++ open_group_pieces s g)) (sym (last_on has_group_version [] offered x on))
          (grows_behind ended (open_group_pieces s group) (open_group_pieces s (group ++ x ∷ [])) (open_grows s group x none roomy)))
      | inr off ↦ (
        last ++ program_piece s (x ∷ []),
        ap (λ gs. flat_map gp gs ++ open_group_pieces s (last_group (offered ++ x ∷ []))) (ended_off has_group_version [] offered x off)
            ∙ (ap (λ g. flat_map gp (ended_groups offered ++ group ∷ []) ++ open_group_pieces s g) (last_off has_group_version [] offered x off)
            ∙ (ap (λ ps. flat_map gp (ended_groups offered ++ group ∷ []) ++ ps) (first_alone s x none roomy)
            ∙ (ap (λ ps. ps ++ program_piece s (x ∷ [])) (flat_map-append gp (ended_groups offered) (group ∷ [])
            ∙ ap (λ ps. ended ++ ps) (append-nil (group_pieces s group) ∙ group_closed s group))
            ∙ (ap (λ ps. ps ++ program_piece s (x ∷ [])) (sym (append_assoc ended (open_group_pieces s group) last))
            ∙ append_assoc (ended ++ open_group_pieces s group) last (program_piece s (x ∷ [])))))),
        few_and_other s (open_group_packet s group) _ refl,
      )
    ]

pub taken_grows : (s : LaneSettings) (offered : List OfferedFrame) (x : OfferedFrame) → MIN_LIMIT ≤ s.limit → IsFrame x.frame → x.times ≡ []
    → GrowsByFew (pieces_so_far s offered) (pieces_so_far s (offered ++ x ∷ []))
taken_grows s offered x roomy frame none = frame_grows s offered x none (roomy_frame s.limit x.frame roomy frame)

-- ---- a time mark more

-- a lane that has met these frames
abbrev lane_of : LaneSettings → List OfferedFrame → LaneState
lane_of s offered = record {
  settings = s;
  offered = length offered;
  kept = length (accepted offered);
  counter = last_counter offered;
  current = version_of (last_group offered);
  pending = open_group_packet s (last_group offered);
  ready = false;
}

has_met : (s : LaneSettings) (offered : List OfferedFrame) → HasMet (lane_of s offered) offered
has_met s offered = record { offered_is = refl; kept_is = refl; counter_is = refl; current_is = refl; pending_is = refl }

few_then : (lane : LaneState) (counter : ℕ) → AreFew (time_pieces lane counter)
few_then lane counter = elim (cases_Bool (closes_at lane counter)) as (λ _. AreFew (time_pieces lane counter)) [
  | inl due ↦ rw due (few_as_part lane.settings lane.pending)
  | inr early ↦ rw early few_none
]

pub timed_grows : (s : LaneSettings) (offered : List OfferedFrame) (counter : ℕ)
    → GrowsByFew (pieces_so_far s offered) (pieces_so_far s (time_noted offered counter))
timed_grows s offered counter =
    let lane = lane_of s offered in
    (time_pieces lane counter, makes_with_frames lane counter offered (has_met s offered), few_then lane counter)

-- ---- the end

pub ended_grows : (s : LaneSettings) (offered : List OfferedFrame) → GrowsByFew (pieces_so_far s offered) (channel_pieces s offered)
ended_grows s offered = (
  map (data_piece s) (as_part (open_group_packet s (last_group offered))) ++ end_piece s offered ∷ [],
  all_pieces s offered,
  few_and_other s (open_group_packet s (last_group offered)) (end_piece s offered) refl,
)
