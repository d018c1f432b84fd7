-- What a lane stands for after a frame more, and the pieces that became certain.
-- idea: a lane keeps the last group and its last packet, so a frame more changes these alone: by the version that goes
-- on or begins, and last to what the lane stands for. What a moment more does to packets is in Packing.
use Rattle.std.proofs.Common.{ℕ, ◌+◌, ◌≤◌, ◌≡◌, ◌⊎◌, inl, inr, true, false, List, [], ◌∷◌, ◌++◌, length, Option}
use Rattle.std.proofs.Common.{None, Some, IsSome, IfSome, refl, sym, ◌∙◌, ap, subst, arith, map}
use Rattle.std.specs.Prelude.{if◌then◌else◌, ◌==◌, not}
use Rattle.std.specs.List.{flat_map}
use Rattle.std.proofs.lemmas.Bool.{cases_Bool, both_ways}
use Rattle.std.proofs.lemmas.List.{append_assoc, append-nil, map-append, length-append}
use Rattle.std.proofs.lemmas.Grind.{flat_map-append}
use Rattle.bpf_insn.specs.declared.insn.Insn.{Insn}
use Rattle.eth_frame.specs.Frame.{FrameData}
use Rattle.rec_lane.specs.Offered.{OfferedFrame, accepted}
use Rattle.rec_lane.specs.Parts.{as_part}
use Rattle.rec_lane.specs.Packets.{has_room}
use Rattle.rec_lane.specs.Moments.{Moment, frame_moment, moments_of, kept_at, joins, closed_packets, open_packet}
use Rattle.rec_lane.specs.Moments.Moment.{OfFrame}
use Rattle.rec_lane.specs.Pieces.{LaneSettings, PieceData, has_group_version, ended_groups, last_group, program_piece, data_piece}
use Rattle.rec_lane.specs.Pieces.{closed_group_packets, open_group_packet}
use Rattle.rec_lane.specs.Pieces.{open_group_pieces, group_pieces, pieces_so_far, last_counter_from, has_no_packet}
use Rattle.rec_lane.specs.Pieces.PieceData.{OfProgram}
use Rattle.rec_lane.specs.Lanes.{LaneState, HasMet, VersionProgram, version_of, is_current, running, offered_now}
use Rattle.rec_lane.specs.Steps.{packet_closed, closed_pieces, frame_added, frame_kept, kept_pieces, frame_judged, judged_pieces}
use Rattle.rec_lane.specs.Steps.{frame_counted, frame_of_new_version, begun_pieces, begun_piece, RunsAs, is_none, program_met}
use Rattle.rec_lane.specs.Steps.{closes_at, frame_begun, version_begun, time_met, time_pieces}
use Rattle.bpf_machine.specs.Machine.{Runs}
use Rattle.rec_lane.proofs.Parted.{ended_on, last_on, ended_off, last_off}
use Rattle.rec_lane.proofs.Packing.{accepted_more, dropped, taken, moments_more, closed_with, open_with, closed_first, open_first, room_for}

-- ---- lists of offered frames

pub counter_more : (counter : ℕ) (before : List OfferedFrame) (x : OfferedFrame) → last_counter_from counter (before ++ x ∷ []) ≡ x.frame.counter
counter_more counter [] x = refl
counter_more counter (f ∷ fs) x = counter_more f.frame.counter fs x

-- ---- groups

-- a lane that met a version has a group of it
pub same_version : (group : List OfferedFrame) (current : Option VersionProgram) (x : OfferedFrame) → current ≡ version_of group
    → is_current current x.version ≡ true → has_group_version group x ≡ true
same_version [] current x met so = refl
same_version (g ∷ gs) current x met so = rw met at so

pub other_version : (group : List OfferedFrame) (current : Option VersionProgram) (x : OfferedFrame) (g : OfferedFrame) (gs : List OfferedFrame)
    → group ≡ g ∷ gs → current ≡ version_of group → is_current current x.version ≡ false → has_group_version group x ≡ false
other_version group current x g gs shape met so = rw shape (rw (met, shape) at so)

pub version_stays : (group : List OfferedFrame) (current : Option VersionProgram) (x : OfferedFrame) → current ≡ version_of group
    → is_current current x.version ≡ true → version_of (group ++ x ∷ []) ≡ version_of group
version_stays [] current x met so = absurd (both_ways false refl (rw met at so))
version_stays (g ∷ gs) current x met so = refl

pub program_stays : (settings : LaneSettings) (group : List OfferedFrame) (current : Option VersionProgram) (x : OfferedFrame) → current ≡ version_of group
    → is_current current x.version ≡ true → program_piece settings (group ++ x ∷ []) ≡ program_piece settings group
program_stays settings [] current x met so = absurd (both_ways false refl (rw met at so))
program_stays settings (g ∷ gs) current x met so = refl

-- ---- what a lane holds

pub met_more : (old new : LaneState) (before : List OfferedFrame) (x : OfferedFrame) → HasMet old before
    → new.offered ≡ old.offered + 1
    → new.kept ≡ old.kept + length (accepted (x ∷ []))
    → new.counter ≡ x.frame.counter
    → new.current ≡ version_of (last_group (before ++ x ∷ []))
    → new.pending ≡ open_group_packet new.settings (last_group (before ++ x ∷ []))
    → HasMet new (before ++ x ∷ [])
met_more old new before x h offered kept counter current pending = record {
  offered_is = let e = h.offered_is in let l = length-append before (x ∷ []) in omega (arith, offered, e, l);
  kept_is =
      let e = h.kept_is in
      let a = ap (λ (fs : List FrameData). length fs) (accepted_more before (x ∷ [])) in
      let l = length-append (accepted before) (accepted (x ∷ [])) in
      omega (arith, kept, e, a, l);
  counter_is = counter ∙ sym (counter_more 0 before x);
  current_is = current;
  pending_is = pending;
}

-- ---- the next frame of a version

-- what a lane is after the frame, part by part
record Judged (lane : LaneState) (f : FrameData) (value : ℕ) : Type 0 where
  offered : (frame_judged lane f value).offered ≡ lane.offered
  counter : (frame_judged lane f value).counter ≡ lane.counter
  current : (frame_judged lane f value).current ≡ lane.current
  settings : (frame_judged lane f value).settings ≡ lane.settings
  kept : (frame_judged lane f value).kept ≡ (if value == 0 then lane.kept else lane.kept + 1)
  pending : (frame_judged lane f value).pending
      ≡ (if joins lane.settings.limit lane.settings.span lane.pending (frame_moment f value) then lane.pending ++ kept_at (frame_moment f value)
      else kept_at (frame_moment f value))

judged : (lane : LaneState) (f : FrameData) (value : ℕ) → Judged lane f value
judged lane f value = elim (cases_Bool (closes_at lane f.counter)) as (λ _. Judged lane f value) [
  | inl due ↦ elim (cases_Bool (value == 0)) as (λ _. Judged lane f value) [
    | inl zero_value ↦ record {
      offered = rw (due, zero_value) refl;
      counter = rw (due, zero_value) refl;
      current = rw (due, zero_value) refl;
      settings = rw (due, zero_value) refl;
      kept = rw (due, zero_value) refl;
      pending = rw (due, zero_value) refl;
    }
    | inr some_value ↦ record {
      offered = rw (due, some_value) refl;
      counter = rw (due, some_value) refl;
      current = rw (due, some_value) refl;
      settings = rw (due, some_value) refl;
      kept = rw (due, some_value) refl;
      pending = rw (due, some_value) refl;
    }
  ]
  | inr early ↦ elim (cases_Bool (value == 0)) as (λ _. Judged lane f value) [
    | inl zero_value ↦ record {
      offered = rw (early, zero_value) refl;
      counter = rw (early, zero_value) refl;
      current = rw (early, zero_value) refl;
      settings = rw (early, zero_value) refl;
      kept = rw (early, zero_value) refl;
      pending = rw (early, zero_value) (sym (append-nil lane.pending));
    }
    | inr some_value ↦ elim (cases_Bool (has_room lane.settings.limit lane.pending f)) as (λ _. Judged lane f value) [
      | inl room ↦ record {
        offered = rw (early, some_value, room) refl;
        counter = rw (early, some_value, room) refl;
        current = rw (early, some_value, room) refl;
        settings = rw (early, some_value, room) refl;
        kept = rw (early, some_value, room) refl;
        pending = rw (early, some_value, room) refl;
      }
      | inr none ↦ record {
        offered = rw (early, some_value, none) refl;
        counter = rw (early, some_value, none) refl;
        current = rw (early, some_value, none) refl;
        settings = rw (early, some_value, none) refl;
        kept = rw (early, some_value, none) refl;
        pending = rw (early, some_value, none) refl;
      }
    ]
  ]
]

-- how many frames are accepted of one
accepted_count : (x : OfferedFrame) (kept : ℕ) → (if x.value == 0 then kept else kept + 1) ≡ kept + length (accepted (x ∷ []))
accepted_count x kept = elim (cases_Bool (x.value == 0)) as (λ _. (if x.value == 0 then kept else kept + 1) ≡ kept + length (accepted (x ∷ []))) [
  | inl zero_value ↦ (let none = ap (λ (fs : List FrameData). length fs) (dropped x zero_value) in rw zero_value (omega (arith, none)))
  | inr some_value ↦ (let one = ap (λ (fs : List FrameData). length fs) (taken x some_value) in rw some_value (omega (arith, one)))
]

-- the open packet of a group that goes on
open_group_on : (s : LaneSettings) (before : List OfferedFrame) (x : OfferedFrame) (m : Moment) → has_group_version (last_group before) x ≡ true
    → moments_of (x ∷ []) ≡ m ∷ []
    → open_group_packet s (last_group (before ++ x ∷ []))
    ≡ (if joins s.limit s.span (open_group_packet s (last_group before)) m then open_group_packet s (last_group before) ++ kept_at m else kept_at m)
open_group_on s before x m on one =
    ap (open_group_packet s) (last_on has_group_version [] before x on)
    ∙ (ap (open_packet s.limit s.span) (moments_more (last_group before) (x ∷ []) ∙ ap (λ ms. moments_of (last_group before) ++ ms) one)
    ∙ open_with s.limit s.span (moments_of (last_group before)) m)

pub next_met : (old : LaneState) (before : List OfferedFrame) (version : ℕ) (program : List Insn) (f : FrameData) (value : ℕ)
    → is_current old.current version ≡ true → HasMet old before
    → HasMet (frame_judged (frame_counted old f) f value) (before ++ offered_now old version program f value ∷ [])
next_met old before version program f value so h =
    let x : OfferedFrame = offered_now old version program f value in
    let s = old.settings in
    let m = frame_moment f value in
    let on = same_version (last_group before) old.current x h.current_is so in
    let stays = ap version_of (last_on has_group_version [] before x on) ∙ version_stays (last_group before) old.current x h.current_is so in
    let then_is = judged (frame_counted old f) f value in
    met_more old (frame_judged (frame_counted old f) f value) before x h then_is.offered (then_is.kept ∙ accepted_count x old.kept) then_is.counter
    (then_is.current ∙ (h.current_is ∙ sym stays))
    (then_is.pending
    ∙ (ap (λ (fs : List FrameData). if joins s.limit s.span fs m then fs ++ kept_at m else kept_at m) h.pending_is
    ∙ (sym (open_group_on s before x m on refl)
    ∙ ap (λ (t : LaneSettings). open_group_packet t (last_group (before ++ x ∷ []))) (sym then_is.settings))))

-- the packet that goes out then
judged_are : (old : LaneState) (f : FrameData) (value : ℕ)
    → map (data_piece old.settings) (if joins old.settings.limit old.settings.span old.pending (frame_moment f value) then [] else as_part old.pending)
    ≡ judged_pieces old f value
judged_are old f value = elim (cases_Bool (closes_at old f.counter)) as (λ _. map (data_piece old.settings)
    (if joins old.settings.limit old.settings.span old.pending (frame_moment f value) then [] else as_part old.pending) ≡ judged_pieces old f value) [
      | inl due ↦ rw due refl
      | inr early ↦ elim (cases_Bool (value == 0)) as (λ _. map (data_piece old.settings)
          (if joins old.settings.limit old.settings.span old.pending (frame_moment f value) then [] else as_part old.pending) ≡ judged_pieces old f value) [
            | inl zero_value ↦ rw (early, zero_value) refl
            | inr some_value ↦ elim (cases_Bool (has_room old.settings.limit old.pending f)) as (λ _. map (data_piece old.settings)
                (if joins old.settings.limit old.settings.span old.pending (frame_moment f value) then [] else as_part old.pending)
                ≡ judged_pieces old f value) [
                  | inl room ↦ rw (early, some_value, room) refl
                  | inr none ↦ rw (early, some_value, none) refl
                ]
          ]
    ]

-- the pieces that a group makes certain with a frame more
group_more : (old : LaneState) (group : List OfferedFrame) (x : OfferedFrame) (f : FrameData) (value : ℕ) → moments_of (x ∷ []) ≡ frame_moment f value ∷ []
    → has_room old.settings.limit [] f ≡ true
    → old.pending ≡ open_group_packet old.settings group
    → map (data_piece old.settings) (closed_group_packets old.settings (group ++ x ∷ []))
    ≡ map (data_piece old.settings) (closed_group_packets old.settings group) ++ judged_pieces old f value
group_more old group x f value one roomy pending =
    let s = old.settings in
    let d = data_piece s in
    let m = frame_moment f value in
    let given : List FrameData → List (List FrameData) = λ fs. if joins s.limit s.span fs m then [] else as_part fs in
    ap (λ ms. map d (closed_packets s.limit s.span ms)) (moments_more group (x ∷ []) ∙ ap (λ ms. moments_of group ++ ms) one)
    ∙ (ap (λ ps. map d ps) (closed_with s.limit s.span (moments_of group) m (room_for s.limit f value roomy))
    ∙ (map-append d (closed_group_packets s group) (given (open_group_packet s group))
    ∙ ap (λ ps. map d (closed_group_packets s group) ++ ps) (ap (λ fs. map d (given fs)) (sym pending) ∙ judged_are old f value)))

-- the pieces of ended groups, and those of one that goes on, with some more
pub joined : (ended front packets more : List PieceData) → ended ++ (front ++ (packets ++ more)) ≡ (ended ++ (front ++ packets)) ++ more
joined ended front packets more = sym (append_assoc ended (front ++ packets) more ∙ ap (λ ps. ended ++ ps) (append_assoc front packets more))

pub next_pieces : (old : LaneState) (before : List OfferedFrame) (version : ℕ) (program : List Insn) (f : FrameData) (value : ℕ)
    → is_current old.current version ≡ true → has_room old.settings.limit [] f ≡ true → HasMet old before
    → pieces_so_far old.settings (before ++ offered_now old version program f value ∷ []) ≡ pieces_so_far old.settings before ++ judged_pieces old f value
next_pieces old before version program f value so roomy h =
    let x : OfferedFrame = offered_now old version program f value in
    let group = last_group before in
    let on = same_version group old.current x h.current_is so in
    ap (λ gs. flat_map (group_pieces old.settings) gs ++ open_group_pieces old.settings (last_group (before ++ x ∷ [])))
    (ended_on has_group_version [] before x on)
    ∙ (ap (λ g. flat_map (group_pieces old.settings) (ended_groups before) ++ open_group_pieces old.settings g) (last_on has_group_version [] before x on)
    ∙ (ap (λ ps. flat_map (group_pieces old.settings) (ended_groups before)
    ++ (ps ++ map (data_piece old.settings) (closed_group_packets old.settings (group ++ x ∷ []))))
    (program_stays old.settings group old.current x h.current_is so)
    ∙ (ap (λ ps. flat_map (group_pieces old.settings) (ended_groups before) ++ (program_piece old.settings group ++ ps))
    (group_more old group x f value refl roomy h.pending_is)
    ∙ joined (flat_map (group_pieces old.settings) (ended_groups before)) (program_piece old.settings group)
    (map (data_piece old.settings) (closed_group_packets old.settings group)) (judged_pieces old f value))))

-- ---- the first frame of a version

-- no packet is closed by it
pub one_frame : (s : LaneSettings) (x : OfferedFrame) → moments_of (x ∷ []) ≡ frame_moment x.frame x.value ∷ [] → has_room s.limit [] x.frame ≡ true
    → closed_group_packets s (x ∷ []) ≡ []
one_frame s x one roomy =
    ap (closed_packets s.limit s.span) one ∙ closed_first s.limit s.span (frame_moment x.frame x.value) (room_for s.limit x.frame x.value roomy)

-- and the open one has it, if it is accepted
one_open : (s : LaneSettings) (x : OfferedFrame) → moments_of (x ∷ []) ≡ frame_moment x.frame x.value ∷ []
    → open_group_packet s (x ∷ []) ≡ kept_at (frame_moment x.frame x.value)
one_open s x one = ap (open_packet s.limit s.span) one ∙ open_first s.limit s.span (frame_moment x.frame x.value)

-- ---- a group that is ended

-- all its pieces are those that were certain, and its last packet
pub group_closed : (s : LaneSettings) (group : List OfferedFrame)
    → group_pieces s group ≡ open_group_pieces s group ++ map (data_piece s) (as_part (open_group_packet s group))
group_closed s group =
    let d = data_piece s in
    let full = closed_group_packets s group in
    let last = as_part (open_group_packet s group) in
    ap (λ ps. program_piece s group ++ ps) (map-append d full last)
    ∙ sym (append_assoc (program_piece s group) (map d full) (map d last))

-- ---- what comes before it

cases_shape : {X : Type 0} (xs : List X) → (xs ≡ []) ⊎ ((x : X) × (rest : List X) × (xs ≡ x ∷ rest))
cases_shape [] = inl refl
cases_shape (x ∷ xs) = inr (x, xs, refl)

-- another version's own program runs
runs_new : (current : Option VersionProgram) (version : ℕ) (program : List Insn) → is_current current version ≡ false
    → running current version program ≡ program
runs_new None version program so = refl
runs_new (Some current) version program so = rw so refl

-- no group before it: nothing is pending
first_of_all : (old : LaneState) (before : List OfferedFrame) (x : OfferedFrame) (begun : PieceData) → HasMet old before → last_group before ≡ []
    → flat_map (group_pieces old.settings) (ended_groups (before ++ x ∷ [])) ++ begun ∷ []
    ≡ pieces_so_far old.settings before ++ (closed_pieces old ++ begun ∷ [])
first_of_all old before x begun h empty =
    let s = old.settings in
    let ended = flat_map (group_pieces s) (ended_groups before) in
    let pending : old.pending ≡ [] = h.pending_is ∙ ap (λ g. open_group_packet s g) empty in
    let closed : closed_pieces old ≡ [] = ap (λ fs. map (data_piece s) (as_part fs)) pending in
    let before_it : pieces_so_far s before ≡ ended = ap (λ g. ended ++ open_group_pieces s g) empty ∙ append-nil ended in
    ap (λ gs. flat_map (group_pieces s) gs ++ begun ∷ []) (ended_on has_group_version [] before x (rw empty refl))
    ∙ sym (ap (λ ps. ps ++ (closed_pieces old ++ begun ∷ [])) before_it ∙ ap (λ ps. ended ++ (ps ++ begun ∷ [])) closed)

-- a group before it is ended
first_of_more : (old : LaneState) (before : List OfferedFrame) (x : OfferedFrame) (begun : PieceData) → HasMet old before
    → has_group_version (last_group before) x ≡ false
    → flat_map (group_pieces old.settings) (ended_groups (before ++ x ∷ [])) ++ begun ∷ []
    ≡ pieces_so_far old.settings before ++ (closed_pieces old ++ begun ∷ [])
first_of_more old before x begun h off =
    let s = old.settings in
    let group = last_group before in
    let ended = flat_map (group_pieces s) (ended_groups before) in
    let all : group_pieces s group ≡ open_group_pieces s group ++ closed_pieces old =
    group_closed s group ∙ ap (λ fs. open_group_pieces s group ++ map (data_piece s) (as_part fs)) (sym h.pending_is) in
    ap (λ gs. flat_map (group_pieces s) gs ++ begun ∷ []) (ended_off has_group_version [] before x off)
    ∙ (ap (λ ps. ps ++ begun ∷ []) (flat_map-append (group_pieces s) (ended_groups before) (group ∷ [])
    ∙ ap (λ ps. ended ++ ps) (append-nil (group_pieces s group) ∙ all))
    ∙ (ap (λ ps. ps ++ begun ∷ []) (sym (append_assoc ended (open_group_pieces s group) (closed_pieces old)))
    ∙ append_assoc (ended ++ open_group_pieces s group) (closed_pieces old) (begun ∷ [])))

-- the groups and the pieces after the first frame of another version, or of the first one
pub first_last : (old : LaneState) (before : List OfferedFrame) (x : OfferedFrame) → old.current ≡ version_of (last_group before)
    → is_current old.current x.version ≡ false → last_group (before ++ x ∷ []) ≡ x ∷ []
first_last old before x met so = elim (cases_shape (last_group before)) as (λ _. last_group (before ++ x ∷ []) ≡ x ∷ []) [
  | inl empty ↦ last_on has_group_version [] before x (rw empty refl) ∙ ap (λ g. g ++ x ∷ []) empty
  | inr some ↦ last_off has_group_version [] before x (other_version (last_group before) old.current x some.0 some.1 some.2 met so)
]

new_none : (old : LaneState) (version : ℕ) (program : List Insn) (f : FrameData) (value : ℕ) → (value == 0) ≡ true
    → frame_of_new_version old version program f value ≡ frame_counted (version_begun (packet_closed old) version program) f
new_none old version program f value so = rw so refl

new_one : (old : LaneState) (version : ℕ) (program : List Insn) (f : FrameData) (value : ℕ) → (value == 0) ≡ false
    → frame_of_new_version old version program f value ≡ frame_added (frame_counted (version_begun (packet_closed old) version program) f) f
new_one old version program f value so = rw so refl

pub first_met : (old : LaneState) (before : List OfferedFrame) (version : ℕ) (program : List Insn) (f : FrameData) (value : ℕ)
    → is_current old.current version ≡ false → HasMet old before
    → HasMet (frame_of_new_version old version program f value) (before ++ offered_now old version program f value ∷ [])
first_met old before version program f value so h =
    let x : OfferedFrame = offered_now old version program f value in
    let last = first_last old before x h.current_is so in
    let runs = runs_new old.current version program so in
    let alone : open_group_packet old.settings (last_group (before ++ x ∷ [])) ≡ kept_at (frame_moment f value) =
    ap (open_group_packet old.settings) last ∙ one_open old.settings x refl in
    elim (cases_Bool (value == 0)) as (λ _. HasMet (frame_of_new_version old version program f value) (before ++ x ∷ [])) [
      | inl zero_value ↦ met_more old (frame_of_new_version old version program f value) before x h
          (rw zero_value refl)
          (let none = ap (λ (fs : List FrameData). length fs) (dropped x zero_value) in rw zero_value (omega (arith, none)))
          (rw zero_value refl)
          (rw zero_value (sym (ap version_of last ∙ ap (λ p. Some (record { version = version; program = p })) runs)))
          (let open_is : open_group_packet old.settings (last_group (before ++ x ∷ [])) ≡ [] =
          alone ∙ ap (λ b. kept_at (OfFrame f (not b))) zero_value in
          ap (λ (l : LaneState). l.pending) (new_none old version program f value zero_value)
          ∙ (sym open_is ∙ ap (λ (l : LaneState). open_group_packet l.settings (last_group (before ++ x ∷ [])))
          (sym (new_none old version program f value zero_value))))
      | inr some_value ↦ met_more old (frame_of_new_version old version program f value) before x h
          (rw some_value refl)
          (let one = ap (λ (fs : List FrameData). length fs) (taken x some_value) in rw some_value (omega (arith, one)))
          (rw some_value refl)
          (rw some_value (sym (ap version_of last ∙ ap (λ p. Some (record { version = version; program = p })) runs)))
          (let open_is : open_group_packet old.settings (last_group (before ++ x ∷ [])) ≡ f ∷ [] =
          alone ∙ ap (λ b. kept_at (OfFrame f (not b))) some_value in
          ap (λ (l : LaneState). l.pending) (new_one old version program f value some_value)
          ∙ (sym open_is ∙ ap (λ (l : LaneState). open_group_packet l.settings (last_group (before ++ x ∷ [])))
          (sym (new_one old version program f value some_value))))
    ]

pub first_pieces : (old : LaneState) (before : List OfferedFrame) (version : ℕ) (program : List Insn) (f : FrameData) (value : ℕ)
    → is_current old.current version ≡ false → has_room old.settings.limit [] f ≡ true → HasMet old before
    → pieces_so_far old.settings (before ++ offered_now old version program f value ∷ [])
    ≡ pieces_so_far old.settings before ++ begun_pieces old version program f
first_pieces old before version program f value so roomy h =
    let x : OfferedFrame = offered_now old version program f value in
    let s = old.settings in
    let gp = group_pieces s in
    let last = first_last old before x h.current_is so in
    let runs = runs_new old.current version program so in
    let begun = begun_piece old version program f in
    let alone : open_group_pieces s (x ∷ []) ≡ begun ∷ [] =
    ap (λ ps. program_piece s (x ∷ []) ++ map (data_piece s) ps) (one_frame s x refl roomy)
    ∙ (append-nil (program_piece s (x ∷ [])) ∙ (ap (λ n. OfProgram s.channel f.counter version n (running old.current version program) ∷ []) refl
    ∙ ap (λ p. OfProgram s.channel f.counter version old.offered p ∷ []) runs)) in
    ap (λ g. flat_map gp (ended_groups (before ++ x ∷ [])) ++ open_group_pieces s g) last
    ∙ (ap (λ ps. flat_map gp (ended_groups (before ++ x ∷ [])) ++ ps) alone
    ∙ elim (cases_shape (last_group before)) as (λ _. flat_map gp (ended_groups (before ++ x ∷ [])) ++ begun ∷ []
    ≡ pieces_so_far s before ++ begun_pieces old version program f) [
      | inl empty ↦ first_of_all old before x begun h empty
      | inr some ↦ first_of_more old before x begun h (other_version (last_group before) old.current x some.0 some.1 some.2 h.current_is so)
    ])

-- ---- the program that ran

pub runs_next : (current : Option VersionProgram) (version : ℕ) (program : List Insn) (view : List ℕ) (value : ℕ) → is_current current version ≡ true
    → RunsAs current view value → (steps : ℕ) × Runs (running current version program) view steps value
runs_next None version program view value so runs = absurd runs
runs_next (Some current) version program view value so runs =
    subst (λ b. (steps : ℕ) × Runs (if b then current.program else program) view steps value) (sym so) runs

pub runs_first : (current : Option VersionProgram) (version : ℕ) (program : List Insn) (view : List ℕ) (value : ℕ) → is_current current version ≡ false
    → ((steps : ℕ) × Runs program view steps value) → (steps : ℕ) × Runs (running current version program) view steps value
runs_first current version program view value so runs = subst (λ p. (steps : ℕ) × Runs p view steps value) (sym (runs_new current version program so)) runs

-- ---- the spare buffer

closed_ready : (lane : LaneState) → lane.ready ≡ true → (packet_closed lane).ready ≡ has_no_packet (closed_pieces lane)
closed_ready lane ready = elim (cases_shape lane.pending) as (λ _. (packet_closed lane).ready ≡ has_no_packet (closed_pieces lane)) [
  | inl empty ↦ subst (λ fs. (if is_none fs then lane.ready else false) ≡ has_no_packet (map (data_piece lane.settings) (as_part fs))) (sym empty) ready
  | inr some ↦ subst (λ fs. (if is_none fs then lane.ready else false) ≡ has_no_packet (map (data_piece lane.settings) (as_part fs))) (sym some.2) refl
]

pub next_ready : (old : LaneState) (f : FrameData) (value : ℕ) → old.ready ≡ true
    → (frame_judged (frame_counted old f) f value).ready ≡ has_no_packet (judged_pieces old f value)
next_ready old f value ready = elim (cases_Bool (closes_at old f.counter))
    as (λ _. (frame_judged (frame_counted old f) f value).ready ≡ has_no_packet (judged_pieces old f value)) [
      | inl due ↦ rw due (elim (cases_Bool (value == 0)) as (λ _. (frame_begun (frame_counted old f) f value).ready ≡ has_no_packet (closed_pieces old)) [
        | inl zero_value ↦ rw zero_value (closed_ready old ready)
        | inr some_value ↦ rw some_value (closed_ready old ready)
      ])
      | inr early ↦ rw early (elim (cases_Bool (value == 0)) as (λ _. (if value == 0 then frame_counted old f else frame_kept (frame_counted old f) f).ready
          ≡ has_no_packet (if value == 0 then [] else kept_pieces old f)) [
            | inl zero_value ↦ rw zero_value ready
            | inr some_value ↦ rw some_value (elim (cases_Bool (has_room old.settings.limit old.pending f)) as (λ _. (frame_kept (frame_counted old f) f).ready
                ≡ has_no_packet (kept_pieces old f)) [
                  | inl room ↦ rw room ready
                  | inr none ↦ rw none (closed_ready old ready)
                ])
          ])
    ]

-- and after a time mark
pub time_ready : (old : LaneState) (counter : ℕ) → old.ready ≡ true → (time_met old counter).ready ≡ has_no_packet (time_pieces old counter)
time_ready old counter ready = elim (cases_Bool (closes_at old counter)) as (λ _. (time_met old counter).ready ≡ has_no_packet (time_pieces old counter)) [
  | inl due ↦ rw due (closed_ready old ready)
  | inr early ↦ rw early ready
]

-- ---- a run

-- a run of the program that is laid out, on the bytes of a view
pub runs_as : (current : Option VersionProgram) (prepared : Option (List Insn)) (bytes seen : List ℕ) (value : ℕ) → IsSome current
    → prepared ≡ program_met current → bytes ≡ seen → IfSome prepared (λ program. (steps : ℕ) × Runs program bytes steps value × (steps ≤ length program))
    → RunsAs current seen value
runs_as None prepared bytes seen value some is seen_is ran = cc
runs_as (Some current) prepared bytes seen value some is seen_is ran =
    let runs : (steps : ℕ) × Runs current.program seen steps value × (steps ≤ length current.program) =
    subst (λ (o : Option (List Insn)). IfSome o (λ program. (steps : ℕ) × Runs program seen steps value × (steps ≤ length program))) is
    (subst (λ (bs : List ℕ). IfSome prepared (λ program. (steps : ℕ) × Runs program bs steps value × (steps ≤ length program))) seen_is ran) in
    (runs.0, runs.1)
