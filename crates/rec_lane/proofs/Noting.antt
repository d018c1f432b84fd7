-- What a lane stands for after a time mark more, and the piece that became certain.
use Rattle.std.proofs.Common.{ℕ, ◌+◌, ◌≡◌, ◌⊎◌, inl, inr, false, List, [], ◌∷◌, ◌++◌, length, Option, None, Some, refl, sym, ◌∙◌, ap, subst, arith, map}
use Rattle.std.specs.Prelude.{if◌then◌else◌, ◌==◌}
use Rattle.std.specs.List.{flat_map}
use Rattle.std.proofs.lemmas.Bool.{cases_Bool}
use Rattle.std.proofs.lemmas.List.{append_assoc, append-nil, map-append, length-append}
use Rattle.eth_frame.specs.Frame.{FrameData}
use Rattle.rec_channel.specs.History.{Version}
use Rattle.rec_lane.specs.Offered.{OfferedFrame, accepted, frames_of, times_of, with_time, time_noted, time_added, noted_with, added_with, Met, MetFrom, AllMet}
use Rattle.rec_lane.specs.Parts.{as_part}
use Rattle.rec_lane.specs.Moments.{frame_moment, moments_at, moments_of, is_span_due, joins, closed_packets, open_packet}
use Rattle.rec_lane.specs.Moments.Moment.{OfTime}
use Rattle.rec_lane.specs.Pieces.{LaneSettings, PieceData, has_group_version, ended_groups, last_group, program_piece, data_piece}
use Rattle.rec_lane.specs.Pieces.{closed_group_packets, open_group_packet, open_group_pieces, group_pieces, pieces_so_far}
use Rattle.rec_lane.specs.Lanes.{LaneState, HasMet, version_of, MeetsTime, MakesCertainAt, TakesTime}
use Rattle.rec_lane.specs.Steps.{closes_at, packet_closed, closed_pieces, time_met, time_pieces}
use Rattle.rec_lane.proofs.Parted.{ended_on, last_on, ended_off, last_off}
use Rattle.rec_lane.proofs.Packing.{accepted_more, dropped, taken, moments_more, none_due, closed_with, open_with}
use Rattle.rec_lane.proofs.Offering.{counter_more, joined}
use Rattle.rec_lane.proofs.FramesMet.{OneInForce, OneRun, one_list}

-- ---- the frames with it

cases_last : {X : Type 0} (xs : List X) → (xs ≡ []) ⊎ ((earlier : List X) × (x : X) × (xs ≡ earlier ++ x ∷ []))
cases_last [] = inl refl
cases_last {X} (x ∷ xs) = elim (cases_last xs) as (λ _. (x ∷ xs ≡ []) ⊎ ((earlier : List X) × (y : X) × (x ∷ xs ≡ earlier ++ y ∷ []))) [
  | inl none ↦ inr ([], x, ap (λ ys. x ∷ ys) none)
  | inr some ↦ inr (x ∷ some.0, some.1, ap (λ ys. x ∷ ys) some.2)
]

pub noted_push : (earlier : List OfferedFrame) (f : OfferedFrame) (counter : ℕ) → time_noted (earlier ++ f ∷ []) counter ≡ earlier ++ with_time f counter ∷ []
noted_push [] f counter = refl
noted_push (e ∷ []) f counter = refl
noted_push (e ∷ d ∷ ds) f counter = ap (λ fs. e ∷ fs) (noted_push (d ∷ ds) f counter)

pub noted_frames : (offered : List OfferedFrame) (counter : ℕ) → frames_of (time_noted offered counter) ≡ frames_of offered
noted_frames [] counter = refl
noted_frames (f ∷ []) counter = refl
noted_frames (f ∷ g ∷ gs) counter = ap (λ fs. f.frame ∷ fs) (noted_frames (g ∷ gs) counter)

pub noted_times : (offered : List OfferedFrame) (counter : ℕ) → times_of (time_noted offered counter) ≡ time_added (times_of offered) counter
noted_times [] counter = refl
noted_times (f ∷ []) counter = refl
noted_times (f ∷ g ∷ gs) counter = ap (λ ts. f.times ∷ ts) (noted_times (g ∷ gs) counter)

met_with_time : (history : List Version) (f : OfferedFrame) (counter : ℕ) → Met history f → Met history (with_time f counter)
met_with_time history f counter m = record { in_force = m.in_force; program = m.program; ran = m.ran }

noted_from : (history : List Version) (number : ℕ) (offered : List OfferedFrame) (counter : ℕ) → MetFrom history number offered
    → MetFrom history number (time_noted offered counter)
noted_from history number [] counter m = tt
noted_from history number (f ∷ []) counter m = (m.0, met_with_time history f counter m.1, tt)
noted_from history number (f ∷ g ∷ gs) counter m = (m.0, m.1, noted_from history (number + 1) (g ∷ gs) counter m.2)

pub noted_met : (history : List Version) (offered : List OfferedFrame) (counter : ℕ) → AllMet history offered → AllMet history (time_noted offered counter)
noted_met history offered counter m = noted_from history 0 offered counter m

pub noted_length : (offered : List OfferedFrame) (counter : ℕ) → length (time_noted offered counter) ≡ length offered
noted_length [] counter = refl
noted_length (f ∷ []) counter = refl
noted_length (f ∷ g ∷ gs) counter = let rest = noted_length (g ∷ gs) counter in omega (arith, rest)

accepted_with_time : (f : OfferedFrame) (counter : ℕ) → accepted (with_time f counter ∷ []) ≡ accepted (f ∷ [])
accepted_with_time f counter = elim (cases_Bool (f.value == 0)) as (λ _. accepted (with_time f counter ∷ []) ≡ accepted (f ∷ [])) [
  | inl zero_value ↦ dropped (with_time f counter) zero_value ∙ sym (dropped f zero_value)
  | inr some_value ↦ taken (with_time f counter) some_value ∙ sym (taken f some_value)
]

-- ---- its last group

same_test : (part : List OfferedFrame) (f : OfferedFrame) (counter : ℕ) → has_group_version part (with_time f counter) ≡ has_group_version part f
same_test [] f counter = refl
same_test (g ∷ gs) f counter = refl

-- the last group ends with the last frame, and the others stay
record NotesGroup (earlier : List OfferedFrame) (f : OfferedFrame) (counter : ℕ) : Type 0 where
  front : List OfferedFrame
  last_is : last_group (earlier ++ f ∷ []) ≡ front ++ f ∷ []
  last_then : last_group (earlier ++ with_time f counter ∷ []) ≡ front ++ with_time f counter ∷ []
  ended_same : ended_groups (earlier ++ with_time f counter ∷ []) ≡ ended_groups (earlier ++ f ∷ [])

notes_group : (earlier : List OfferedFrame) (f : OfferedFrame) (counter : ℕ) → NotesGroup earlier f counter
notes_group earlier f counter =
    let group = last_group earlier in
    let same = same_test group f counter in
    elim (cases_Bool (has_group_version group f)) as (λ _. NotesGroup earlier f counter) [
      | inl on ↦ record {
        front = group;
        last_is = last_on has_group_version [] earlier f on;
        last_then = last_on has_group_version [] earlier (with_time f counter) (same ∙ on);
        ended_same = ended_on has_group_version [] earlier (with_time f counter) (same ∙ on) ∙ sym (ended_on has_group_version [] earlier f on);
      }
      | inr off ↦ record {
        front = [];
        last_is = last_off has_group_version [] earlier f off;
        last_then = last_off has_group_version [] earlier (with_time f counter) (same ∙ off);
        ended_same = ended_off has_group_version [] earlier (with_time f counter) (same ∙ off) ∙ sym (ended_off has_group_version [] earlier f off);
      }
    ]

one_noted : (f : OfferedFrame) (counter : ℕ) → moments_of (with_time f counter ∷ []) ≡ moments_of (f ∷ []) ++ OfTime counter ∷ []
one_noted f counter =
    append-nil (moments_at (with_time f counter))
    ∙ (ap (λ ms. frame_moment f.frame f.value ∷ ms) (map-append OfTime f.times (counter ∷ []))
    ∙ ap (λ ms. ms ++ OfTime counter ∷ []) (sym (append-nil (moments_at f))))

-- it is the last moment
moments_noted : (front : List OfferedFrame) (f : OfferedFrame) (counter : ℕ)
    → moments_of (front ++ with_time f counter ∷ []) ≡ moments_of (front ++ f ∷ []) ++ OfTime counter ∷ []
moments_noted front f counter =
    moments_more front (with_time f counter ∷ [])
    ∙ (ap (λ ms. moments_of front ++ ms) (one_noted f counter)
    ∙ (sym (append_assoc (moments_of front) (moments_of (f ∷ [])) (OfTime counter ∷ []))
    ∙ ap (λ ms. ms ++ OfTime counter ∷ []) (sym (moments_more front (f ∷ [])))))

same_version_of : (front : List OfferedFrame) (f : OfferedFrame) (counter : ℕ) → version_of (front ++ with_time f counter ∷ []) ≡ version_of (front ++ f ∷ [])
same_version_of [] f counter = refl
same_version_of (g ∷ gs) f counter = refl

same_program_piece : (s : LaneSettings) (front : List OfferedFrame) (f : OfferedFrame) (counter : ℕ)
    → program_piece s (front ++ with_time f counter ∷ []) ≡ program_piece s (front ++ f ∷ [])
same_program_piece s [] f counter = refl
same_program_piece s (g ∷ gs) f counter = refl

open_noted : (s : LaneSettings) (earlier : List OfferedFrame) (f : OfferedFrame) (counter : ℕ)
    → open_group_packet s (last_group (earlier ++ with_time f counter ∷ []))
    ≡ (if joins s.limit s.span (open_group_packet s (last_group (earlier ++ f ∷ []))) (OfTime counter)
    then open_group_packet s (last_group (earlier ++ f ∷ [])) ++ [] else [])
open_noted s earlier f counter =
    let n = notes_group earlier f counter in
    ap (open_group_packet s) n.last_then
    ∙ (ap (open_packet s.limit s.span) (moments_noted n.front f counter)
    ∙ (open_with s.limit s.span (moments_of (n.front ++ f ∷ [])) (OfTime counter)
    ∙ ap (λ g. if joins s.limit s.span (open_group_packet s g) (OfTime counter) then open_group_packet s g ++ [] else []) (sym n.last_is)))

-- ---- the lane

record Timed (lane : LaneState) (counter : ℕ) : Type 0 where
  offered : (time_met lane counter).offered ≡ lane.offered
  kept : (time_met lane counter).kept ≡ lane.kept
  counter_same : (time_met lane counter).counter ≡ lane.counter
  current : (time_met lane counter).current ≡ lane.current
  settings : (time_met lane counter).settings ≡ lane.settings
  pending : (time_met lane counter).pending
      ≡ (if joins lane.settings.limit lane.settings.span lane.pending (OfTime counter) then lane.pending ++ [] else [])

timed : (lane : LaneState) (counter : ℕ) → Timed lane counter
timed lane counter = elim (cases_Bool (closes_at lane counter)) as (λ _. Timed lane counter) [
  | inl due ↦ record {
    offered = rw due refl;
    kept = rw due refl;
    counter_same = rw due refl;
    current = rw due refl;
    settings = rw due refl;
    pending = rw due refl;
  }
  | inr early ↦ record {
    offered = rw early refl;
    kept = rw early refl;
    counter_same = rw early refl;
    current = rw early refl;
    settings = rw early refl;
    pending = rw early (sym (append-nil lane.pending));
  }
]

pub time_offered : (lane : LaneState) (counter : ℕ) → (time_met lane counter).offered ≡ lane.offered
time_offered lane counter = (timed lane counter).offered

pub time_current : (lane : LaneState) (counter : ℕ) → (time_met lane counter).current ≡ lane.current
time_current lane counter = (timed lane counter).current

pub time_settings : (lane : LaneState) (counter : ℕ) → (time_met lane counter).settings ≡ lane.settings
time_settings lane counter = (timed lane counter).settings

-- without a span it does nothing
pub time_idle : (lane : LaneState) (counter : ℕ) → lane.settings.span ≡ None → time_met lane counter ≡ lane
time_idle lane counter none =
    ap (λ b. if b then packet_closed lane else lane) (ap (λ span. is_span_due span lane.pending counter) none)

-- with one, nothing is due after it
pub time_early : (lane : LaneState) (counter : ℕ) → is_span_due (time_met lane counter).settings.span (time_met lane counter).pending counter ≡ false
time_early lane counter = elim (cases_Bool (closes_at lane counter)) as (λ _. is_span_due (time_met lane counter).settings.span (time_met lane counter).pending
    counter ≡ false) [
      | inl due ↦
          ap (λ b. is_span_due (if b then packet_closed lane else lane).settings.span (if b then packet_closed lane else lane).pending counter) due
          ∙ none_due lane.settings.span counter
      | inr early ↦
          ap (λ b. is_span_due (if b then packet_closed lane else lane).settings.span (if b then packet_closed lane else lane).pending counter) early ∙ early
    ]

met_noted : (old : LaneState) (earlier : List OfferedFrame) (f : OfferedFrame) (counter : ℕ) → HasMet old (earlier ++ f ∷ [])
    → HasMet (time_met old counter) (earlier ++ with_time f counter ∷ [])
met_noted old earlier f counter h =
    let s = old.settings in
    let then_is = timed old counter in
    let n = notes_group earlier f counter in
    record {
      offered_is = then_is.offered ∙ (h.offered_is ∙ (length-append earlier (f ∷ []) ∙ sym (length-append earlier (with_time f counter ∷ []))));
      kept_is = then_is.kept ∙ (h.kept_is ∙ ap (λ (fs : List FrameData). length fs) (accepted_more earlier (f ∷ [])
          ∙ (ap (λ fs. accepted earlier ++ fs) (sym (accepted_with_time f counter)) ∙ sym (accepted_more earlier (with_time f counter ∷ [])))));
      counter_is = then_is.counter_same ∙ (h.counter_is ∙ (counter_more 0 earlier f ∙ sym (counter_more 0 earlier (with_time f counter))));
      current_is = then_is.current ∙ (h.current_is ∙ (ap version_of n.last_is ∙ (sym (same_version_of n.front f counter) ∙ ap version_of (sym n.last_then))));
      pending_is = then_is.pending
          ∙ (ap (λ (fs : List FrameData). if joins s.limit s.span fs (OfTime counter) then fs ++ [] else []) h.pending_is
          ∙ (sym (open_noted s earlier f counter)
          ∙ ap (λ (t : LaneSettings). open_group_packet t (last_group (earlier ++ with_time f counter ∷ []))) (sym then_is.settings)));
    }

-- before the first frame nothing is pending
early_none : (old : LaneState) (counter : ℕ) → HasMet old [] → closes_at old counter ≡ false
early_none old counter h = ap (λ fs. is_span_due old.settings.span fs counter) h.pending_is ∙ none_due old.settings.span counter

met_with_frames : (old : LaneState) (counter : ℕ) (before : List OfferedFrame) → HasMet old before → HasMet (time_met old counter) (time_noted before counter)
met_with_frames old counter before h = elim (cases_last before) as (λ _. HasMet (time_met old counter) (time_noted before counter)) [
  | inl none ↦
      subst (λ b. HasMet old b → HasMet (time_met old counter) (time_noted b counter)) (sym none) (λ met. rw (early_none old counter met) met) h
  | inr some ↦
      subst (λ b. HasMet old b → HasMet (time_met old counter) (time_noted b counter)) (sym some.2)
      (λ met. subst (HasMet (time_met old counter)) (sym (noted_push some.0 some.1 counter)) (met_noted old some.0 some.1 counter met)) h
]

time_meets_with : (old : LaneState) (counter : ℕ) (span : Option ℕ) → old.settings.span ≡ span → (before : List OfferedFrame) → HasMet old before
    → HasMet (time_met old counter) (noted_with span before counter)
time_meets_with old counter None is before h = subst (λ (lane : LaneState). HasMet lane before) (sym (time_idle old counter is)) h
time_meets_with old counter (Some span) is before h = met_with_frames old counter before h

pub time_meets : (old : LaneState) (counter : ℕ) → MeetsTime old (time_met old counter) counter
time_meets old counter before h = time_meets_with old counter old.settings.span refl before h

-- ---- the piece

time_given : (old : LaneState) (counter : ℕ)
    → map (data_piece old.settings) (if joins old.settings.limit old.settings.span old.pending (OfTime counter) then [] else as_part old.pending)
    ≡ time_pieces old counter
time_given old counter = elim (cases_Bool (closes_at old counter)) as (λ _. map (data_piece old.settings)
    (if joins old.settings.limit old.settings.span old.pending (OfTime counter) then [] else as_part old.pending) ≡ time_pieces old counter) [
      | inl due ↦ rw due refl
      | inr early ↦ rw early refl
    ]

pieces_noted : (old : LaneState) (earlier : List OfferedFrame) (f : OfferedFrame) (counter : ℕ) → HasMet old (earlier ++ f ∷ [])
    → pieces_so_far old.settings (earlier ++ with_time f counter ∷ []) ≡ pieces_so_far old.settings (earlier ++ f ∷ []) ++ time_pieces old counter
pieces_noted old earlier f counter h =
    let s = old.settings in
    let d = data_piece s in
    let n = notes_group earlier f counter in
    let group = n.front ++ f ∷ [] in
    let ended = flat_map (group_pieces s) (ended_groups (earlier ++ f ∷ [])) in
    let given : List FrameData → List (List FrameData) = λ fs. if joins s.limit s.span fs (OfTime counter) then [] else as_part fs in
    let pending : old.pending ≡ open_group_packet s group = h.pending_is ∙ ap (open_group_packet s) n.last_is in
    let closed : map d (closed_group_packets s (n.front ++ with_time f counter ∷ [])) ≡ map d (closed_group_packets s group) ++ time_pieces old counter =
    ap (λ ms. map d (closed_packets s.limit s.span ms)) (moments_noted n.front f counter)
    ∙ (ap (λ ps. map d ps) (closed_with s.limit s.span (moments_of group) (OfTime counter) refl)
    ∙ (map-append d (closed_group_packets s group) (given (open_group_packet s group))
    ∙ ap (λ ps. map d (closed_group_packets s group) ++ ps) (ap (λ fs. map d (given fs)) (sym pending) ∙ time_given old counter))) in
    ap (λ gs. flat_map (group_pieces s) gs ++ open_group_pieces s (last_group (earlier ++ with_time f counter ∷ []))) n.ended_same
    ∙ (ap (λ g. ended ++ open_group_pieces s g) n.last_then
    ∙ (ap (λ ps. ended ++ (ps ++ map d (closed_group_packets s (n.front ++ with_time f counter ∷ [])))) (same_program_piece s n.front f counter)
    ∙ (ap (λ ps. ended ++ (program_piece s group ++ ps)) closed
    ∙ (joined ended (program_piece s group) (map d (closed_group_packets s group)) (time_pieces old counter)
    ∙ ap (λ g. (ended ++ open_group_pieces s g) ++ time_pieces old counter) (sym n.last_is)))))

pub makes_with_frames : (old : LaneState) (counter : ℕ) (before : List OfferedFrame) → HasMet old before
    → pieces_so_far old.settings (time_noted before counter) ≡ pieces_so_far old.settings before ++ time_pieces old counter
makes_with_frames old counter before h = elim (cases_last before) as (λ _. pieces_so_far old.settings (time_noted before counter)
    ≡ pieces_so_far old.settings before ++ time_pieces old counter) [
      | inl none ↦
          subst (λ b. HasMet old b → pieces_so_far old.settings (time_noted b counter) ≡ pieces_so_far old.settings b ++ time_pieces old counter) (sym none)
          (λ met. rw (early_none old counter met) (sym (append-nil (pieces_so_far old.settings [])))) h
      | inr some ↦
          subst (λ b. HasMet old b → pieces_so_far old.settings (time_noted b counter) ≡ pieces_so_far old.settings b ++ time_pieces old counter) (sym some.2)
          (λ met. ap (pieces_so_far old.settings) (noted_push some.0 some.1 counter) ∙ pieces_noted old some.0 some.1 counter met) h
    ]

time_gives_none : (old : LaneState) (counter : ℕ) → old.settings.span ≡ None → time_pieces old counter ≡ []
time_gives_none old counter none =
    ap (λ b. if b then closed_pieces old else []) (ap (λ span. is_span_due span old.pending counter) none)

time_makes_with : (old : LaneState) (counter : ℕ) (span : Option ℕ) → old.settings.span ≡ span → (before : List OfferedFrame) → HasMet old before
    → pieces_so_far old.settings (noted_with span before counter) ≡ pieces_so_far old.settings before ++ time_pieces old counter
time_makes_with old counter None is before h =
    sym (ap (λ ps. pieces_so_far old.settings before ++ ps) (time_gives_none old counter is) ∙ append-nil (pieces_so_far old.settings before))
time_makes_with old counter (Some span) is before h = makes_with_frames old counter before h

pub time_makes : (old : LaneState) (counter : ℕ) → MakesCertainAt old counter (time_pieces old counter)
time_makes old counter before h = time_makes_with old counter old.settings.span refl before h

-- ---- said of frames and a history

pub with_met : (span : Option ℕ) (history : List Version) (offered : List OfferedFrame) (counter : ℕ) → AllMet history offered
    → AllMet history (noted_with span offered counter)
with_met None history offered counter m = m
with_met (Some span) history offered counter m = noted_met history offered counter m

pub with_frames_same : (span : Option ℕ) (offered : List OfferedFrame) (counter : ℕ) → frames_of (noted_with span offered counter) ≡ frames_of offered
with_frames_same None offered counter = refl
with_frames_same (Some span) offered counter = noted_frames offered counter

pub with_times : (span : Option ℕ) (offered : List OfferedFrame) (counter : ℕ)
    → times_of (noted_with span offered counter) ≡ added_with span (times_of offered) counter
with_times None offered counter = refl
with_times (Some span) offered counter = noted_times offered counter

pub with_length : (span : Option ℕ) (offered : List OfferedFrame) (counter : ℕ) → length (noted_with span offered counter) ≡ length offered
with_length None offered counter = refl
with_length (Some span) offered counter = noted_length offered counter

pub takes_time : OneInForce → OneRun → (old new : LaneState) (counter : ℕ) (given : List PieceData) → MeetsTime old new counter
    → MakesCertainAt old counter given → TakesTime old new counter given
takes_time one run old new counter given meets makes frames times history before stands so_far =
    let offered = stands.0 in
    let same : so_far.0 ≡ offered = one_list one run history so_far.0 offered so_far.1 stands.1 (so_far.2 ∙ sym stands.2) (so_far.4 ∙ sym stands.4) in
    let span = old.settings.span in
    let all = with_met span history offered counter stands.1 in
    let framed = with_frames_same span offered counter ∙ stands.2 in
    let timed_so = with_times span offered counter ∙ ap (λ ts. added_with span ts counter) stands.4 in (
      (noted_with span offered counter, all, framed, meets offered stands.3, timed_so),
      (
        noted_with span offered counter,
        all,
        framed,
        makes offered stands.3 ∙ ap (λ ps. ps ++ given) (ap (λ o. pieces_so_far old.settings o) (sym same) ∙ so_far.3),
        timed_so,
      ),
    )
