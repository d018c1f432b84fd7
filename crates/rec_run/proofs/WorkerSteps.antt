-- A step of a worker that goes on.
use Rattle.std.proofs.Common.{◌≡◌, ◌≢◌, ℕ, ◌+◌, ◌≤◌, ◌<◌, true, List, [], ◌∷◌, ◌++◌, length, Option, None, Some, IsSome, sym, ap, subst, ◌∙◌, arith, inl, inr}
use Rattle.std.specs.Prelude.{◌⊎◌, MatchOption, All}
use Rattle.std.proofs.lemmas.List.{length-append, map-append, append-nil}
use Rattle.std.proofs.lemmas.List.Elements.{All-push}
use Rattle.eth_frame.specs.Frame.{FrameData, IsFrame}
use Rattle.eth_frame.specs.Source.{Left, GivesFirst, GivesTime, GivesEnding, Fails}
use Rattle.eth_frame.specs.declared.source.SourceEnding.{SourceEnding}
use Rattle.eth_frame.specs.declared.source.SourceEnding.TheVariants.{Fault}
use Rattle.eth_frame.specs.declared.source.SourceFault.{SourceFault as FaultOfSource}
use Rattle.eth_frame.specs.declared.source.SourceFault.TheVariants.{Device}
use Rattle.rec_lane.specs.Offered.{OfferedFrame, frames_of, times_of, noted_with, added_with, AreUntimed}
use Rattle.rec_lane.specs.Parts.{BeginsList}
use Rattle.rec_lane.specs.Pieces.{LaneSettings, pieces_so_far}
use Rattle.rec_lane.specs.Lanes.{LaneState}
use Rattle.rec_run.specs.VersionsMet.{VersionMet}
use Rattle.rec_run.specs.Endings.{AreFirst, AreTaken, AreAll, HasFailed, AreTimesTaken}
use Rattle.rec_run.specs.WorkerRuns.{Stands, Stopping, TakesOne, TakesMark, HasNoTimes}
use Rattle.rec_run.specs.WorkerSteps.{met_by, sent_by, RecordsFrame, RecordsTime, GoesOn, ComesTo}
use Rattle.rec_run.specs.declared.ending.Ending.TheVariants.{SourceEnd, SourceFault, Memory, CountFull, Stopped}
use Rattle.rec_run.specs.declared.ending.WorkerEnd.{WorkerEnd}
use Rattle.rec_run.specs.declared.ending.WorkerEnd.TheVariants.{Ended, Link, History}
use Rattle.rec_run.specs.declared.worker.Worker.{Worker}
use Rattle.rec_lane.proofs.Noting.{with_frames_same, with_length, with_times}
use Rattle.rec_run.proofs.Sources.{taken_first, taken_next, taken_time, times_first, times_next, times_noted}

-- the buffer of the next packet is nothing of what a lane stands for
pub stands_ready : (lane new : LaneState) (met : List VersionMet) (offered : List OfferedFrame) → new ≡ record lane { ready = true } → Stands lane met offered
    → Stands new met offered
stands_ready lane new met offered is stands =
    subst (λ l. Stands l met offered) (sym is) (record {
      has_met = record {
        offered_is = stands.has_met.offered_is;
        kept_is = stands.has_met.kept_is;
        counter_is = stands.has_met.counter_is;
        current_is = stands.has_met.current_is;
        pending_is = stands.has_met.pending_is;
      };
      known = stands.known;
      last = stands.last;
    })

pub begins_same : {X : Type 0} (xs ys : List X) → xs ≡ ys → BeginsList xs ys
begins_same xs ys is = ([], append-nil xs ∙ is)

frames_more : (offered : List OfferedFrame) (f : OfferedFrame) (frame : FrameData) → f.frame ≡ frame
    → frames_of (offered ++ f ∷ []) ≡ frames_of offered ++ frame ∷ []
frames_more offered f frame is = map-append (λ (o : OfferedFrame). o.frame) offered (f ∷ []) ∙ ap (λ x. frames_of offered ++ x ∷ []) is

module _ {S : Type 0} (left : S → Option Left) (failures : S → ℕ) (ended_as : S → Option SourceEnding) (before : S) (old mid new : Worker S) (frame : FrameData)
    (goes : GoesOn left failures ended_as before old) (ready : mid.lane ≡ record old.lane { ready = true })
    (met_same : met_by mid ≡ met_by old) (sent_same : sent_by mid ≡ sent_by old) (max_same : new.max ≡ old.max)
    (is_frame : IsFrame frame) (more : old.lane.offered ≢ old.max) (gives : GivesFirst (left old.source) (Some frame) (left new.source))
    (failed : failures old.source ≤ failures new.source) (settings_same : new.lane.settings ≡ old.lane.settings) where
  stands_mid : Stands mid.lane (met_by mid) goes.offered
  stands_mid = subst (λ ms. Stands mid.lane ms goes.offered) (sym met_same) (stands_ready old.lane mid.lane (met_by old) goes.offered ready goes.stands)

  sent_mid : sent_by mid ≡ pieces_so_far mid.lane.settings goes.offered
  sent_mid = sent_same ∙ goes.sent_is ∙ ap (λ (l : LaneState). pieces_so_far l.settings goes.offered) (sym ready)

  within_more : (f : OfferedFrame) → length (goes.offered ++ f ∷ []) ≤ new.max
  within_more f =
      let l : length (goes.offered ++ f ∷ []) ≡ length goes.offered + 1 = length-append goes.offered (f ∷ []) in
      let w : length goes.offered ≤ old.max = goes.within in
      let n : old.lane.offered ≡ length goes.offered = goes.stands.has_met.offered_is in
      omega (arith, l, w, n, more, max_same)

  within_same : length goes.offered ≤ new.max
  within_same = let w : length goes.offered ≤ old.max = goes.within in omega (arith, w, max_same)

  framed_more : (f : OfferedFrame) → f.frame ≡ frame → All IsFrame (frames_of (goes.offered ++ f ∷ []))
  framed_more f is = subst (λ fs. All IsFrame fs) (sym (frames_more goes.offered f frame is))
      (All-push IsFrame (frames_of goes.offered) frame goes.framed is_frame)

  taken_more : (f : OfferedFrame) → f.frame ≡ frame → AreTaken (left before) (frames_of (goes.offered ++ f ∷ [])) (left new.source)
  taken_more f is =
      subst (λ fs. AreTaken (left before) fs (left new.source)) (sym (frames_more goes.offered f frame is))
      (taken_next (left before) (frames_of goes.offered) (left old.source) frame (left new.source) goes.taken gives)

  untimed_more : (f : OfferedFrame) → f.times ≡ [] → HasNoTimes new.lane.settings (goes.offered ++ f ∷ [])
  untimed_more f is none = subst AreUntimed (sym (map-append (λ (o : OfferedFrame). o.times) goes.offered (f ∷ [])))
      (All-push (λ (ts : List ℕ). ts ≡ []) (times_of goes.offered) f.times
      (goes.untimed (ap (λ (s : LaneSettings). s.span) (sym settings_same) ∙ none)) is)

  spanned : IsSome new.lane.settings.span → IsSome old.lane.settings.span
  spanned some = subst (λ (s : LaneSettings). IsSome s.span) settings_same some

  timed_more : (f : OfferedFrame) → f.times ≡ [] → IsSome new.lane.settings.span
      → AreTimesTaken (left before) (times_of (goes.offered ++ f ∷ [])) (left new.source)
  timed_more f is some = subst (λ ts. AreTimesTaken (left before) ts (left new.source))
      (sym (map-append (λ (o : OfferedFrame). o.times) goes.offered (f ∷ []) ∙ ap (λ ts. times_of goes.offered ++ ts ∷ []) is))
      (times_next (left before) (times_of goes.offered) (left old.source) frame (left new.source) (goes.timed (spanned some)) gives)

  untimed_same : HasNoTimes new.lane.settings goes.offered
  untimed_same none = goes.untimed (ap (λ (s : LaneSettings). s.span) (sym settings_same) ∙ none)

  went_on : TakesOne mid.lane new.lane (met_by mid) (met_by new) (sent_by mid) (sent_by new) frame (λ some all. some ≡ all)
      → GoesOn left failures ended_as before new
  went_on takes =
      let t = takes goes.offered stands_mid sent_mid in
      record {
        offered = goes.offered ++ t.0 ∷ [];
        taken = taken_more t.0 t.1;
        failed = (let f : failures before ≤ failures old.source = goes.failed in omega (arith, f, failed));
        framed = framed_more t.0 t.1;
        within = within_more t.0;
        stands = t.2;
        sent_is = t.3;
        untimed = untimed_more t.0 t.4;
        timed = timed_more t.0 t.4;
      }

  gave_up : (TakesOne mid.lane new.lane (met_by mid) (met_by new) (sent_by mid) (sent_by new) frame BeginsList
      ⊎ ((new.lane ≡ mid.lane) × (met_by new ≡ met_by mid) × (sent_by new ≡ sent_by mid)))
      → Stopping left failures ended_as Stopped new.max before new.source new.lane (met_by new) (sent_by new)
  gave_up (inl takes) =
      let t = takes goes.offered stands_mid sent_mid in
      record {
        offered = goes.offered ++ t.0 ∷ [];
        ends = taken_first (left before) (frames_of (goes.offered ++ t.0 ∷ [])) (left new.source) (taken_more t.0 t.1);
        framed = framed_more t.0 t.1;
        within = within_more t.0;
        stands = t.2;
        begins = t.3;
        whole = λ never. absurd never;
        untimed = untimed_more t.0 t.4;
        timed = λ some. times_first (left before) (times_of (goes.offered ++ t.0 ∷ [])) (left new.source) (timed_more t.0 t.4 some);
      }
  gave_up (inr same) =
      record {
        offered = goes.offered;
        ends = taken_first (left before) (frames_of goes.offered) (left old.source) goes.taken;
        framed = goes.framed;
        within = within_same;
        stands = subst (λ l. Stands l (met_by new) goes.offered) (sym same.0) (subst (λ ms. Stands mid.lane ms goes.offered) (sym same.1) stands_mid);
        begins = begins_same (sent_by new) _ (same.2 ∙ sent_mid ∙ ap (λ (l : LaneState). pieces_so_far l.settings goes.offered) (sym same.0));
        whole = λ never. absurd never;
        untimed = untimed_same;
        timed = λ some. times_first (left before) (times_of goes.offered) (left old.source) (goes.timed (spanned some));
      }

  pub stepped : (result : Option WorkerEnd) → RecordsFrame mid new frame result
      → MatchOption result (GoesOn left failures ended_as before new) (ComesTo left failures ended_as before new)
  stepped None takes = went_on takes
  stepped (Some (Ended Stopped)) gave = gave_up gave.1
  stepped (Some (Ended SourceEnd)) gave = absurd gave.0
  stepped (Some (Ended (SourceFault fault))) gave = absurd gave.0
  stepped (Some (Ended Memory)) gave = absurd gave.0
  stepped (Some (Ended CountFull)) gave = absurd gave.0
  stepped (Some Link) gave = tt
  stepped (Some History) gave = tt

-- ---- a time mark

added_taken : (span : Option ℕ) (before : Option Left) (times : List (List ℕ)) (mid : Option Left) (counter : ℕ) (after : Option Left) → IsSome span
    → AreTimesTaken before times mid → GivesTime mid counter after → AreTimesTaken before (added_with span times counter) after
added_taken None before times mid counter after some taken gives = cc
added_taken (Some span) before times mid counter after some taken gives = times_noted before times mid counter after taken gives

untimed_noted : (span : Option ℕ) (offered : List OfferedFrame) (counter : ℕ) → span ≡ None → AreUntimed (times_of offered)
    → AreUntimed (times_of (noted_with span offered counter))
untimed_noted None offered counter none untimed = untimed
untimed_noted (Some span) offered counter none untimed = cc

module _ {S : Type 0} (left : S → Option Left) (failures : S → ℕ) (ended_as : S → Option SourceEnding) (before : S) (old mid new : Worker S) (counter : ℕ)
    (goes : GoesOn left failures ended_as before old) (ready : mid.lane ≡ record old.lane { ready = true })
    (met_same : met_by mid ≡ met_by old) (sent_same : sent_by mid ≡ sent_by old) (max_same : new.max ≡ old.max)
    (gives : GivesTime (left old.source) counter (left new.source))
    (failed : failures old.source ≤ failures new.source) (settings_same : new.lane.settings ≡ old.lane.settings) where
  abbrev noted : List OfferedFrame
  noted = noted_with mid.lane.settings.span goes.offered counter

  mid_stands : Stands mid.lane (met_by mid) goes.offered
  mid_stands = subst (λ ms. Stands mid.lane ms goes.offered) (sym met_same) (stands_ready old.lane mid.lane (met_by old) goes.offered ready goes.stands)

  mid_sent : sent_by mid ≡ pieces_so_far mid.lane.settings goes.offered
  mid_sent = sent_same ∙ goes.sent_is ∙ ap (λ (l : LaneState). pieces_so_far l.settings goes.offered) (sym ready)

  framed_same : frames_of noted ≡ frames_of goes.offered
  framed_same = with_frames_same mid.lane.settings.span goes.offered counter

  taken_then : AreTaken (left before) (frames_of noted) (left new.source)
  taken_then =
      subst (λ fs. AreTaken (left before) fs (left new.source)) (sym framed_same)
      (taken_time (left before) (frames_of goes.offered) (left old.source) counter (left new.source) goes.taken gives)

  within_then : length noted ≤ new.max
  within_then =
      let l : length noted ≡ length goes.offered = with_length mid.lane.settings.span goes.offered counter in
      let w : length goes.offered ≤ old.max = goes.within in
      omega (arith, l, w, max_same)

  untimed_then : HasNoTimes new.lane.settings noted
  untimed_then none =
      let spans : mid.lane.settings.span ≡ None =
      ap (λ (l : LaneState). l.settings.span) ready ∙ (ap (λ (s : LaneSettings). s.span) (sym settings_same) ∙ none) in
      untimed_noted mid.lane.settings.span goes.offered counter spans
      (goes.untimed (ap (λ (s : LaneSettings). s.span) (sym settings_same) ∙ none))

  timed_then : IsSome new.lane.settings.span → AreTimesTaken (left before) (times_of noted) (left new.source)
  timed_then some =
      let here : IsSome old.lane.settings.span = subst (λ (s : LaneSettings). IsSome s.span) settings_same some in
      let mid_some : IsSome mid.lane.settings.span = subst (λ (l : LaneState). IsSome l.settings.span) (sym ready) here in
      subst (λ ts. AreTimesTaken (left before) ts (left new.source)) (sym (with_times mid.lane.settings.span goes.offered counter))
      (added_taken mid.lane.settings.span (left before) (times_of goes.offered) (left old.source) counter (left new.source) mid_some
      (goes.timed here) gives)

  met_time : TakesMark mid.lane new.lane (met_by mid) (met_by new) (sent_by mid) (sent_by new) counter (λ some all. some ≡ all)
      → GoesOn left failures ended_as before new
  met_time takes =
      let t = takes goes.offered mid_stands mid_sent in
      record {
        offered = noted;
        taken = taken_then;
        failed = (let f : failures before ≤ failures old.source = goes.failed in omega (arith, f, failed));
        framed = subst (λ fs. All IsFrame fs) (sym framed_same) goes.framed;
        within = within_then;
        stands = t.0;
        sent_is = t.1;
        untimed = untimed_then;
        timed = timed_then;
      }

  gave_up_then : TakesMark mid.lane new.lane (met_by mid) (met_by new) (sent_by mid) (sent_by new) counter BeginsList
      → Stopping left failures ended_as Stopped new.max before new.source new.lane (met_by new) (sent_by new)
  gave_up_then takes =
      let t = takes goes.offered mid_stands mid_sent in
      record {
        offered = noted;
        ends = taken_first (left before) (frames_of noted) (left new.source) taken_then;
        framed = subst (λ fs. All IsFrame fs) (sym framed_same) goes.framed;
        within = within_then;
        stands = t.0;
        begins = t.1;
        whole = λ never. absurd never;
        untimed = untimed_then;
        timed = λ some. times_first (left before) (times_of noted) (left new.source) (timed_then some);
      }

  pub timed : (result : Option WorkerEnd) → RecordsTime mid new counter result
      → MatchOption result (GoesOn left failures ended_as before new) (ComesTo left failures ended_as before new)
  timed None takes = met_time takes
  timed (Some (Ended Stopped)) gave = gave_up_then gave.1
  timed (Some (Ended SourceEnd)) gave = absurd gave.0
  timed (Some (Ended (SourceFault fault))) gave = absurd gave.0
  timed (Some (Ended Memory)) gave = absurd gave.0
  timed (Some (Ended CountFull)) gave = absurd gave.0
  timed (Some Link) gave = tt
  timed (Some History) gave = tt

-- ---- a fault of the source

all_at_end : (before : Option Left) (frames : List FrameData) (mid : Option Left) (ending : SourceEnding) (after : Option Left)
    → AreTaken before frames mid → GivesEnding mid ending after → AreAll before frames ending
all_at_end None frames mid ending after taken gives = tt
all_at_end (Some l) frames None ending after taken gives = absurd taken
all_at_end (Some l) frames (Some m) ending after taken gives = (
  taken.0 ∙ ap (λ (x : Left). frames ++ x.frames) gives.0 ∙ append-nil frames,
  taken.1 ∙ ap (λ (x : Left). x.ending) gives.0,
)

-- the device failed, or the source says that its frames end so
failed_then : (before : Option Left) (frames : List FrameData) (mid : Option Left) (after : Option Left) (ended : Option SourceEnding) (first old new : ℕ)
    → AreTaken before frames mid → first ≤ old → Fails mid ended old after new
    → AreAll before frames (Fault Device) ⊎ (AreFirst before frames × (first < new))
failed_then None frames mid after ended first old new taken more fails = inl tt
failed_then (Some l) frames None after ended first old new taken more fails = absurd taken
failed_then (Some l) frames (Some m) after ended first old new taken more fails =
    let grown = fails.1 in inr (taken_first (Some l) frames (Some m) taken, omega (arith, grown, more))

module _ {S : Type 0} (left : S → Option Left) (failures : S → ℕ) (ended_as : S → Option SourceEnding) (before : S) (old new : Worker S)
    (fault : FaultOfSource) (goes : GoesOn left failures ended_as before old) (ready : new.lane ≡ record old.lane { ready = true })
    (met_same : met_by new ≡ met_by old) (sent_same : sent_by new ≡ sent_by old) (max_same : new.max ≡ old.max)
    (ended : ended_as new.source ≡ Some (Fault fault)) (device : fault ≡ Device → 0 < failures new.source)
    (gives : (fault ≡ Device) ⊎ GivesEnding (left old.source) (Fault fault) (left new.source))
    (failed : fault ≡ Device → GivesEnding (left old.source) (Fault Device) (left new.source)
    ⊎ Fails (left old.source) (ended_as old.source) (failures old.source) (left new.source) (failures new.source)) where
  abbrev EndsSo : Type 0
  EndsSo = AreAll (left before) (frames_of goes.offered) (Fault fault)
      ⊎ ((fault ≡ Device) × HasFailed left failures ended_as before new.source (frames_of goes.offered))

  fails_so : (fault ≡ Device) → Fails (left old.source) (ended_as old.source) (failures old.source) (left new.source) (failures new.source) → EndsSo
  fails_so is fails =
      elim (failed_then (left before) (frames_of goes.offered) (left old.source) (left new.source) (ended_as old.source) (failures before)
      (failures old.source) (failures new.source) goes.taken goes.failed fails) as (λ _. EndsSo) [
        | inl all ↦ inl (subst (λ f. AreAll (left before) (frames_of goes.offered) (Fault f)) (sym is) all)
        | inr grown ↦ inr (is, record { first = grown.0; more = grown.1 })
      ]

  ends_so : EndsSo
  ends_so = elim gives as (λ _. EndsSo) [
    | inl is ↦ elim (failed is) as (λ _. EndsSo) [
      | inl last ↦ inl (subst (λ f. AreAll (left before) (frames_of goes.offered) (Fault f)) (sym is)
          (all_at_end (left before) (frames_of goes.offered) (left old.source) (Fault Device) (left new.source) goes.taken last))
      | inr fails ↦ fails_so is fails
    ]
    | inr last ↦ inl (all_at_end (left before) (frames_of goes.offered) (left old.source) (Fault fault) (left new.source) goes.taken last)
  ]

  sent_all : sent_by new ≡ pieces_so_far new.lane.settings goes.offered
  sent_all = sent_same ∙ goes.sent_is ∙ ap (λ (l : LaneState). pieces_so_far l.settings goes.offered) (sym ready)

  spans : new.lane.settings ≡ old.lane.settings
  spans = ap (λ (l : LaneState). l.settings) ready

  pub faulted : Stopping left failures ended_as (SourceFault fault) new.max before new.source new.lane (met_by new) (sent_by new)
  faulted = record {
    offered = goes.offered;
    ends = (ended, device, ends_so);
    framed = goes.framed;
    within = (let w : length goes.offered ≤ old.max = goes.within in omega (arith, w, max_same));
    stands = subst (λ ms. Stands new.lane ms goes.offered) (sym met_same)
        (stands_ready old.lane new.lane (met_by old) goes.offered ready goes.stands);
    begins = begins_same (sent_by new) _ sent_all;
    whole = λ over. sent_all;
    untimed = λ none. goes.untimed (ap (λ (s : LaneSettings). s.span) (sym spans) ∙ none);
    timed = λ some. times_first (left before) (times_of goes.offered) (left old.source)
        (goes.timed (subst (λ (s : LaneSettings). IsSome s.span) spans some));
  }
