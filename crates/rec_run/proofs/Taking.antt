-- A frame more in a worker's lane.
use Rattle.std.proofs.Common.{◌≡◌, ℕ, ◌+◌, true, false, List, [], ◌∷◌, ◌++◌, length, Option, None, Some, refl, sym, ap, subst, ◌∙◌, arith, inl, inr}
use Rattle.std.specs.Prelude.{if◌then◌else◌}
use Rattle.std.proofs.lemmas.Bool.{both_ways, cases_Bool, eqb-true}
use Rattle.std.proofs.lemmas.List.{length-append, map-append}
use Rattle.bpf_insn.specs.declared.insn.Insn.{Insn}
use Rattle.bpf_machine.specs.Machine.{Runs}
use Rattle.eth_frame.specs.Frame.{FrameData, view}
use Rattle.rec_lane.specs.declared.piece.DataPiece.{DataPiece}
use Rattle.rec_lane.specs.declared.piece.Piece.{Piece}
use Rattle.rec_lane.specs.Offered.{OfferedFrame, noted_with}
use Rattle.rec_lane.specs.Parts.{BeginsList}
use Rattle.rec_lane.specs.Pieces.{PieceData, has_group_version as same_version_as, last_group, pieces_so_far}
use Rattle.rec_lane.specs.Lanes.{LaneState, VersionProgram, HasMet, version_of, is_current, running, offered_now}
use Rattle.rec_lane.specs.Lanes.{Meets, MakesCertain, MeetsTime, MakesCertainAt}
use Rattle.rec_lane.specs.Views.{piece_data, pieces_data, packet_pieces}
use Rattle.rec_lane.proofs.Parted.{last_on}
use Rattle.rec_lane.proofs.Offering.{same_version, version_stays, first_last}
use Rattle.rec_lane.proofs.Noting.{with_met, with_length}
use Rattle.rec_run.specs.VersionsMet.{VersionMet}
use Rattle.rec_run.specs.VersionsMet.{is_last_met, met_after, AreServed}
use Rattle.rec_run.specs.WorkerSteps.{Offers}
use Rattle.rec_run.specs.WorkerRuns.{IsLast, Stands, TakesOne, TakesMark}
use Rattle.rec_run.proofs.VersionsServing.{known_more, last_more}

-- ---- the version that the lane met last

runs_current : (current : Option VersionProgram) (version : ℕ) (program : List Insn) → is_current current version ≡ true
    → current ≡ Some (record { version = version; program = running current version program })
runs_current None version program so = absurd (both_ways false refl so)
runs_current (Some c) version program so =
    ap (λ v. Some (record { version = v; program = c.program })) (eqb-true c.version version so)
    ∙ ap (λ b. Some (record { version = version; program = if b then c.program else program })) (sym so)

current_after : (old : LaneState) (offered : List OfferedFrame) (version value : ℕ) (program : List Insn) (frame : FrameData)
    → old.current ≡ version_of (last_group offered)
    → version_of (last_group (offered ++ offered_now old version program frame value ∷ []))
    ≡ Some (record { version = version; program = running old.current version program })
current_after old offered version value program frame is =
    let f = offered_now old version program frame value in
    elim (cases_Bool (is_current old.current version)) as (λ _. version_of (last_group (offered ++ f ∷ []))
    ≡ Some (record { version = version; program = running old.current version program })) [
      | inl same ↦
          ap (λ g. version_of g) (last_on same_version_as [] offered f (same_version (last_group offered) old.current f is same))
          ∙ version_stays (last_group offered) old.current f is same ∙ sym is ∙ runs_current old.current version program same
      | inr other ↦ ap (λ g. version_of g) (first_last old offered f is other)
    ]

-- a version that was met last is not met anew
pub met_still : (met : List VersionMet) (version number : ℕ) (program : List Insn) → is_last_met met version ≡ true → met ≡ met_after met version number program
met_still met version number program last = rw last refl

-- ---- what the worker stands for

pub stands_more : (old new : LaneState) (met : List VersionMet) (offered : List OfferedFrame) (version value number : ℕ) (program : List Insn)
    (frame : FrameData)
    → Stands old met offered → number ≡ old.offered → ((steps : ℕ) × Runs (running old.current version program) (view frame) steps value)
    → Meets old new (offered_now old version program frame value)
    → Stands new (met_after met version number program) (offered ++ offered_now old version program frame value ∷ [])
stands_more old new met offered version value number program frame stands same ran meets =
    let f = offered_now old version program frame value in
    let count : old.offered ≡ length offered = stands.has_met.offered_is in
    let last : IsLast old.current old.offered met = subst (λ n. IsLast old.current n met) (sym count) stands.last in
    let n : old.offered + 1 ≡ length (offered ++ f ∷ []) = (let l : length (offered ++ f ∷ []) ≡ length offered + 1 = length-append offered (f ∷ []) in
    omega (arith, l, count)) in
    let then_met : HasMet new (offered ++ f ∷ []) = meets offered stands.has_met in
    let current : Some (record { version = version; program = running old.current version program }) ≡ new.current =
    sym (then_met.current_is ∙ current_after old offered version value program frame stands.has_met.current_is) in
    subst (λ k. Stands new (met_after met version k program) (offered ++ f ∷ [])) (sym same) (record {
      has_met = then_met;
      known = known_more old.current met offered frame version value old.offered program count last ran stands.known;
      last = subst (λ c. IsLast c (length (offered ++ f ∷ [])) (met_after met version old.offered program)) current
          (subst (λ k. IsLast (Some (record { version = version; program = running old.current version program })) k
          (met_after met version old.offered program)) n (last_more old.current old.offered met version program last));
    })

-- ---- what it sent

pieces_then : (old new : LaneState) (offered : List OfferedFrame) (f : OfferedFrame) (sent : List PieceData) (given : List PieceData)
    → HasMet old offered → new.settings ≡ old.settings → sent ≡ pieces_so_far old.settings offered → MakesCertain old f given
    → sent ++ given ≡ pieces_so_far new.settings (offered ++ f ∷ [])
pieces_then old new offered f sent given met settings is makes =
    ap (λ ps. ps ++ given) is ∙ sym (makes offered met) ∙ ap (λ s. pieces_so_far s (offered ++ f ∷ [])) (sym settings)

module _ (old new : LaneState) (met met_then : List VersionMet) (frame : FrameData) (sent sent_then given : List Piece)
    (o : Offers old new met met_then frame (pieces_data given)) where
  abbrev then_is : OfferedFrame
  then_is = offered_now old o.version o.program frame o.value

  then_stands : (before : List OfferedFrame) → Stands old met before → Stands new met_then (before ++ then_is ∷ [])
  then_stands before stands =
      subst (λ ms. Stands new ms (before ++ then_is ∷ [])) (sym o.grown)
      (stands_more old new met before o.version o.value old.offered o.program frame stands refl o.ran o.meets)

  pub takes_whole : sent_then ≡ sent ++ given → TakesOne old new met met_then (pieces_data sent) (pieces_data sent_then) frame (λ some all. some ≡ all)
  takes_whole went = λ before stands is. (
    then_is,
    refl,
    then_stands before stands,
    ap (λ ps. pieces_data ps) went ∙ map-append piece_data sent given
        ∙ pieces_then old new before then_is (pieces_data sent) (pieces_data given) stands.has_met o.settings is o.makes,
    refl,
  )

  pub takes_part : BeginsList sent_then (sent ++ given) → TakesOne old new met met_then (pieces_data sent) (pieces_data sent_then) frame BeginsList
  takes_part part = λ before stands is. (
    then_is,
    refl,
    then_stands before stands,
    (
      pieces_data part.0,
      sym (map-append piece_data sent_then part.0) ∙ ap (λ ps. pieces_data ps) part.1 ∙ map-append piece_data sent given
          ∙ pieces_then old new before then_is (pieces_data sent) (pieces_data given) stands.has_met o.settings is o.makes,
    ),
    refl,
  )

-- a frame of the version that was met last, with what became certain as pieces
pub known_offers : (old new : LaneState) (met : List VersionMet) (frame : FrameData) (version value : ℕ) (packet : Option DataPiece) (given : List Piece)
    → is_last_met met version ≡ true → packet_pieces packet ≡ pieces_data given
    → ((steps : ℕ) × Runs (running old.current version []) (view frame) steps value)
    → Meets old new (offered_now old version [] frame value)
    → MakesCertain old (offered_now old version [] frame value) (packet_pieces packet)
    → new.settings ≡ old.settings
    → Offers old new met met frame (pieces_data given)
known_offers old new met frame version value packet given last same ran meets makes settings = record {
  version = version;
  program = [];
  value = value;
  grown = met_still met version old.offered [] last;
  ran = ran;
  meets = meets;
  makes = subst (λ ps. MakesCertain old (offered_now old version [] frame value) ps) same makes;
  settings = settings;
}

-- a frame of a version that was drawn with its program
pub later_offers : (old new : LaneState) (met met_then : List VersionMet) (frame : FrameData) (version number value : ℕ) (program : List Insn)
    (given : List Piece)
    → met_then ≡ met_after met version number program → number ≡ old.offered
    → ((steps : ℕ) × Runs (running old.current version program) (view frame) steps value)
    → Meets old new (offered_now old version program frame value)
    → MakesCertain old (offered_now old version program frame value) (pieces_data given)
    → new.settings ≡ old.settings
    → Offers old new met met_then frame (pieces_data given)
later_offers old new met met_then frame version number value program given grown same ran meets makes settings = record {
  version = version;
  program = program;
  value = value;
  grown = grown ∙ ap (λ n. met_after met version n program) same;
  ran = ran;
  meets = meets;
  makes = makes;
  settings = settings;
}

-- ---- a time mark

time_stands : (old new : LaneState) (met : List VersionMet) (offered : List OfferedFrame) (counter : ℕ) → MeetsTime old new counter
    → new.current ≡ old.current → Stands old met offered → Stands new met (noted_with old.settings.span offered counter)
time_stands old new met offered counter meets current stands =
    let span = old.settings.span in
    let count = with_length span offered counter in
    record {
      has_met = meets offered stands.has_met;
      known = λ history served. with_met span history offered counter (stands.known history (subst (λ n. AreServed history n met) count served));
      last = subst (λ c. IsLast c (length (noted_with span offered counter)) met) (sym current)
          (subst (λ n. IsLast old.current n met) (sym count) stands.last);
    }

module _ (old new : LaneState) (met : List VersionMet) (counter : ℕ) (sent sent_then given : List Piece) (meets : MeetsTime old new counter)
    (current : new.current ≡ old.current) (settings : new.settings ≡ old.settings) (makes : MakesCertainAt old counter (pieces_data given)) where
  pieces_after : (offered : List OfferedFrame) → HasMet old offered → pieces_data sent ≡ pieces_so_far old.settings offered
      → pieces_data (sent ++ given) ≡ pieces_so_far new.settings (noted_with old.settings.span offered counter)
  pieces_after offered has is =
      map-append piece_data sent given
      ∙ (ap (λ ps. ps ++ pieces_data given) is
      ∙ (sym (makes offered has) ∙ ap (λ s. pieces_so_far s (noted_with old.settings.span offered counter)) (sym settings)))

  pub marks_whole : sent_then ≡ sent ++ given
      → TakesMark old new met met (pieces_data sent) (pieces_data sent_then) counter (λ some all. some ≡ all)
  marks_whole went = λ offered stands is. (
    time_stands old new met offered counter meets current stands,
    ap (λ ps. pieces_data ps) went ∙ pieces_after offered stands.has_met is,
  )

  pub marks_part : BeginsList sent_then (sent ++ given) → TakesMark old new met met (pieces_data sent) (pieces_data sent_then) counter BeginsList
  marks_part part = λ offered stands is. (
    time_stands old new met offered counter meets current stands,
    (
      pieces_data part.0,
      sym (map-append piece_data sent_then part.0) ∙ ap (λ ps. pieces_data ps) part.1 ∙ pieces_after offered stands.has_met is,
    ),
  )
