-- The verdict on a recording.
use Rattle.std.proofs.Common.{◌≡◌, ◌<◌, ◌^◌, ℕ, true, List, [], ◌∷◌, Option, All, sym, subst, ◌∙◌, inl, inr}
use Rattle.std.specs.Prelude.{◌⊎◌, Result, Ok, Err, IfOk, IfErr, Bool}
use Rattle.std.specs.List.{AllZip}
use Rattle.std.specs.Io.KnownBytes.{Keeps}
use Rattle.std.proofs.lemmas.List.Elements.{All-nil, All-cons}
use Rattle.eth_frame.specs.Source.{Left}
use Rattle.eth_frame.specs.declared.source.SourceEnding.{SourceEnding}
use Rattle.rec_writer.specs.Writers.{WriterState, HasWritten}
use Rattle.rec_writer.specs.declared.fault.WriteFault.{WriteFault}
use Rattle.rec_run.specs.Control.{Given, Answered}
use Rattle.rec_run.specs.Control.{EndsControl}
use Rattle.rec_run.specs.Jobs.{channels_of_jobs}
use Rattle.rec_run.specs.Threads.{AreOver, AreEnded}
use Rattle.rec_run.specs.Control.{IsOfSome}
use Rattle.rec_run.specs.Threads.{IsOutcome, WroteIn, WroteAll, WrotePart}
use Rattle.rec_run.specs.Jobs.{IsJob, AreInRange}
use Rattle.rec_run.specs.Recorded.{IsRecorded, IsCutShort, IsControlled}
use Rattle.rec_run.specs.Threads.{jobs_in}
use Rattle.rec_run.specs.Verdicts.{TellsOf, Concludes, ConcludesControl, ConcludesCut, CutsShort, EndsWell, EndsAtFlush}
use Rattle.rec_run.specs.declared.control.change.Logged.{Logged}
use Rattle.rec_run.specs.declared.job.Job.{Job}
use Rattle.rec_run.specs.declared.threads.joins.Joined.{Joined}
use Rattle.rec_run.specs.declared.threads.ThreadsOutcome.{ThreadsOutcome}
use Rattle.rec_run.specs.declared.report.Done.{Done}
use Rattle.rec_run.specs.declared.report.Report.{Report}
use Rattle.rec_run.specs.declared.report.RunFault.{RunFault}
use Rattle.rec_run.specs.declared.threads.prepared.PreparedChannel.{PreparedChannel}
use Rattle.rec_run.specs.declared.writer.tape.Tape.{Tape}
use Rattle.rec_run.specs.declared.report.RunFault.TheVariants.{Memory, Write, Link, History}
use Rattle.rec_run.specs.declared.writer.Wrote.{Wrote}
use Rattle.rec_run.specs.declared.writer.Wrote.TheVariants.{Nothing, Piece, Failed, Link as LinkWrote}
use Rattle.rec_run.proofs.Concluding.{recorded, cut_at_flush, cut_at_piece}
use Rattle.rec_run.proofs.ControlAnswers.{controlled}
use Rattle.rec_run.proofs.Writes.{IsGood}

module _ {S : Type 0} (left : S → Option Left) (failures : S → ℕ) (ended_as : S
    → Option SourceEnding) (first : Option (List ℕ)) (jobs : List (Job S)) (js : List (Joined S)) (writer : WriterState) (bytes : ℕ) where
  pub all_went : (wrote : Wrote) → IsGood wrote → WroteIn left failures ended_as first wrote jobs js writer bytes
      → WroteAll left failures ended_as first jobs js writer bytes
  all_went Nothing good w = w
  all_went Piece good w = w
  all_went (Failed fault) good w = absurd good
  all_went LinkWrote good w = absurd good

module _ {S C W : Type 0} (left : S → Option Left) (failures : S → ℕ) (ended_as : S → Option SourceEnding) (contents : W
    → Option (List ℕ)) (o : ThreadsOutcome S C W) (log : List Logged) (report : Report S) (control : C)
    (bytes_is : report.bytes ≡ o.tape.bytes) (whole_is : report.pieces ≡ o.tape.writer.whole)
    (tells : AllZip (TellsOf log) o.joined.items report.channels.items) where
  module _ (good : IsGood o.wrote) (over : AreOver o.joined.items) where
    went : (jobs : List (Job S)) (first : Option (List ℕ)) → WroteIn left failures ended_as first o.wrote jobs o.joined.items o.tape.writer o.tape.bytes
        → WroteAll left failures ended_as first jobs o.joined.items o.tape.writer report.bytes
    went jobs first w = subst (λ n. WroteAll left failures ended_as first jobs o.joined.items o.tape.writer n) (sym bytes_is)
        (all_went left failures ended_as first jobs o.joined.items o.tape.writer o.tape.bytes o.wrote good w)

    pub concludes : (result : Result (Done S C W) (RunFault S C W)) → IfOk result (EndsWell contents o.tape.writer report control)
        → IfOk result (Concludes left failures ended_as contents o)
    concludes (Ok done) ends = λ jobs first fit w.
        subst (λ r. IsRecorded left failures ended_as jobs o.tape.writer.version first (contents done.out) r) (sym ends.report_is)
        (recorded left failures ended_as log jobs o.joined.items report first (contents done.out) o.tape.writer fit ends.kept whole_is (went jobs first w)
        tells over)
    concludes (Err fault) ends = tt

    pub concludes_cut : (result : Result (Done S C W) (RunFault S C W)) → IfErr result (EndsAtFlush contents o.tape.writer report)
        → IfErr result (ConcludesCut left failures ended_as contents o)
    concludes_cut (Ok done) ends = tt
    concludes_cut (Err Memory) ends = λ jobs first fit w. tt
    concludes_cut (Err (Write fault told back out)) ends = λ jobs first fit w.
        subst (λ r. IsCutShort left failures ended_as jobs o.tape.writer.version first (contents out) fault r) (sym ends.1)
        (cut_at_flush left failures ended_as log jobs o.joined.items report first (contents out) o.tape.writer fit ends.2 whole_is fault (went jobs first w)
        tells over ends.0)
    concludes_cut (Err Link) ends = λ jobs first fit w. tt
    concludes_cut (Err History) ends = λ jobs first fit w. tt

  pub cut_here : (fault : WriteFault) (out : W) → o.wrote ≡ Failed fault → AreEnded o.joined.items → Keeps o.tape.writer.held (contents out)
      → (jobs : List (Job S)) (first : Option (List ℕ)) → AreInRange jobs o.tape.writer.version
      → WroteIn left failures ended_as first o.wrote jobs o.joined.items o.tape.writer o.tape.bytes
      → IsCutShort left failures ended_as jobs o.tape.writer.version first (contents out) fault report
  cut_here fault out is ended keeps jobs first fit w =
      let part : WrotePart left failures ended_as first jobs o.joined.items o.tape.writer o.tape.bytes fault =
      subst (λ x. WroteIn left failures ended_as first x jobs o.joined.items o.tape.writer o.tape.bytes) is w in
      cut_at_piece left failures ended_as log jobs o.joined.items report first (contents out) o.tape.writer fit keeps whole_is fault
      (subst (λ n. WrotePart left failures ended_as first jobs o.joined.items o.tape.writer n fault) (sym bytes_is) part) tells ended

module _ {S C W : Type 0} (left : S → Option Left) (failures : S → ℕ) (ended_as : S → Option SourceEnding) (contents : W → Option (List ℕ)) (given : C
    → List Given) (answered : C → List Answered) (ended : C → Bool)
    (o : ThreadsOutcome S C W) (channels : List ℕ) (report : Report S) (good : IsGood o.wrote)
    (tells : AllZip (TellsOf o.controlled.log.items) o.joined.items report.channels.items)
    (others : All (IsOfSome channels) o.controlled.log.items) (so : o.controlled.ended ≡ true) where
  pub concludes_control : (result : Result (Done S C W) (RunFault S C W)) → IfOk result (EndsWell contents o.tape.writer report o.controlled.control)
      → IfOk result (ConcludesControl left failures ended_as given answered ended o channels)
  concludes_control (Ok done) ends = λ jobs first before w same e.
      let all = all_went left failures ended_as first jobs o.joined.items o.tape.writer o.tape.bytes o.wrote good w in
      subst (λ r. IsControlled given answered ended before done.control jobs r.channels.items) (sym ends.report_is)
      (subst (λ c. IsControlled given answered ended before c jobs report.channels.items) (sym ends.control_is)
      (controlled left failures ended_as given answered ended all.pieces jobs o.joined.items report.channels.items before o.controlled channels all.joined_are
      tells same others so e))
  concludes_control (Err fault) ends = tt

pub good_of : (wrote : Wrote) → (wrote ≡ Nothing) ⊎ (wrote ≡ Piece) → IsGood wrote
good_of wrote (inl is) = subst (λ w. IsGood w) (sym is) tt
good_of wrote (inr is) = subst (λ w. IsGood w) (sym is) tt

-- ---- the whole recording

-- jobs that were prepared are in range
prepared_fit : {S : Type 0} (ps : List (PreparedChannel S)) → All IsJob (jobs_in ps)
prepared_fit [] = All-nil IsJob
prepared_fit (p ∷ ps) = All-cons IsJob p.job (jobs_in ps) p.in_range (prepared_fit ps)

pub passed_fit : {S : Type 0} (prepared : List (PreparedChannel S)) (jobs : List (Job S)) (version : ℕ) → jobs_in prepared ≡ jobs → version < 2 ^ 8
    → AreInRange jobs version
passed_fit prepared jobs version jobs_are small = record { jobs_fit = subst (λ js. All IsJob js) jobs_are (prepared_fit prepared); version_fits = small }

-- what was written came from the jobs that were passed, and not only from what was prepared of them
pub written_of : {S C W : Type 0} (left : S → Option Left) (failures : S → ℕ) (ended_as : S
    → Option SourceEnding) (first : Option (List ℕ)) (tape : Tape W) (version : ℕ) (prepared jobs : List (Job S)) (o : ThreadsOutcome S C W)
    → HasWritten first [] [] tape.writer → tape.writer.version ≡ version → prepared ≡ jobs → IsOutcome left failures ended_as first tape prepared o
    → (o.tape.writer.version ≡ version) × WroteIn left failures ended_as first o.wrote jobs o.joined.items o.tape.writer o.tape.bytes
written_of left failures ended_as first tape version prepared jobs o starts version_is jobs_are outcome =
    let out = outcome starts in
    (out.0 ∙ version_is, subst (λ js. WroteIn left failures ended_as first o.wrote js o.joined.items o.tape.writer o.tape.bytes) jobs_are out.1)

module _ {S C W : Type 0} (left : S → Option Left) (failures : S → ℕ) (ended_as : S → Option SourceEnding) (contents : W
    → Option (List ℕ)) (o : ThreadsOutcome S C W) (jobs : List (Job S)) (first : Option (List ℕ)) (version : ℕ)
    (fit : AreInRange jobs version) (writes : WroteIn left failures ended_as first o.wrote jobs o.joined.items o.tape.writer o.tape.bytes)
    (version_is : o.tape.writer.version ≡ version) where
  -- what is in range with this version is so with the writer's
  writer_fit : AreInRange jobs o.tape.writer.version
  writer_fit = subst (λ v. AreInRange jobs v) (sym version_is) fit

  pub whole_recording : (result : Result (Done S C W) (RunFault S C W)) → IfOk result (Concludes left failures ended_as contents o)
      → IfOk result (λ done. IsRecorded left failures ended_as jobs version first (contents done.out) done.report)
  whole_recording (Ok done) ends = subst (λ v. IsRecorded left failures ended_as jobs v first (contents done.out) done.report) version_is
      (ends jobs first writer_fit writes)
  whole_recording (Err fault) ends = tt

  pub cut_recording : (result : Result (Done S C W) (RunFault S C W)) → IfErr result (ConcludesCut left failures ended_as contents o)
      → IfErr result (CutsShort left failures ended_as contents jobs version first)
  cut_recording (Ok done) ends = tt
  cut_recording (Err fault) ends = subst (λ v. CutsShort left failures ended_as contents jobs v first fault) version_is (ends jobs first writer_fit writes)

  pub whole_control : (given : C → List Given) (answered : C → List Answered) (ended : C → Bool) (channels : List ℕ) (before : C)
      → channels ≡ channels_of_jobs jobs → EndsControl given answered ended before o.controlled
      → (result : Result (Done S C W) (RunFault S C W)) → IfOk result (ConcludesControl left failures ended_as given answered ended o channels)
      → IfOk result (λ done. IsControlled given answered ended before done.control jobs done.report.channels.items)
  whole_control given answered ended channels before same e (Ok done) ends = ends jobs first before writes same e
  whole_control given answered ended channels before same e (Err fault) ends = tt
