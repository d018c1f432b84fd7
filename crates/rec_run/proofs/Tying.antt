-- A recording of jobs is a run of the model of the core.
use Rattle.std.proofs.Common.{◌≡◌, ℕ, suc, zero, ◌<◌, ◌≤◌, List, [], ◌∷◌, take, Option, Some, arith, refl, ◌∙◌, ap, sym, subst}
use Rattle.std.specs.Prelude.{Bool, Result, Ok, Err, IfOk, slice_get}
use Rattle.std.specs.Arc.{arc_value}
use Rattle.std.specs.List.{AllZip}
use Rattle.std.proofs.lemmas.List.{length-map}
use Rattle.eth_frame.specs.Source.{Left}
use Rattle.eth_frame.specs.declared.source.SourceEnding.{SourceEnding}
use Rattle.rec_channel.specs.declared.limits.TheConstants.{MAX_VERSIONS}
use Rattle.rec_channel.specs.History.{IsHistory}
use Rattle.rec_channel.specs.Slots.{programs_in}
use Rattle.rec_core.specs.Openings.{SpecData, AreSpecs, channels_of_specs}
use Rattle.rec_core.specs.Ties.{IsOfSpec, IsRunOfWorld}
use Rattle.rec_lane.specs.Pieces.{PieceData}
use Rattle.rec_writer.specs.Numbers.{AreDistinctChannels}
use Rattle.rec_writer.specs.Recording.{RecordedChannel, AreOfChannels}
use Rattle.rec_run.specs.Control.{given_for, programs_given, IsChanged}
use Rattle.rec_run.specs.Control.{Given, Answered}
use Rattle.rec_run.specs.Jobs.{AreJobs, channels_of_jobs, core_spec, core_specs}
use Rattle.rec_run.specs.Recorded.{IsRecorded, IsRecordedRun, IsControlled}
use Rattle.rec_run.specs.Reports.{history_of, IsReport, AreReports}
use Rattle.rec_run.specs.declared.job.Job.{Job}
use Rattle.rec_run.specs.declared.report.ChannelReport.{ChannelReport}
use Rattle.rec_run.specs.declared.report.Done.{Done}
use Rattle.rec_run.specs.declared.report.Report.{Report}
use Rattle.rec_run.specs.declared.report.RunFault.{RunFault}

-- what is a recording is a run
abbrev pub RecordingIsRun : Type 0
RecordingIsRun = (ring : ℕ) (specs : List SpecData) (channels : List RecordedChannel) (pieces : List PieceData)
    → 0 < ring → AreSpecs specs → AllZip IsOfSpec specs channels → AreOfChannels channels pieces → IsRunOfWorld ring specs channels pieces

first_taken : {X : Type 0} (n : ℕ) (x : X) (xs : List X) → 0 < n → slice_get (take n (x ∷ xs)) 0 ≡ Some x
first_taken zero x xs some = absurd (omega (arith, some))
first_taken (suc n) x xs some = refl

-- ---- jobs

same_channels : {S : Type 0} (jobs : List (Job S)) → channels_of_specs (core_specs jobs) ≡ channels_of_jobs jobs
same_channels [] = refl
same_channels (job ∷ jobs) = ap (λ cs. job.spec.channel ∷ cs) (same_channels jobs)

specs_of_jobs : {S : Type 0} (jobs : List (Job S)) → AreJobs jobs → AreSpecs (core_specs jobs)
specs_of_jobs {S} jobs are =
    let count = length-map jobs (λ (job : Job S). core_spec job) in
    let least = are.some in
    let most = are.few in
    record {
      some = omega (arith, count, least);
      few = omega (arith, count, most);
      distinct = subst (λ cs. AreDistinctChannels cs) (sym (same_channels jobs)) are.distinct;
    }

-- ---- reports

module _ {S : Type 0} (left : S → Option Left) (failures : S → ℕ) (ended_as : S → Option SourceEnding) (changes : List Given) (answers : List Answered) where
  abbrev HasChanged : Job S → ChannelReport S → Type 0
  HasChanged job r = IsChanged job.spec.channel (arc_value job.program) (history_of r) changes answers

  of_spec : (job : Job S) (r : ChannelReport S) (c : RecordedChannel) → IsReport left failures ended_as job r c → HasChanged job r
      → IsOfSpec (core_spec job) c
  of_spec job r c report changed =
      let first : slice_get (programs_in c.history) 0 ≡ Some (arc_value job.program) =
      ap (λ h. slice_get (programs_in h) 0) report.history_is ∙ (ap (λ ps. slice_get ps 0) changed.programs_are
      ∙ first_taken MAX_VERSIONS (arc_value job.program) (programs_given (given_for job.spec.channel changes)) (omega arith)) in
      record {
        settings_are = report.settings_are;
        program_is = first;
        past = subst (λ n. IsHistory n c.history) report.offered_is report.history;
        within = subst (λ n. n ≤ job.max) report.offered_is report.within;
        few = report.few;
        untimed = report.untimed;
      }

  of_specs : (jobs : List (Job S)) (rs : List (ChannelReport S)) (cs : List RecordedChannel) → AreReports left failures ended_as jobs rs cs
      → AllZip HasChanged jobs rs → AllZip IsOfSpec (core_specs jobs) cs
  of_specs [] [] [] reports changed = tt
  of_specs [] [] (c ∷ cs) reports changed = absurd reports
  of_specs [] (r ∷ rs) cs reports changed = absurd reports
  of_specs (job ∷ jobs) [] cs reports changed = absurd reports
  of_specs (job ∷ jobs) (r ∷ rs) [] reports changed = absurd reports
  of_specs (job ∷ jobs) (r ∷ rs) (c ∷ cs) reports changed = (
    of_spec job r c reports.0 changed.0,
    of_specs jobs rs cs reports.1 changed.1,
  )

-- ---- the recording

module _ {S C W : Type 0} (left : S → Option Left) (failures : S → ℕ) (ended_as : S → Option SourceEnding) (contents : W → Option (List ℕ)) (given : C
    → List Given) (answered : C → List Answered) (ended : C → Bool)
    (law : RecordingIsRun) (jobs : List (Job S)) (are : AreJobs jobs) (version ring : ℕ) (some : 1 ≤ ring) (first : Option (List ℕ)) (before : C) where
  one_run : (held : Option (List ℕ)) (report : Report S) (control : C) → IsRecorded left failures ended_as jobs version first held report
      → IsControlled given answered ended before control jobs report.channels.items
      → IsRecordedRun left failures ended_as jobs version ring first held report
  one_run held report control recorded controlled = record {
    recorded = recorded;
    run = law ring (core_specs jobs) recorded.channels recorded.recording.0 (omega (arith, some)) (specs_of_jobs jobs are)
        (of_specs left failures ended_as controlled.changes controlled.answers jobs report.channels.items recorded.channels recorded.reports_are
        controlled.changed)
        recorded.recording.2;
  }

  pub recorded_run : (result : Result (Done S C W) (RunFault S C W))
      → IfOk result (λ done. IsRecorded left failures ended_as jobs version first (contents done.out) done.report)
      → IfOk result (λ done. IsControlled given answered ended before done.control jobs done.report.channels.items)
      → IfOk result (λ done. IsRecordedRun left failures ended_as jobs version ring first (contents done.out) done.report)
  recorded_run (Ok done) recorded controlled = one_run (contents done.out) done.report done.control recorded controlled
  recorded_run (Err fault) recorded controlled = tt
