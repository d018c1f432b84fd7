-- What a recording comes to, once its threads have ended.
use Rattle.std.specs.Prelude.{ℕ, ◌≡◌, Bool, List, Option}
use Rattle.std.specs.Io.KnownBytes.{Keeps}
use Rattle.eth_frame.specs.Source.{Left}
use Rattle.eth_frame.specs.declared.source.SourceEnding.{SourceEnding}
use Rattle.rec_writer.specs.Writers.{WriterState, FinishFails}
use Rattle.rec_run.specs.Control.{Given, Answered, EndsControl}
use Rattle.rec_run.specs.Jobs.{channels_of_jobs, AreInRange}
use Rattle.rec_run.specs.Threads.{WroteIn}
use Rattle.rec_run.specs.Recorded.{IsRecorded, IsCutShort, IsControlled}
use Rattle.rec_run.specs.Reports.{Tells}
use Rattle.rec_run.specs.declared.control.change.Logged.{Logged}
use Rattle.rec_run.specs.declared.job.Job.{Job}
use Rattle.rec_run.specs.declared.threads.joins.Joined.{Joined}
use Rattle.rec_run.specs.declared.threads.ThreadsOutcome.{ThreadsOutcome}
use Rattle.rec_run.specs.declared.report.ChannelReport.{ChannelReport}
use Rattle.rec_run.specs.declared.report.Done.{Done}
use Rattle.rec_run.specs.declared.report.Report.{Report}
use Rattle.rec_run.specs.declared.report.RunFault.{RunFault}
use Rattle.rec_run.specs.declared.report.RunFault.TheVariants.{Memory, Write, Link, History}

abbrev pub TellsOf : {S : Type 0} → List Logged → Joined S → ChannelReport S → Type 0
TellsOf log joined report = Tells joined log report

module _ {S C W : Type 0}
    (left : S → Option Left) (failures : S → ℕ) (ended_as : S → Option SourceEnding)
    (contents : W → Option (List ℕ)) where
  -- where the output failed, the recording was cut short
  abbrev pub CutsShort :
      List (Job S) → (version : ℕ) → Option (List ℕ) → RunFault S C W → Type 0
  CutsShort jobs version first Memory = Unit {0}
  CutsShort jobs version first (Write fault report control out) =
      IsCutShort left failures ended_as jobs version first (contents out) fault report
  CutsShort jobs version first Link = Unit {0}
  CutsShort jobs version first History = Unit {0}

  -- whatever the jobs were, in range, and whatever the output held before
  abbrev pub Concludes : ThreadsOutcome S C W → Done S C W → Type 0
  Concludes o done =
      (jobs : List (Job S)) (first : Option (List ℕ))
      → AreInRange jobs o.tape.writer.version
      → WroteIn left failures ended_as first o.wrote jobs o.joined.items o.tape.writer o.tape.bytes
      → IsRecorded left failures ended_as jobs o.tape.writer.version first (contents done.out)
      done.report

  abbrev pub ConcludesCut : ThreadsOutcome S C W → RunFault S C W → Type 0
  ConcludesCut o fault =
      (jobs : List (Job S)) (first : Option (List ℕ))
      → AreInRange jobs o.tape.writer.version
      → WroteIn left failures ended_as first o.wrote jobs o.joined.items o.tape.writer o.tape.bytes
      → CutsShort jobs o.tape.writer.version first fault

module _ {S C W : Type 0}
    (left : S → Option Left) (failures : S → ℕ) (ended_as : S → Option SourceEnding)
    (given : C → List Given) (answered : C → List Answered) (ended : C → Bool) where
  abbrev pub ConcludesControl : ThreadsOutcome S C W → List ℕ → Done S C W → Type 0
  ConcludesControl o channels done =
      (jobs : List (Job S)) (first : Option (List ℕ)) (before : C)
      → WroteIn left failures ended_as first o.wrote jobs o.joined.items o.tape.writer o.tape.bytes
      → channels ≡ channels_of_jobs jobs
      → EndsControl given answered ended before o.controlled
      → IsControlled given answered ended before done.control jobs done.report.channels.items

module _ {S C W : Type 0} (contents : W → Option (List ℕ)) where
  -- the output was flushed
  pub record EndsWell (writer : WriterState) (report : Report S) (control : C) (done : Done S C W)
      : Type 0 where
    pub report_is : done.report ≡ report
    pub control_is : done.control ≡ control
    pub kept : Keeps writer.held (contents done.out)

  -- the flush failed
  abbrev pub EndsAtFlush : WriterState → Report S → RunFault S C W → Type 0
  EndsAtFlush writer report Memory = Unit {0}
  EndsAtFlush writer report (Write fault told control out) =
      FinishFails writer fault × (told ≡ report) × Keeps writer.held (contents out)
  EndsAtFlush writer report Link = Unit {0}
  EndsAtFlush writer report History = Unit {0}
