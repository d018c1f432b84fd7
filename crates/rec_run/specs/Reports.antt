-- What the report of a channel says of its job.
use Rattle.std.specs.Prelude.{ℕ, List, map, ◌≡◌, ◌<◌, ◌≤◌, ◌^◌, [], ◌∷◌, length, All, Option, None}
use Rattle.std.specs.Prelude.{IsSome}
use Rattle.std.specs.Arc.{arc_value}
use Rattle.std.specs.declared.sync.Arc.{Arc}
use Rattle.std.specs.declared.alloc.Global.{Global}
use Rattle.bpf_insn.specs.declared.insn.Insn.{Insn}
use Rattle.rec_channel.specs.History.{Version, IsHistory}
use Rattle.rec_channel.specs.Slots.{versions_of, programs_in, marks_in}
use Rattle.eth_frame.specs.Frame.{FrameData, IsFrame}
use Rattle.eth_frame.specs.Source.{Left}
use Rattle.eth_frame.specs.declared.source.SourceEnding.{SourceEnding}
use Rattle.rec_channel.specs.declared.limits.TheConstants.{MAX_VERSIONS}
use Rattle.rec_lane.specs.Offered.{AreAccepted, AreUntimed}
use Rattle.rec_lane.specs.Settings.{spec_data}
use Rattle.rec_writer.specs.Recording.{RecordedChannel}
use Rattle.rec_run.specs.Endings.{EndsAs, TimesEndAs, worker_ending_of}
use Rattle.rec_run.specs.Control.{AreAnswered}
use Rattle.rec_run.specs.Jobs.{AreLaneSettings}
use Rattle.rec_run.specs.VersionsMet.{AreServed}
use Rattle.rec_run.specs.WorkerRuns.{versions_met}
use Rattle.rec_run.specs.declared.control.change.Logged.{Logged}
use Rattle.rec_run.specs.declared.job.Job.{Job}
use Rattle.rec_run.specs.declared.threads.joins.Joined.{Joined}
use Rattle.rec_run.specs.declared.report.ChannelReport.{ChannelReport}

-- programs that are shared
abbrev pub programs_at : List (Arc (List Insn) Global) → List (List Insn)
programs_at programs = map arc_value programs

abbrev pub history_in : List (Arc (List Insn) Global) → List ℕ → List Version
history_in programs marks = versions_of (programs_at programs) marks

-- ---- reports

module _ {S : Type 0} where
  -- the history that a report gives
  abbrev pub history_of : ChannelReport S → List Version
  history_of r = history_in r.versions.items r.marks.items

  -- the report tells what the worker has left, with a history that served the versions which the
  -- worker met and that agrees with the log
  pub record Tells (joined : Joined S) (log : List Logged) (r : ChannelReport S) : Type 0 where
    pub channel_is : r.channel ≡ joined.channel
    pub offered_is : r.offered ≡ joined.done.offered
    pub kept_is : r.kept ≡ joined.done.kept
    pub ending_is : r.ending ≡ worker_ending_of joined.done.end
    pub source_is : r.source ≡ joined.done.source
    pub history : IsHistory r.offered (history_of r)
    pub few : length (history_of r) ≤ MAX_VERSIONS
    pub programs_are : programs_at r.versions.items ≡ programs_in (history_of r)
    pub marks_are : r.marks.items ≡ marks_in (history_of r)
    pub served : AreServed (history_of r) r.offered (versions_met joined.done.met.items)
    pub answered : AreAnswered r.channel (arc_value joined.done.program) (history_of r) log

module _ {S : Type 0}
    (left : S → Option Left) (failures : S → ℕ) (ended_as : S → Option SourceEnding) where
  -- the channel of this report, as it was recorded: its settings are the job's and in range, its
  -- frames were taken from the job's source, fewer than 2^64, and its history is the one that the
  -- report gives
  pub record IsReport (job : Job S) (r : ChannelReport S) (channel : RecordedChannel) : Type 0 where
    pub settings_are : channel.settings ≡ spec_data job.spec
    pub settings_fit : AreLaneSettings channel.settings
    pub history_is : channel.history ≡ history_of r
    pub history : IsHistory r.offered channel.history
    pub few : length channel.history ≤ MAX_VERSIONS
    -- the report's rows are the history, and nothing else
    pub programs_are : programs_at r.versions.items ≡ programs_in channel.history
    pub marks_are : r.marks.items ≡ marks_in channel.history
    pub channel_is : r.channel ≡ job.spec.channel
    pub framed : All IsFrame channel.frames
    -- each has its time marks, of which there are none where packets have no span
    pub timed : length channel.times ≡ length channel.frames
    pub untimed : channel.settings.span ≡ None → AreUntimed channel.times
    pub times_are : IsSome channel.settings.span
        → TimesEndAs r.ending (left job.source) channel.times
    pub few_frames : length channel.frames < 2 ^ 64
    pub offered_is : r.offered ≡ length channel.frames
    pub within : r.offered ≤ job.max
    pub kept : List FrameData
    pub accepted : AreAccepted channel.history channel.frames kept
    pub kept_is : r.kept ≡ length kept
    pub ends : EndsAs left failures ended_as r.ending job.source r.source channel.frames job.max

  -- the reports are those of these channels, job by job
  abbrev pub AreReports : List (Job S) → List (ChannelReport S) → List RecordedChannel → Type 0
  AreReports [] [] [] = Unit {0}
  AreReports [] [] (c ∷ cs) = ⊥
  AreReports [] (r ∷ rs) cs = ⊥
  AreReports (j ∷ js) [] cs = ⊥
  AreReports (j ∷ js) (r ∷ rs) [] = ⊥
  AreReports (j ∷ js) (r ∷ rs) (c ∷ cs) = IsReport j r c × AreReports js rs cs
