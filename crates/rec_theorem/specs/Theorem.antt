-- What a reader finds of each job of a run, and the premises.
use Rattle.std.specs.Prelude.{ℕ, ◌≡◌, ◌⊎◌, Bool, List, ◌∷◌, ◌++◌, length, take, Option, None, Some}
use Rattle.std.specs.Prelude.{IfSome, [], Contains}
use Rattle.std.specs.List.{AllZip}
use Rattle.std.specs.Arc.{arc_value}
use Rattle.eth_frame.specs.Frame.{FrameData}
use Rattle.eth_frame.specs.Source.{Left}
use Rattle.eth_frame.specs.declared.source.SourceEnding.{SourceEnding}
use Rattle.rec_channel.specs.Slots.{programs_in}
use Rattle.rec_channel.specs.declared.limits.TheConstants.{MAX_VERSIONS}
use Rattle.rec_lane.specs.Offered.{AreAccepted}
use Rattle.rec_lane.specs.Parts.{BeginsList}
use Rattle.rec_lane.specs.Settings.{spec_data}
use Rattle.rec_writer.specs.declared.fault.WriteFault.{WriteFault}
use Rattle.rec_reader.specs.declared.fault.ReadFaultKind.{ReadFaultKind}
use Rattle.rec_reader.specs.declared.fault.ReadFaultKind.TheVariants.{Truncated}
use Rattle.rec_reader.specs.Packets.{PacketData}
use Rattle.rec_reader.specs.Reading.{Reads}
use Rattle.rec_reader.specs.ChannelFrames.{channel_frames}
use Rattle.rec_run.specs.Control.{given_for, programs_given}
use Rattle.rec_run.specs.Control.{Given, Answered}
use Rattle.rec_run.specs.Jobs.{channels_of_jobs}
use Rattle.rec_run.specs.Recorded.{IsRecorded, IsControlled, IsCutShort}
use Rattle.rec_run.specs.Reports.{history_of}
use Rattle.rec_run.specs.declared.ending.Ending.TheVariants.{SourceEnd}
use Rattle.rec_run.specs.declared.job.Job.{Job}
use Rattle.rec_run.specs.declared.report.ChannelReport.{ChannelReport}
use Rattle.rec_run.specs.declared.report.Done.{Done}
use Rattle.rec_run.specs.declared.report.Report.{Report}
use Rattle.rec_theorem.specs.Found.{read_frames, IsApproved, IsOneReading}

-- ---- the premises

module _ {S C W : Type 0}
    (left : S → Option Left) (failures : S → ℕ) (ended_as : S → Option SourceEnding)
    (given : C → List Given) (answered : C → List Answered) (ended : C → Bool)
    (contents : W → Option (List ℕ)) where
  -- the run of these jobs ended; and the output, which says what it holds, took these bytes since
  -- it held those before
  pub record HasRecorded
      (jobs : List (Job S)) (version : ℕ) (control : C) (out : W) (done : Done S C W)
      (before bytes : List ℕ) : Type 0 where
    -- what `record` says at `Ok`
    pub recorded : IsRecorded left failures ended_as jobs version (contents out)
        (contents done.out) done.report
    pub controlled : IsControlled given answered ended control done.control jobs
        done.report.channels.items
    pub held_before : contents out ≡ Some before
    pub held_after : contents done.out ≡ Some (before ++ bytes)

module _ {S W : Type 0}
    (left : S → Option Left) (failures : S → ℕ) (ended_as : S → Option SourceEnding)
    (contents : W → Option (List ℕ)) where
  -- the output failed in the run of these jobs; it says what it holds, and took these bytes since
  -- it held those before
  pub record HasBeenCut
      (jobs : List (Job S)) (version : ℕ) (first last : W) (fault : WriteFault)
      (report : Report S) (before bytes : List ℕ) : Type 0 where
    -- what `record` says where it answers `Write`
    pub cut : IsCutShort left failures ended_as jobs version (contents first) (contents last) fault
        report
    pub held_before : contents first ≡ Some before
    pub held_after : contents last ≡ Some (before ++ bytes)

-- ---- what is found

-- the packets have no frames of a channel that no job has
abbrev pub FindsNoOthers : {S : Type 0} → List (Job S) → List PacketData → Type 0
FindsNoOthers jobs packets =
    (channel : ℕ) → ¬ Contains (channels_of_jobs jobs) channel
    → channel_frames channel packets ≡ []

module _ {S : Type 0} (left : S → Option Left) where
  -- as many frames were taken of the job's source as the report says: the first of those that the
  -- source said, if it said any. Of these the program in force at each frame accepted as many as
  -- the report says; it is a program of the history that the report gives
  pub record HasTaken (job : Job S) (report : ChannelReport S) : Type 0 where
    pub taken : List FrameData
    pub counted : length taken ≡ report.offered
    pub first : IfSome (left job.source) (λ told. taken ≡ take report.offered told.frames)
    pub kept : List FrameData
    pub accepted : AreAccepted (history_of report) taken kept
    pub kept_is : length kept ≡ report.kept

  -- the frames that the packets have of the job's channel are exactly the accepted ones, in order
  -- and once each; where the source ended by itself, the frames that were taken are all that it
  -- said; and the programs that were in force are the job's and then the changes for its channel,
  -- up to the greatest number of versions
  pub record FindsJob
      (packets : List PacketData) (changes : List Given) (job : Job S) (report : ChannelReport S)
      : Type 0 where
    pub frames : HasTaken job report
    pub all : report.ending ≡ SourceEnd
        → IfSome (left job.source) (λ told. frames.taken ≡ told.frames)
    pub found : channel_frames job.spec.channel packets
        ≡ read_frames (spec_data job.spec) frames.kept
    pub programs : programs_in (history_of report)
        ≡ take MAX_VERSIONS
        (arc_value job.program ∷ programs_given (given_for job.spec.channel changes))

  -- the bytes are read to their end and in no other way, the accepted frames of each job are found
  -- and no others, and the audit approves
  pub record Finds
      (jobs : List (Job S)) (reports : List (ChannelReport S)) (changes : List Given)
      (bytes : List ℕ) : Type 0 where
    pub packets : List PacketData
    pub reading : IsOneReading bytes packets None
    pub each : AllZip (FindsJob packets changes) jobs reports
    pub no_others : FindsNoOthers jobs packets
    pub approved : IsApproved packets

  -- what the reader's calls answer of the recording: `read_recording` answers no fault of the
  -- bytes; at `Ok` the recording that it gives has the accepted frames of each job, which
  -- `frames_of` gives; and `audit` of it answers no fault, unless memory ran out
  pub record IsAnswered
      (jobs : List (Job S)) (reports : List (ChannelReport S)) (changes : List Given)
      (bytes : List ℕ) : Type 0 where
    pub no_fault : (before : List PacketData) (kind : ReadFaultKind)
        → ¬ Reads bytes before (Some kind)
    pub each : (recording : List PacketData) → Reads bytes recording None
        → AllZip (FindsJob recording changes) jobs reports
    pub no_others : (recording : List PacketData) → Reads bytes recording None
        → FindsNoOthers jobs recording
    pub approved : (recording : List PacketData) → Reads bytes recording None
        → IsApproved recording

  -- the frames that the packets have of the job's channel are the first of the accepted ones
  pub record BeginsJob (packets : List PacketData) (job : Job S) (report : ChannelReport S)
      : Type 0 where
    pub frames : HasTaken job report
    pub begins : BeginsList (channel_frames job.spec.channel packets)
        (read_frames (spec_data job.spec) frames.kept)

  -- the bytes are read as whole packets, and then end or are truncated, in no other way; and what
  -- is found of each job are the first of its accepted frames, and of other channels none
  pub record FindsCut
      (jobs : List (Job S)) (reports : List (ChannelReport S)) (bytes : List ℕ) : Type 0 where
    pub packets : List PacketData
    pub fault : Option ReadFaultKind
    pub cut : (fault ≡ None) ⊎ (fault ≡ Some Truncated)
    pub reading : IsOneReading bytes packets fault
    pub each : AllZip (BeginsJob packets) jobs reports
    pub no_others : FindsNoOthers jobs packets
