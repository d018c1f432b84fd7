-- The jobs as they are prepared and as their workers run, what is known of a channel once its
-- worker has ended, and what the threads have left.
use Rattle.std.specs.Prelude.{◌≡◌, ◌+◌, List, [], length, map, All, ℕ, Option, ◌≤◌, Bool, false}
use Rattle.std.specs.Prelude.{◌∷◌, ◌++◌, Contains, Vec, vec_len, vec_capacity}
use Rattle.rtrb.specs.Ring.{received, sent, producer_capacity}
use Rattle.rec_core.specs.Buffers.{return_places}
use Rattle.rec_run.specs.declared.threads.setup.TheConstants.{SPARE_BUFFERS}
use Rattle.rec_run.specs.declared.job.Job.{Job}
use Rattle.rec_run.specs.declared.writer.line.WriterLine.{WriterLine}
use Rattle.rec_run.specs.declared.threads.prepared.PreparedChannel.{PreparedChannel}
use Rattle.std.specs.List.{filter, AllZip}
use Rattle.eth_frame.specs.Source.{Left}
use Rattle.eth_frame.specs.declared.source.SourceEnding.{SourceEnding}
use Rattle.rec_lane.specs.Parts.{BeginsList}
use Rattle.rec_lane.specs.Pieces.{PieceData, channel_of}
use Rattle.rec_lane.specs.Settings.{spec_data}
use Rattle.rec_writer.specs.Recording.{is_of}
use Rattle.rec_run.specs.Endings.{IsOverThen, HasEnding}
use Rattle.rec_run.specs.WorkerRuns.{versions_met, RanAs}
use Rattle.rec_run.specs.declared.threads.joins.Joined.{Joined}
use Rattle.std.specs.declared.alloc.Global.{Global}
use Rattle.rec_channel.specs.declared.shared.SharedSlot.{SharedSlot}
use Rattle.rec_writer.specs.Numbers.{numbered_channels, AreDistinctChannels}
use Rattle.rec_writer.specs.Writers.{WriterState, HasWritten, IsCutPiece}
use Rattle.rec_writer.specs.declared.fault.WriteFault.{WriteFault}
use Rattle.rec_writer.specs.declared.fault.WriteFault.TheVariants.{Output}
use Rattle.rec_run.specs.Control.{Given, Answered, MayBeAsked}
use Rattle.rec_run.specs.Writer.{bytes_of}
use Rattle.rec_run.specs.Jobs.{channels_of_jobs}
use Rattle.rec_run.specs.declared.control.change.Logged.{Logged}
use Rattle.rec_run.specs.declared.threads.ThreadsOutcome.{ThreadsOutcome}
use Rattle.rec_run.specs.declared.writer.tape.Tape.{Tape}
use Rattle.rec_run.specs.declared.writer.Wrote.{Wrote}
use Rattle.rec_run.specs.declared.writer.Wrote.TheVariants.{Nothing, Piece, Failed, Link}

module _ {S : Type 0} where
  abbrev pub job_in : PreparedChannel S → Job S
  job_in p = p.job

  abbrev pub jobs_in : List (PreparedChannel S) → List (Job S)
  jobs_in ps = map job_in ps

  -- its rings and its buffers are those of the model with rings of this size: that of its pieces
  -- has as many places, its return ring has room for all buffers of the channel, and all but the
  -- one that its lane has from the start are in it
  pub record IsSized (ring : ℕ) (p : PreparedChannel S) : Type 0 where
    pub pieces_places : producer_capacity p.tools.ring ≡ ring
    pub return_ring_places : producer_capacity p.returns ≡ return_places ring SPARE_BUFFERS
    pub buffers_are : length (sent p.returns) ≡ ring + SPARE_BUFFERS

  abbrev pub AreSized : (ring : ℕ) → List (PreparedChannel S) → Type 0
  AreSized ring ps = All (IsSized ring) ps

  -- the job that a worker got
  abbrev pub job_at : WriterLine S → Job S
  job_at l = l.handle.promise.job.value

  abbrev pub jobs_of : List (WriterLine S) → List (Job S)
  jobs_of ls = map job_at ls

  -- nothing was taken from the ring, and no buffer went back, but those of the start
  abbrev pub IsUnread : WriterLine S → Type 0
  IsUnread l = (received l.pieces ≡ []) × (length (sent l.returns) ≡ l.buffers)

  abbrev pub AreUnread : List (WriterLine S) → Type 0
  AreUnread ls = All IsUnread ls

-- ---- once a worker has ended

module _ {S : Type 0} where
  -- each channel is over, and nothing was left in its ring
  abbrev pub AreOver : List (Joined S) → Type 0
  AreOver js = All (λ j. (j.remaining ≡ 0) × IsOverThen j.done.end) js

  -- each channel has an ending
  abbrev pub AreEnded : List (Joined S) → Type 0
  AreEnded js = All (λ j. HasEnding j.done.end) js

module _ {S : Type 0}
    (left : S → Option Left) (failures : S → ℕ) (ended_as : S → Option SourceEnding)
    (pieces : List PieceData) where
  -- those of the pieces that are of the job's channel begin what its worker sent, and are all of it
  -- where nothing was left in the ring
  pub record JoinedOf (job : Job S) (j : Joined S) : Type 0 where
    pub channel_is : j.channel ≡ job.spec.channel
    pub program_is : j.done.program ≡ job.program
    pub sent : List PieceData
    pub begins : BeginsList (filter (is_of job.spec.channel) pieces) sent
    pub whole : j.remaining ≡ 0 → filter (is_of job.spec.channel) pieces ≡ sent
    pub ran : RanAs left failures ended_as
        (spec_data job.spec) job.max j.done.end job.source j.done.source
        (versions_met j.done.met.items) sent j.done.offered j.done.kept

-- ---- before and after

-- ---- before

module _ {S W : Type 0} where
  -- all that the threads need was made, and nothing is written
  pub record IsPrepared
      (slots : List SharedSlot) (prepared : Vec (PreparedChannel S) Global)
      (room : Vec (WriterLine S) Global × Vec (Joined S) Global) (tape : Tape W) : Type 0 where
    pub slots_are : length slots ≡ vec_len prepared
    pub no_lines : room.0.items ≡ []
    pub lines_fit : vec_len prepared ≤ vec_capacity room.0
    pub none_joined : vec_len room.1 ≡ 0
    pub joined_fit : vec_len prepared ≤ vec_capacity room.1
    pub distinct : AreDistinctChannels (channels_of_jobs (jobs_in prepared.items))
    pub known : numbered_channels tape.writer.numbers ≡ 0
        ∷ channels_of_jobs (jobs_in prepared.items)
    pub works : tape.writer.failed ≡ false
    pub no_bytes : tape.bytes ≡ 0

module _ {C : Type 0} (given : C → List Given) (answered : C → List Answered) (ended : C
    → Bool) where
  -- the control may be asked, and nothing is in the log
  pub record MayStart (control : C) (log : Vec Logged Global) : Type 0 where
    pub asked : MayBeAsked given answered ended control
    pub empty : log.items ≡ []

-- ---- after

module _ {S : Type 0}
    (left : S → Option Left) (failures : S → ℕ) (ended_as : S → Option SourceEnding)
    (first : Option (List ℕ)) where
  -- the writer wrote these pieces, which came from the workers of these jobs
  pub record WroteAll
      (jobs : List (Job S)) (joined : List (Joined S)) (writer : WriterState) (bytes : ℕ)
      : Type 0 where
    pub pieces : List PieceData
    pub works : writer.failed ≡ false
    pub written : HasWritten first pieces [] writer
    pub counted : bytes ≡ bytes_of writer.version pieces
    pub named : All (λ (p : PieceData). Contains (channels_of_jobs jobs) (channel_of p)) pieces
    pub joined_are : AllZip (JoinedOf left failures ended_as pieces) jobs joined

  -- the writer wrote these pieces of theirs, and of the next one the bytes that the output took
  pub record WrotePart
      (jobs : List (Job S)) (joined : List (Joined S)) (writer : WriterState) (bytes : ℕ)
      (fault : WriteFault) : Type 0 where
    pub pieces : List PieceData
    pub piece : PieceData
    pub cut : List ℕ
    pub cut_is : IsCutPiece writer.version pieces piece cut
    pub written : HasWritten first pieces cut writer
    pub fault_is : fault ≡ Output writer.whole writer.bytes
    pub counted : bytes ≡ bytes_of writer.version pieces
    pub named : All (λ (p : PieceData). Contains (channels_of_jobs jobs) (channel_of p))
        (pieces ++ piece ∷ [])
    pub joined_are : AllZip (JoinedOf left failures ended_as (pieces ++ piece ∷ [])) jobs joined

  abbrev pub WroteIn :
      Wrote → List (Job S) → List (Joined S) → WriterState → (bytes : ℕ) → Type 0
  WroteIn Nothing jobs joined writer bytes = WroteAll jobs joined writer bytes
  WroteIn Piece jobs joined writer bytes = WroteAll jobs joined writer bytes
  WroteIn (Failed fault) jobs joined writer bytes = WrotePart jobs joined writer bytes fault
  WroteIn Link jobs joined writer bytes = Unit {0}

module _ {S C W : Type 0}
    (left : S → Option Left) (failures : S → ℕ) (ended_as : S → Option SourceEnding) where
  -- since the output held `first`, this was written of the workers' pieces
  abbrev pub IsOutcome :
      Option (List ℕ) → Tape W → List (Job S) → ThreadsOutcome S C W → Type 0
  IsOutcome first tape jobs o =
      HasWritten first [] [] tape.writer
      → (o.tape.writer.version ≡ tape.writer.version)
      × WroteIn left failures ended_as first o.wrote jobs o.joined.items o.tape.writer o.tape.bytes
