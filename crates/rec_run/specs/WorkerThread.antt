-- What a worker's thread starts with, and what it gives back.
use Rattle.std.specs.Prelude.{◌≡◌, ◌⊎◌, List, [], ◌++◌, ℕ, Option}
use Rattle.rtrb.specs.Ring.{sent, SameProducer}
use Rattle.rec_lane.specs.Parts.{BeginsList}
use Rattle.rec_lane.specs.Pieces.{LaneSettings, PieceData}
use Rattle.rec_lane.specs.Lanes.{LaneState, new_lane, AreLeft}
use Rattle.rec_run.specs.Endings.{IsOverThen}
use Rattle.rec_run.specs.declared.ending.Ending.TheVariants.{Stopped}
use Rattle.rec_run.specs.declared.ending.WorkerEnd.{WorkerEnd}
use Rattle.rec_run.specs.declared.ending.WorkerEnd.TheVariants.{Ended}
use Rattle.rec_run.specs.declared.worker.thread.Tools.{Tools}
use Rattle.std.specs.declared.alloc.Global.{Global}
use Rattle.rtrb.specs.declared.producer.Producer.{Producer}
use Rattle.rtrb.specs.declared.AnyItems.{AnyItems}
use Rattle.eth_frame.specs.Source.{Left}
use Rattle.eth_frame.specs.declared.source.SourceEnding.{SourceEnding}
use Rattle.rec_lane.specs.declared.piece.Piece.{Piece}
use Rattle.rec_lane.specs.Settings.{spec_data}
use Rattle.rec_lane.specs.Views.{pieces_data}
use Rattle.rec_run.specs.WorkerRuns.{versions_met, RanAs}
use Rattle.rec_run.specs.declared.job.Job.{Job}
use Rattle.rec_run.specs.declared.worker.thread.WorkerDone.{WorkerDone}

-- a lane of no frames, of these settings; nothing was sent yet, and no version met
pub record StartsWith (tools : Tools) (settings : LaneSettings) : Type 0 where
  pub lane_is : tools.lane ≡ new_lane settings
  pub none_sent : sent tools.ring ≡ []
  pub none_met : tools.met.items ≡ []

-- all pieces that were left of the lane were sent
pub record SendsAll (lane : LaneState) (before after : List PieceData) : Type 0 where
  pub given : List PieceData
  pub left : AreLeft lane given
  pub sent_is : after ≡ before ++ given

-- some of them were
pub record SendsSome (lane : LaneState) (before after : List PieceData) : Type 0 where
  pub given : List PieceData
  pub left : AreLeft lane given
  pub part : BeginsList after (before ++ given)

-- a channel that is over ends with its last pieces, unless the recording stops before all went;
-- else nothing is sent
abbrev pub SendsLast : LaneState → (stop end : WorkerEnd) → (before after : List PieceData) → Type 0
SendsLast lane stop end before after =
    (IsOverThen stop × (end ≡ stop) × SendsAll lane before after)
    ⊎ ((IsOverThen stop × (end ≡ Ended Stopped) × SendsSome lane before after)
    ⊎ ((¬ IsOverThen stop) × (end ≡ stop) × (after ≡ before)))

-- ---- what a worker's thread gives back

module _ {S : Type 0}
    (left : S → Option Left) (failures : S → ℕ) (ended_as : S → Option SourceEnding) where
  -- the worker of this job, which had this end of its ring, did this
  pub record KeepsWorker (job : Job S) (ring : Producer Piece Global AnyItems)
      (done : WorkerDone S) : Type 0 where
    pub program_is : done.program ≡ job.program
    pub same_ring : SameProducer ring done.ring
    pub ran : RanAs left failures ended_as (spec_data job.spec) job.max done.end job.source
        done.source (versions_met done.met.items)
        (pieces_data (sent done.ring)) done.offered done.kept
