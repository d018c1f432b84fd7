-- The steps of a worker: what it waits for, the offer of a frame to its lane, and a turn.
use Rattle.std.specs.Prelude.{◌≡◌, true, ℕ, List, ◌⊎◌, Option, MatchOption}
use Rattle.rec_lane.specs.Lanes.{LaneState, running, offered_now, Meets, MakesCertain}
use Rattle.rec_run.specs.declared.ending.Ending.TheVariants.{SourceEnd, SourceFault, Memory}
use Rattle.rec_run.specs.declared.ending.Ending.TheVariants.{CountFull, Stopped}
use Rattle.rec_run.specs.declared.ending.WorkerEnd.{WorkerEnd}
use Rattle.rec_run.specs.declared.ending.WorkerEnd.TheVariants.{Ended, Link, History}
use Rattle.bpf_insn.specs.declared.insn.Insn.{Insn}
use Rattle.bpf_machine.specs.Machine.{Runs}
use Rattle.eth_frame.specs.Frame.{FrameData, view}
use Rattle.rec_lane.specs.Pieces.{PieceData}
use Rattle.rec_run.specs.VersionsMet.{VersionMet, met_after}
use Rattle.rtrb.specs.Ring.{sent}
use Rattle.eth_frame.specs.Source.{Left}
use Rattle.eth_frame.specs.declared.source.SourceEnding.{SourceEnding}
use Rattle.rec_lane.specs.Parts.{BeginsList}
use Rattle.rec_lane.specs.Views.{pieces_data}
use Rattle.rec_run.specs.WorkerRuns.{versions_met, Going, StopsAs, TakesOne, TakesMark}
use Rattle.rec_run.specs.declared.worker.Worker.{Worker}

-- the worker gives up
abbrev pub IsStop : WorkerEnd → Type 0
IsStop (Ended Stopped) = Unit {0}
IsStop (Ended SourceEnd) = ⊥
IsStop (Ended (SourceFault fault)) = ⊥
IsStop (Ended Memory) = ⊥
IsStop (Ended CountFull) = ⊥
IsStop Link = Unit {0}
IsStop History = Unit {0}

-- the lane has a buffer now, and is else as it was
abbrev pub HasBuffer : LaneState → LaneState → Type 0
HasBuffer old new = new ≡ record old { ready = true }

-- ---- the offer of a frame

-- the lane met this frame more under some version, which is the last one of those met then, and
-- these pieces became certain
pub record Offers
    (old new : LaneState) (met met_then : List VersionMet) (frame : FrameData)
    (given : List PieceData) : Type 0 where
  pub version : ℕ
  pub program : List Insn
  pub value : ℕ
  pub grown : met_then ≡ met_after met version old.offered program
  pub ran : (steps : ℕ) × Runs (running old.current version program) (view frame) steps value
  pub meets : Meets old new (offered_now old version program frame value)
  pub makes : MakesCertain old (offered_now old version program frame value) given
  pub settings : new.settings ≡ old.settings

-- ---- a turn

module _ {S : Type 0} where
  -- the versions that a worker met, and the pieces that it sent
  abbrev pub met_by : Worker S → List VersionMet
  met_by worker = versions_met worker.met.items

  abbrev pub sent_by : Worker S → List PieceData
  sent_by worker = pieces_data (sent worker.ring)

  -- the worker was to take this frame: it did, or it gave up before or after that
  abbrev pub RecordsFrame : Worker S → Worker S → FrameData → Option WorkerEnd → Type 0
  RecordsFrame old new frame result =
      MatchOption result
      (TakesOne old.lane new.lane (met_by old) (met_by new) (sent_by old) (sent_by new) frame
      (λ some all. some ≡ all))
      (λ end. IsStop end
      × (TakesOne old.lane new.lane (met_by old) (met_by new) (sent_by old) (sent_by new) frame
      BeginsList
      ⊎ ((new.lane ≡ old.lane) × (met_by new ≡ met_by old) × (sent_by new ≡ sent_by old))))

  -- the worker was to take this time mark: it did, or it gave up after that
  abbrev pub RecordsTime : Worker S → Worker S → (counter : ℕ) → Option WorkerEnd → Type 0
  RecordsTime old new counter result =
      MatchOption result
      (TakesMark old.lane new.lane (met_by old) (met_by new) (sent_by old) (sent_by new) counter
      (λ some all. some ≡ all))
      (λ end. IsStop end
      × TakesMark old.lane new.lane (met_by old) (met_by new) (sent_by old) (sent_by new) counter
      BeginsList)

module _ {S : Type 0}
    (left : S → Option Left) (failures : S → ℕ) (ended_as : S → Option SourceEnding) where
  -- the worker goes on, since its source was as before
  abbrev pub GoesOn : S → Worker S → Type 0
  GoesOn before worker =
      Going left failures ended_as worker.max before worker.source worker.lane (met_by worker)
      (sent_by worker)

  -- the worker came to this end
  abbrev pub ComesTo : S → Worker S → WorkerEnd → Type 0
  ComesTo before worker end =
      StopsAs left failures ended_as end worker.max before worker.source worker.lane (met_by worker)
      (sent_by worker)

  -- a worker that went on goes on, or came to an end
  abbrev pub StepsOn : Worker S → Worker S → Option WorkerEnd → Type 0
  StepsOn old new result =
      (before : S) → GoesOn before old → MatchOption result (GoesOn before new) (ComesTo before new)
