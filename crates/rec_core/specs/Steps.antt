-- What the calls of a core's channel did.
use Rattle.std.specs.Prelude.{ℕ, ◌+◌, ◌≡◌, ◌⊎◌, true, List, [], ◌∷◌, ◌++◌, length, Some, slice_get}
use Rattle.std.specs.Prelude.{Result, Ok, Err}
use Rattle.bpf_insn.specs.declared.insn.Insn.{Insn}
use Rattle.bpf_machine.specs.Machine.{Runs}
use Rattle.eth_frame.specs.Frame.{FrameData, view}
use Rattle.rec_channel.specs.Slots.{SlotState, programs_in, one_frame_later}
use Rattle.rec_lane.specs.Lanes.{LaneState, running, offered_now, Meets, MakesCertain, MeetsTime}
use Rattle.rec_lane.specs.Lanes.{MakesCertainAt}
use Rattle.rec_lane.specs.Pieces.{PieceData}
use Rattle.rec_writer.specs.Writers.{WriterState, PutsWhole, PutsPart}
use Rattle.rec_core.specs.declared.reply.Reply.{Reply}
use Rattle.rec_core.specs.declared.fault.CoreFault.{CoreFault}
use Rattle.rec_core.specs.declared.reply.Reply.TheVariants.{Took, Timed}
use Rattle.rec_core.specs.declared.fault.CoreFault.TheVariants.{Output, Memory}
use Rattle.rec_core.specs.World.{ChannelState, EventData, ChannelDoes, ChannelRefuses}
use Rattle.rec_core.specs.Worlds.{ChannelParts, HoldsChannel}

-- whatever channel the parts held, the channel did what the event asks for, these pieces are
-- written, and the parts hold what it is now
abbrev pub DoesEvent :
    (size : ℕ) → ChannelParts → ChannelParts → EventData → Reply → List PieceData → Type 0
DoesEvent size old new event reply more =
    (c : ChannelState) → HoldsChannel size old c
    → (d : ChannelState) × ChannelDoes size c event reply d more × HoldsChannel size new d

-- whatever channel the parts held, it may refuse the event, and they hold it as it was
abbrev pub RefusesEvent :
    (size : ℕ) → ChannelParts → ChannelParts → EventData → CoreFault → Type 0
RefusesEvent size old new event fault =
    (c : ChannelState) → HoldsChannel size old c
    → ChannelRefuses size c event fault × HoldsChannel size new c

-- an event at which nothing is written was answered
abbrev pub AnswersEvent :
    (size : ℕ) → ChannelParts → ChannelParts → EventData → Result Reply CoreFault → Type 0
AnswersEvent size old new event (Ok reply) = DoesEvent size old new event reply []
AnswersEvent size old new event (Err fault) = RefusesEvent size old new event fault

-- ---- an offer

-- the lane with its next buffer
abbrev pub lane_ready : LaneState → LaneState
lane_ready lane = record lane { ready = true }

-- the version in force was drawn, the lane met the frame with it, and the pieces that became
-- certain are pending behind the others
pub record Offers
    (slot drawn : SlotState) (lane met : LaneState) (pending more : List PieceData)
    (frame : FrameData) (reply : Reply) : Type 0 where
  pub version : ℕ
  pub program : List Insn
  pub value : ℕ
  pub given : List PieceData
  pub reply_is : reply ≡ Took slot.offered version value
  pub last : version + 1 ≡ length slot.history
  pub program_is : slice_get (programs_in slot.history) version ≡ Some program
  pub ran : (steps : ℕ) × Runs (running lane.current version program) (view frame) steps value
  pub counted : drawn ≡ one_frame_later slot
  pub settings_stay : met.settings ≡ lane.settings
  pub meets : Meets (lane_ready lane) met
      (offered_now (lane_ready lane) version program frame value)
  pub makes : MakesCertain (lane_ready lane)
      (offered_now (lane_ready lane) version program frame value) given
  pub added : more ≡ pending ++ given

-- no memory: nothing changed, but that the lane may have its next buffer
pub record NotOffered
    (slot drawn : SlotState) (lane met : LaneState) (pending more : List PieceData)
    (fault : CoreFault) : Type 0 where
  pub fault_is : fault ≡ Memory
  pub slot_stays : drawn ≡ slot
  pub lane_stays : (met ≡ lane) ⊎ (met ≡ lane_ready lane)
  pub pending_stays : more ≡ pending

-- the lane met this time mark, and the piece that became certain, if one did, is pending behind the
-- others
pub record Notes
    (lane met : LaneState) (pending more : List PieceData) (counter : ℕ) (reply : Reply)
    : Type 0 where
  pub given : List PieceData
  pub reply_is : reply ≡ Timed
  pub settings_stay : met.settings ≡ lane.settings
  pub meets : MeetsTime (lane_ready lane) met counter
  pub makes : MakesCertainAt (lane_ready lane) counter given
  pub added : more ≡ pending ++ given

-- ---- a write

-- the writer wrote these pieces: none, or one
abbrev pub Writes : WriterState → WriterState → List PieceData → Type 0
Writes old new [] = new ≡ old
Writes old new (piece ∷ []) = PutsWhole old new piece
Writes old new (piece ∷ other ∷ more) = ⊥

-- the output failed at the first piece in the ring, or had failed before
pub record FailsAtPiece (old new : WriterState) (ring : List PieceData) : Type 0 where
  pub piece : PieceData
  pub rest : List PieceData
  pub front : ring ≡ piece ∷ rest
  pub fails : PutsPart old new piece ⊎ ((old.failed ≡ true) × (new ≡ old))

-- what a refusal did to the writer: nothing, but for a failed output
abbrev pub LeavesWriter : WriterState → WriterState → List PieceData → CoreFault → Type 0
LeavesWriter old new ring Output = FailsAtPiece old new ring
LeavesWriter old new ring fault = new ≡ old

-- what an event did to a channel and to the writer
abbrev pub Serves :
    (size : ℕ) → ChannelParts → ChannelParts → WriterState → WriterState
    → EventData → Result Reply CoreFault → Type 0
Serves size old new writer after event (Ok reply) =
    (more : List PieceData)
    × DoesEvent size old new event reply more × Writes writer after more
Serves size old new writer after event (Err fault) =
    RefusesEvent size old new event fault × LeavesWriter writer after old.ring fault
