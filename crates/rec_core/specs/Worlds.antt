-- What a core holds, and the world that it stands for.
use Rattle.std.specs.Prelude.{ℕ, ◌+◌, ◌≡◌, ◌≢◌, Bool, true, false, List, [], ◌∷◌, ◌++◌, length, map}
use Rattle.std.specs.Prelude.{All, Option, None, Some, slice_get, Result, Err}
use Rattle.std.specs.List.{AllZip}
use Rattle.rec_channel.specs.Slots.{SlotState}
use Rattle.rec_lane.specs.Pieces.{LaneSettings, PieceData}
use Rattle.rec_lane.specs.Lanes.{LaneState, HasMet}
use Rattle.rec_writer.specs.Numbers.{numbered_channels}
use Rattle.rec_writer.specs.Writers.{WriterState, HasWritten, IsCutPiece}
use Rattle.rec_core.specs.declared.reply.Reply.{Reply}
use Rattle.rec_core.specs.declared.reply.Reply.TheVariants.{Wrote}
use Rattle.rec_core.specs.declared.fault.CoreFault.{CoreFault}
use Rattle.rec_core.specs.declared.fault.CoreFault.TheVariants.{Output}
use Rattle.rec_core.specs.World.{ChannelState, WorldState, EventData, WorldStep, WorldRun}
use Rattle.rec_core.specs.World.{event_channel, produced, IsInOrder}

-- what a core holds of a channel: what its lane is set to, and how many frames it may have; its
-- slot; its lane until it is closed; how many pieces its ring has room for, and those in it; and
-- those that were not sent yet
pub record ChannelParts : Type 0 where
  pub settings : LaneSettings
  pub max : ℕ
  pub slot : SlotState
  pub lane : Option LaneState
  pub places : ℕ
  pub ring : List PieceData
  pub pending : List PieceData

-- a core: its channels and its writer
pub record CoreState : Type 0 where
  pub channels : List ChannelParts
  pub writer : WriterState

-- ---- a channel

-- an open channel has a lane, which has met its frames; a closed one has none
abbrev pub HasLane : Option LaneState → ChannelState → Type 0
HasLane None c = c.closed ≡ true
HasLane (Some lane) c =
    (c.closed ≡ false) × (lane.settings ≡ c.settings) × HasMet lane c.offered

-- what the channel produced is what was written of it, then what is in the ring, and then what was
-- not sent yet
pub record AreQueued (c : ChannelState) (ring pending : List PieceData) : Type 0 where
  pub gone : List PieceData
  pub produced_is : produced c ≡ gone ++ (ring ++ pending)
  pub written_is : c.written ≡ length gone
  pub sent_is : c.sent ≡ length gone + length ring

-- these are the parts of the channel, with a ring of this size
pub record HoldsChannel (size : ℕ) (parts : ChannelParts) (c : ChannelState) : Type 0 where
  pub settings_are : parts.settings ≡ c.settings
  pub max_is : parts.max ≡ c.max
  pub slot_is : parts.slot
      ≡ record { history = c.history; offered = length c.offered; max = c.max }
  pub lane_is : HasLane parts.lane c
  pub size_is : parts.places ≡ size
  pub queued : AreQueued c parts.ring parts.pending
  pub in_order : IsInOrder c

-- they are the parts of some channel
abbrev pub AreHeldParts : ChannelParts → Type 0
AreHeldParts parts = (size : ℕ) × (c : ChannelState) × HoldsChannel size parts c

-- ---- a core

-- the bytes are the beginning of the packet of the first piece in this channel's ring, and not all
-- of it
pub record IsCutAtFront
    (core : CoreState) (channel : ℕ) (out : List PieceData) (cut : List ℕ) : Type 0 where
  pub at : ℕ
  pub parts : ChannelParts
  pub there : slice_get core.channels at ≡ Some parts
  pub named : parts.settings.channel ≡ channel
  pub piece : PieceData
  pub rest : List PieceData
  pub front : parts.ring ≡ piece ∷ rest
  pub is_cut : IsCutPiece core.writer.version out piece cut

-- the core stands for the world, with rings of this size: its channels hold those of the world, and
-- since the output held `first` the writer has written the world's pieces, and then, where the
-- output failed, a part of the first piece in some ring
pub record StandsForWorld
    (size : ℕ) (first : Option (List ℕ)) (core : CoreState) (world : WorldState) : Type 0 where
  pub channels_are : AllZip (HoldsChannel size) core.channels world.channels
  pub cut : List ℕ
  pub written : HasWritten first world.out cut core.writer
  pub none_cut : core.writer.failed ≡ false → cut ≡ []
  pub cut_at_front : core.writer.failed ≡ true
      → (channel : ℕ) × IsCutAtFront core channel world.out cut

-- the core stands for the world, and its output failed in the first piece of this channel's ring
pub record StandsCutAt
    (size : ℕ) (first : Option (List ℕ)) (core : CoreState) (world : WorldState) (channel : ℕ)
    : Type 0 where
  pub stands : StandsForWorld size first core world
  pub failed : core.writer.failed ≡ true
  pub cut : List ℕ
  pub written : HasWritten first world.out cut core.writer
  pub at_front : IsCutAtFront core channel world.out cut

-- the core stands for the world, and its output failed in a piece of this channel, or works if
-- there is none
abbrev pub StandsWith :
    (size : ℕ) (first : Option (List ℕ)) → CoreState → WorldState → Option ℕ → Type 0
StandsWith size first core world None =
    StandsForWorld size first core world × (core.writer.failed ≡ false)
StandsWith size first core world (Some channel) = StandsCutAt size first core world channel

-- ---- what a call did

-- whatever world the core stood for, this answer to the event leads to one that it stands for now
abbrev pub StepsWorld : CoreState → CoreState → EventData → Result Reply CoreFault → Type 0
StepsWorld old new event answer =
    (size : ℕ) (first : Option (List ℕ)) (world : WorldState)
    → StandsForWorld size first old world
    → (after : WorldState)
    × WorldStep size world event answer after × StandsForWorld size first new after

-- and so do these answers to these events, one after the other
abbrev pub RunsWorld :
    CoreState → CoreState → List EventData → List (Result Reply CoreFault) → Type 0
RunsWorld old new events answers =
    (size : ℕ) (first : Option (List ℕ)) (world : WorldState)
    → StandsForWorld size first old world
    → (after : WorldState)
    × WorldRun size world events answers after × StandsForWorld size first new after

-- the channel in whose piece the output has failed: as before, or that of the first event that is
-- answered so
abbrev pub failed_then : EventData → Result Reply CoreFault → Option ℕ → Option ℕ
failed_then event (Err Output) None = Some (event_channel event)
failed_then event answer failed = failed

-- the channel whose write failed first, after these answers to these events
abbrev pub failed_after : List EventData → List (Result Reply CoreFault) → Option ℕ → Option ℕ
failed_after (event ∷ events) (answer ∷ answers) failed =
    failed_after events answers (failed_then event answer failed)
failed_after events answers failed = failed

-- whatever world the core stood for and whatever channel's piece was cut, the answer to the event
-- leads to a world that the core stands for now, and the piece that is cut now is of the channel
-- which was answered first that the output failed
abbrev pub StepsCut : CoreState → CoreState → EventData → Result Reply CoreFault → Type 0
StepsCut old new event answer =
    (size : ℕ) (first : Option (List ℕ)) (world : WorldState) (failed : Option ℕ)
    → StandsWith size first old world failed
    → (after : WorldState)
    × WorldStep size world event answer after
    × StandsWith size first new after (failed_then event answer failed)

-- and so do these answers to these events, one after the other
abbrev pub RunsCut :
    CoreState → CoreState → List EventData → List (Result Reply CoreFault) → Type 0
RunsCut old new events answers =
    (size : ℕ) (first : Option (List ℕ)) (world : WorldState) (failed : Option ℕ)
    → StandsWith size first old world failed
    → (after : WorldState)
    × WorldRun size world events answers after
    × StandsWith size first new after (failed_after events answers failed)

-- a piece is written only while the output has not failed
abbrev pub WritesOnlyWhileItWorks : (failed : Bool) → Reply → Type 0
WritesOnlyWhileItWorks failed (Wrote bytes) = failed ≡ false
WritesOnlyWhileItWorks failed other = Unit {0}

-- ---- what a core's fields hold

-- the IDs of the channels
abbrev pub channels_of_parts : List ChannelParts → List ℕ
channels_of_parts channels = map (λ (p : ChannelParts). p.settings.channel) channels

-- the writer is one of these channels, none of which has the ID 0, and the core stands for a world
pub record IsCore (core : CoreState) : Type 0 where
  pub known : numbered_channels core.writer.numbers ≡ 0 ∷ channels_of_parts core.channels
  pub named : All (λ (channel : ℕ). channel ≢ 0) (channels_of_parts core.channels)
  pub size : ℕ
  pub first : Option (List ℕ)
  pub world : WorldState
  pub stands : StandsForWorld size first core world
