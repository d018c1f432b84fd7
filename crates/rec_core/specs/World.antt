-- The core as a machine over events: what it does and answers at each, over plain lists. Slots,
-- lanes, rings and buffers are not in here: they are what stands for such a world (Worlds.antt).
use Rattle.std.specs.Prelude.{ℕ, ◌+◌, ◌≡◌, ◌≢◌, ◌<◌, ◌≤◌, Bool, true, false, if◌then◌else◌, List}
use Rattle.std.specs.Prelude.{[], ◌∷◌}
use Rattle.std.specs.Prelude.{◌++◌, length, map, All, Some, slice_get, slice_set, Result, Ok, Err}
use Rattle.bpf_insn.specs.declared.insn.Insn.{Insn}
use Rattle.bpf_machine.specs.Machine.{Runs}
use Rattle.eth_frame.specs.Frame.{FrameData, view}
use Rattle.rec_channel.specs.declared.limits.TheConstants.{MAX_VERSIONS}
use Rattle.rec_channel.specs.History.{Version, IsHistory}
use Rattle.rec_channel.specs.Slots.{programs_in}
use Rattle.rec_lane.specs.Offered.{OfferedFrame, AllMet, accepted, noted_with}
use Rattle.rec_lane.specs.Pieces.{LaneSettings, PieceData, channel_pieces, pieces_so_far}
use Rattle.rec_lane.specs.Pieces.PieceData.{OfProgram, OfFrames, OfEnd}
use Rattle.rec_writer.specs.Encoding.{piece_packet}
use Rattle.rec_core.specs.declared.reply.Reply.{Reply}
use Rattle.rec_core.specs.declared.reply.Reply.TheVariants.{Took, Timed, Installed, Sent, Wrote}
use Rattle.rec_core.specs.declared.reply.Reply.TheVariants.{Closed as HasClosed}
use Rattle.rec_core.specs.declared.reply.Which.{Which}
use Rattle.rec_core.specs.declared.reply.Which.TheVariants.{Program, Frames, End}
use Rattle.rec_core.specs.declared.fault.CoreFault.{CoreFault}
use Rattle.rec_core.specs.declared.fault.CoreFault.TheVariants.{NoChannel, Closed, RingFull}
use Rattle.rec_core.specs.declared.fault.CoreFault.TheVariants.{NothingToSend}
use Rattle.rec_core.specs.declared.fault.CoreFault.TheVariants.{NothingToWrite, VersionsFull}
use Rattle.rec_core.specs.declared.fault.CoreFault.TheVariants.{CountFull, Output, Memory}
use Rattle.rec_core.specs.Openings.{SpecData, IsFilter}

-- ---- worlds

-- a channel: what its lane is set to, and how many frames it may have; the frames that were taken
-- and the history of its filter; whether it is closed; and how many of its pieces were sent into
-- its ring, and how many were written
pub record ChannelState : Type 0 where
  pub settings : LaneSettings
  pub max : ℕ
  pub offered : List OfferedFrame
  pub history : List Version
  pub closed : Bool
  pub sent : ℕ
  pub written : ℕ

-- all channels, and the pieces that were written, in order
pub record WorldState : Type 0 where
  pub channels : List ChannelState
  pub out : List PieceData

-- a channel of which nothing was taken
abbrev pub opening_channel : SpecData → ChannelState
opening_channel spec = record {
  settings = spec.settings;
  max = spec.max;
  offered = [];
  history = record { program = spec.program; mark = 0 } ∷ [];
  closed = false;
  sent = 0;
  written = 0;
}

-- the world in which a core begins
abbrev pub opening_world : List SpecData → WorldState
opening_world specs = record { channels = map opening_channel specs; out = [] }

-- the pieces that a channel has produced: those that are certain, and all of them once it is closed
abbrev pub produced : ChannelState → List PieceData
produced c =
    if c.closed then channel_pieces c.settings c.offered else pieces_so_far c.settings c.offered

-- ---- events

-- a frame is taken from the channel's source, or a time mark, or a program is installed; the next
-- piece is sent into the channel's ring, or the first one of the ring is written; or no more frames
-- come
pub data EventData : Type 0 where
  OfTake : (channel : ℕ) (frame : FrameData) → EventData
  OfTime : (channel counter : ℕ) → EventData
  OfInstall : (channel : ℕ) (program : List Insn) → EventData
  OfSend : (channel : ℕ) → EventData
  OfWrite : (channel : ℕ) → EventData
  OfClose : (channel : ℕ) → EventData

-- the channel that an event is of
abbrev pub event_channel : EventData → ℕ
event_channel (OfTake channel frame) = channel
event_channel (OfTime channel counter) = channel
event_channel (OfInstall channel program) = channel
event_channel (OfSend channel) = channel
event_channel (OfWrite channel) = channel
event_channel (OfClose channel) = channel

-- what is told of a piece that was sent
abbrev pub which_of : PieceData → Which
which_of (OfProgram channel counter version first program) = Program version
which_of (OfFrames channel body) = Frames (length body.frames)
which_of (OfEnd channel counter offered kept) = End

-- ---- what a channel does

-- the frame is the channel's next one, and met the last version, whose program returned its value
-- on the frame's view; no time mark came after it yet
pub record MeetsLast (c : ChannelState) (f : OfferedFrame) : Type 0 where
  pub number_is : f.number ≡ length c.offered
  pub last : f.version + 1 ≡ length c.history
  pub program_is : slice_get (programs_in c.history) f.version ≡ Some f.program
  pub ran : (steps : ℕ) × Runs f.program (view f.frame) steps f.value
  pub untimed : f.times ≡ []

-- the piece's packet has this length, whatever its version and its sequence number
abbrev pub HasPacketLen : PieceData → ℕ → Type 0
HasPacketLen piece bytes =
    (version sequence : ℕ) → length (piece_packet piece version sequence) ≡ bytes

-- the channel after one more frame, one more time mark, or one more program
abbrev pub frame_taken : ChannelState → OfferedFrame → ChannelState
frame_taken c f = record c { offered = c.offered ++ f ∷ [] }

abbrev pub time_taken : ChannelState → (counter : ℕ) → ChannelState
time_taken c counter = record c { offered = noted_with c.settings.span c.offered counter }

abbrev pub program_installed : ChannelState → List Insn → ChannelState
program_installed c program =
    record c { history = c.history ++ record { program = program; mark = length c.offered } ∷ [] }

-- after one more piece was sent, or written
abbrev pub piece_sent : ChannelState → ChannelState
piece_sent c = record c { sent = c.sent + 1 }

abbrev pub piece_written : ChannelState → ChannelState
piece_written c = record c { written = c.written + 1 }

-- and with no more frames to come
abbrev pub channel_closed : ChannelState → ChannelState
channel_closed c = record c { closed = true }

-- with rings of this size, a channel may give this answer to the event: it is `new` from then on,
-- and these pieces are written
abbrev pub ChannelDoes :
    (ring : ℕ) → ChannelState → EventData → Reply → ChannelState → List PieceData → Type 0
ChannelDoes ring c (OfTake channel frame) (Took number version value) new more =
    (f : OfferedFrame)
    × (c.closed ≡ false)
    × (length c.offered < c.max)
    × MeetsLast c f
    × (f.frame ≡ frame)
    × (number ≡ f.number)
    × (version ≡ f.version)
    × (value ≡ f.value)
    × (new ≡ frame_taken c f)
    × (more ≡ [])
ChannelDoes ring c (OfTime channel counter) Timed new more =
    (c.closed ≡ false) × (new ≡ time_taken c counter) × (more ≡ [])
ChannelDoes ring c (OfInstall channel program) (Installed version mark) new more =
    (length c.history < MAX_VERSIONS)
    × IsFilter program
    × (version ≡ length c.history)
    × (mark ≡ length c.offered)
    × (new ≡ program_installed c program)
    × (more ≡ [])
ChannelDoes ring c (OfSend channel) (Sent which) new more =
    (piece : PieceData)
    × (slice_get (produced c) c.sent ≡ Some piece)
    × (c.sent < c.written + ring)
    × (which ≡ which_of piece)
    × (new ≡ piece_sent c)
    × (more ≡ [])
ChannelDoes ring c (OfWrite channel) (Wrote bytes) new more =
    (piece : PieceData)
    × (slice_get (produced c) c.written ≡ Some piece)
    × (c.written < c.sent)
    × HasPacketLen piece bytes
    × (new ≡ piece_written c)
    × (more ≡ piece ∷ [])
ChannelDoes ring c (OfClose channel) (HasClosed offered kept) new more =
    (c.closed ≡ false)
    × (offered ≡ length c.offered)
    × (kept ≡ length (accepted c.offered))
    × (new ≡ channel_closed c)
    × (more ≡ [])
-- no other reply comes
ChannelDoes ring c _ _ new more = ⊥

-- where a channel may refuse an event: each fault where those that go before it don't stand. Out of
-- memory and a failed output are free there
abbrev pub ChannelRefuses : (ring : ℕ) → ChannelState → EventData → CoreFault → Type 0
ChannelRefuses ring c (OfTake channel frame) Closed = c.closed ≡ true
ChannelRefuses ring c (OfTake channel frame) CountFull =
    (c.closed ≡ false) × (c.max ≤ length c.offered)
ChannelRefuses ring c (OfTake channel frame) Memory =
    (c.closed ≡ false) × (length c.offered < c.max)
ChannelRefuses ring c (OfTime channel counter) Closed = c.closed ≡ true
ChannelRefuses ring c (OfTime channel counter) Memory = c.closed ≡ false
ChannelRefuses ring c (OfInstall channel program) VersionsFull = MAX_VERSIONS ≤ length c.history
ChannelRefuses ring c (OfInstall channel program) Memory = length c.history < MAX_VERSIONS
ChannelRefuses ring c (OfSend channel) NothingToSend = length (produced c) ≤ c.sent
ChannelRefuses ring c (OfSend channel) RingFull =
    (c.sent < length (produced c)) × (c.written + ring ≤ c.sent)
ChannelRefuses ring c (OfWrite channel) NothingToWrite = c.sent ≤ c.written
ChannelRefuses ring c (OfWrite channel) Output = c.written < c.sent
ChannelRefuses ring c (OfClose channel) Closed = c.closed ≡ true
ChannelRefuses ring c (OfClose channel) Memory = c.closed ≡ false
-- no other fault is answered
ChannelRefuses ring c _ _ = ⊥

-- ---- steps and runs

-- the channel with this ID stands at this index
pub record StandsAt (channels : List ChannelState) (channel at : ℕ)
    (c : ChannelState) : Type 0 where
  pub there : slice_get channels at ≡ Some c
  pub named : c.settings.channel ≡ channel

-- the world after a channel did something, and these pieces were written
abbrev pub world_after : WorldState → (at : ℕ) → ChannelState → List PieceData → WorldState
world_after world at c more =
    record { channels = slice_set world.channels at c; out = world.out ++ more }

-- from `old`, with rings of this size, the world may give this answer to the event, and is `new`
-- from then on; a refusal leaves it as it was
abbrev pub WorldStep :
    (ring : ℕ) → WorldState → EventData → Result Reply CoreFault → WorldState → Type 0
WorldStep ring old event (Ok reply) new =
    (at : ℕ)
    × (c d : ChannelState)
    × (more : List PieceData)
    × StandsAt old.channels (event_channel event) at c
    × ChannelDoes ring c event reply d more
    × (new ≡ world_after old at d more)
WorldStep ring old event (Err NoChannel) new =
    All (λ (c : ChannelState). c.settings.channel ≢ event_channel event) old.channels
    × (new ≡ old)
WorldStep ring old event (Err fault) new =
    (at : ℕ)
    × (c : ChannelState)
    × StandsAt old.channels (event_channel event) at c
    × ChannelRefuses ring c event fault
    × (new ≡ old)

-- the world may give these answers to these events, one after the other
abbrev pub WorldRun :
    (ring : ℕ) → WorldState → List EventData → List (Result Reply CoreFault) → WorldState → Type 0
WorldRun ring old [] [] new = new ≡ old
WorldRun ring old (event ∷ events) (answer ∷ answers) new =
    (mid : WorldState)
    × WorldStep ring old event answer mid × WorldRun ring mid events answers new
WorldRun ring old [] (answer ∷ answers) new = ⊥
WorldRun ring old (event ∷ events) [] new = ⊥

-- ---- what holds of a channel

-- the history is one, each frame met its version in it and the value that the version's program
-- returned, and there are not more frames and versions than may be
pub record IsInOrder (c : ChannelState) : Type 0 where
  pub history : IsHistory (length c.offered) c.history
  pub met : AllMet c.history c.offered
  pub within : length c.offered ≤ c.max
  pub few : length c.history ≤ MAX_VERSIONS
