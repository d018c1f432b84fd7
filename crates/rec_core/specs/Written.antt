-- What the runs of a world write of each channel.
use Rattle.std.specs.Prelude.{ℕ, ◌≡◌, ◌<◌, ◌^◌, ◌-◌, ◌++◌, true, min, List, length, map, All, Some}
use Rattle.std.specs.Prelude.{slice_get, Result}
use Rattle.std.specs.List.{filter}
use Rattle.rec_lane.specs.Offered.{frames_of, times_of}
use Rattle.rec_lane.specs.Parts.{BeginsList}
use Rattle.rec_lane.specs.Pieces.{PieceData, channel_pieces}
use Rattle.rec_writer.specs.Encoding.{writer_output}
use Rattle.rec_writer.specs.Recording.{RecordedChannel, is_of}
use Rattle.rec_writer.specs.Writers.{WriterState, IsCutPiece}
use Rattle.rec_core.specs.declared.reply.Reply.{Reply}
use Rattle.rec_core.specs.declared.fault.CoreFault.{CoreFault}
use Rattle.rec_core.specs.Openings.{SpecData, AreSpecs, HaveFilters}
use Rattle.rec_core.specs.World.{ChannelState, WorldState, EventData, WorldRun, opening_world}
use Rattle.rec_core.specs.World.{produced}

-- some events and their answers lead to this world from the opening one of channels with filters
abbrev pub RunsFromOpening : (ring : ℕ) → List SpecData → WorldState → Type 0
RunsFromOpening ring specs new =
    (events : List EventData) × (answers : List (Result Reply CoreFault))
    × AreSpecs specs × HaveFilters specs
    × WorldRun ring (opening_world specs) events answers new

-- what was written of a channel, in order
abbrev pub written_of : WorldState → ChannelState → List PieceData
written_of world c = filter (is_of c.settings.channel) world.out

-- what was written of the channel begins its pieces
abbrev pub WritesInOrder : WorldState → ChannelState → Type 0
WritesInOrder world c = BeginsList (written_of world c) (channel_pieces c.settings c.offered)

-- the channel is closed, and all that it produced is written
pub record IsEndedChannel (c : ChannelState) : Type 0 where
  pub closed : c.closed ≡ true
  pub whole : c.written ≡ length (produced c)

-- if the channel is ended, all its pieces are written, and nothing else of it
abbrev pub WritesAll : WorldState → ChannelState → Type 0
WritesAll world c = IsEndedChannel c → written_of world c ≡ channel_pieces c.settings c.offered

-- each channel is ended
abbrev pub AreEnded : WorldState → Type 0
AreEnded world = All IsEndedChannel world.channels

-- a channel of the world as a recording has it
abbrev pub recorded_channel : ChannelState → RecordedChannel
recorded_channel c =
    record {
      settings = c.settings;
      frames = frames_of c.offered;
      times = times_of c.offered;
      history = c.history;
    }

abbrev pub recorded_channels : WorldState → List RecordedChannel
recorded_channels world = map recorded_channel world.channels

-- an output that failed: behind what it held it took the packets of the pieces that were written,
-- as many as the writer says, and then the first bytes of one further packet, as many as the writer
-- says and fewer than all: that of the piece that some channel would have written next, which stays
-- in its ring
pub record IsCutShort (before : List ℕ) (writer : WriterState) (world : WorldState) : Type 0 where
  pub cut : List ℕ
  pub held_is : writer.held ≡ Some (before ++ (writer_output writer.version world.out ++ cut))
  pub whole_is : writer.whole ≡ min (length world.out) (2 ^ 64 - 1)
  pub bytes_are : writer.bytes ≡ length cut
  pub at : ℕ
  pub channel : ChannelState
  pub there : slice_get world.channels at ≡ Some channel
  pub sent : channel.written < channel.sent
  pub piece : PieceData
  pub next : slice_get (produced channel) channel.written ≡ Some piece
  pub is_cut : IsCutPiece writer.version world.out piece cut

-- the output is cut in a piece, which is one of the channel with this ID
abbrev pub IsCutShortAt : (before : List ℕ) → WriterState → WorldState → (channel : ℕ) → Type 0
IsCutShortAt before writer world channel =
    (short : IsCutShort before writer world) × (short.channel.settings.channel ≡ channel)
