-- The export of a recording: its frames as one pcapng file.
use Rattle.std.specs.Prelude.{ℕ, if◌then◌else◌, List, [], ◌∷◌, ◌++◌, Option, None, Some}
use Rattle.std.specs.Option.{option_map}
use Rattle.pcapng_blocks.specs.Blocks.{BlockData}
use Rattle.pcapng_blocks.specs.Blocks.BlockData.{OfSection}
use Rattle.ch11_packet.specs.FramesRead.{ReadFrameData}
use Rattle.rec_reader.specs.Packets.{PacketData}
use Rattle.rec_reader.specs.Channels.{Saying, saying_of}
use Rattle.rec_reader.specs.Channels.Saying.{OfFrames, OfProgram, OfEnd}
use Rattle.rec_export.specs.declared.version.FilterVersion.{FilterVersion}
use Rattle.rec_export.specs.declared.version.LaterVersions.{LaterVersions}
use Rattle.rec_export.specs.Frames.{frame_blocks}
use Rattle.rec_export.specs.Versions.{filter_version, later_text, joined_by}
use Rattle.rec_export.specs.Interfaces.{Interface, interface_block, number_of, is_described}
use Rattle.rec_export.specs.Interfaces.{later_of, with_interface}

-- what is kept of an export: the origin of times in seconds, if one is given, and the interfaces
pub record ExportState : Type 0 where
  pub origin : Option ℕ
  pub interfaces : List Interface

-- the state of these parts
abbrev pub export_state : (origin : Option ℕ) → List Interface → ExportState
export_state origin interfaces = record { origin = origin; interfaces = interfaces }

-- the description of a channel's interface, if the channel has none yet
abbrev pub description :
    ExportState → (channel : ℕ) → Option FilterVersion → List BlockData
description state channel version =
    if is_described channel state.interfaces then []
    else interface_block state.origin channel version ∷ []

-- the filter's later versions that are still to be shown behind these frames
abbrev pub later_behind : List ReadFrameData → Option LaterVersions → Option LaterVersions
later_behind [] later = later
later_behind (frame ∷ frames) later = None

-- ---- frames of a channel

-- their blocks: the description of the interface, if it has none, and the frames, with the filter's
-- later versions as a comment on the first
abbrev pub blocks_of_frames : ExportState → (channel : ℕ) → List ReadFrameData → List BlockData
blocks_of_frames state channel frames =
    description state channel None
    ++ frame_blocks (number_of channel state.interfaces)
    (option_map later_text (later_of channel state.interfaces)) frames

-- what is kept behind them
abbrev pub state_behind_frames : ExportState → (channel : ℕ) → List ReadFrameData → ExportState
state_behind_frames state channel frames =
    export_state state.origin (with_interface channel
    (later_behind frames (later_of channel state.interfaces)) state.interfaces)

-- ---- a filter's version of a channel

-- its block: the description of the interface with it as a comment, if the channel has none yet
abbrev pub blocks_of_version : ExportState → (channel : ℕ) → FilterVersion → List BlockData
blocks_of_version state channel version = description state channel (Some version)

-- the filter's later versions that are still to be shown behind it: it is one of them, if it isn't
-- the comment of the interface
abbrev pub later_with :
    (channel : ℕ) → FilterVersion → List Interface → Option LaterVersions
later_with channel version interfaces =
    if is_described channel interfaces
    then Some (joined_by (later_of channel interfaces) version)
    else None

-- what is kept behind it
abbrev pub state_behind_version : ExportState → (channel : ℕ) → FilterVersion → ExportState
state_behind_version state channel version =
    export_state state.origin (with_interface channel
    (later_with channel version state.interfaces) state.interfaces)

-- ---- one packet

-- the blocks for what a packet says of a channel
abbrev pub blocks_said : ExportState → Option (ℕ × Saying) → List BlockData
blocks_said state (Some (channel, OfFrames frames)) = blocks_of_frames state channel frames
blocks_said state (Some (channel, OfProgram program)) =
    blocks_of_version state channel (filter_version program)
blocks_said state (Some (channel, OfEnd end)) = []
blocks_said state None = []

-- what is kept behind it
abbrev pub state_said : ExportState → Option (ℕ × Saying) → ExportState
state_said state (Some (channel, OfFrames frames)) = state_behind_frames state channel frames
state_said state (Some (channel, OfProgram program)) =
    state_behind_version state channel (filter_version program)
state_said state (Some (channel, OfEnd end)) = state
state_said state None = state

-- the blocks for a packet, and what is kept behind it
abbrev pub packet_blocks : ExportState → PacketData → List BlockData
packet_blocks state packet = blocks_said state (saying_of packet)

abbrev pub state_behind : ExportState → PacketData → ExportState
state_behind state packet = state_said state (saying_of packet)

-- ---- all packets

-- the blocks for packets, and what is kept behind them
abbrev pub packets_blocks : ExportState → List PacketData → List BlockData
packets_blocks state [] = []
packets_blocks state (packet ∷ packets) =
    packet_blocks state packet ++ packets_blocks (state_behind state packet) packets

abbrev pub state_behind_all : ExportState → List PacketData → ExportState
state_behind_all state [] = state
state_behind_all state (packet ∷ packets) = state_behind_all (state_behind state packet) packets

-- before the first packet
abbrev pub first_state : (origin : Option ℕ) → ExportState
first_state origin = export_state origin []

-- the blocks of the export of packets: a section header, and those for each packet
abbrev pub export_blocks : (origin : Option ℕ) → List PacketData → List BlockData
export_blocks origin packets = OfSection ∷ packets_blocks (first_state origin) packets
