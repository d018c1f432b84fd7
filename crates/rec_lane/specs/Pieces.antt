-- The pieces of a channel, in the order in which they are written: for each version that some frame
-- met its program, and then its accepted frames in packets; last the channel's end.
use Rattle.std.specs.Prelude.{ℕ, ◌≡◌, ◌≢◌, ◌==◌, Bool, true, false, List, [], ◌∷◌, ◌++◌, length}
use Rattle.std.specs.Prelude.{map, All, Option, Some, slice_get}
use Rattle.std.specs.List.{flat_map}
use Rattle.bpf_insn.specs.declared.insn.Insn.{Insn}
use Rattle.eth_frame.specs.Frame.{FrameData}
use Rattle.ch11_packet.specs.Building.{EthernetBody, body_of}
use Rattle.rec_channel.specs.History.{Version}
use Rattle.rec_lane.specs.Offered.{OfferedFrame, accepted, frames_of, times_of, AllMet}
use Rattle.rec_lane.specs.Parts.{ended_parts, last_part, parts}
use Rattle.rec_lane.specs.Moments.{moments_of, closed_packets, open_packet, packets_of}

-- what a channel's lane is set to; packets may have a span beside their limit
pub record LaneSettings : Type 0 where
  pub channel : ℕ
  pub net : ℕ
  pub speed : ℕ
  pub limit : ℕ
  pub span : Option ℕ

-- a piece: a program that came into force, with the counter and the number of the first frame that
-- met it; a packet of frames; or the channel's end, with the counter of the last frame and the
-- numbers of frames offered and kept
pub data PieceData : Type 0 where
  OfProgram : (channel counter version first : ℕ) (program : List Insn) → PieceData
  OfFrames : (channel : ℕ) (body : EthernetBody) → PieceData
  OfEnd : (channel counter offered kept : ℕ) → PieceData

-- ---- groups: frames one after the other that met the same version

-- a frame is of a group if its version is that of the group's first frame
abbrev pub has_group_version : List OfferedFrame → OfferedFrame → Bool
has_group_version [] f = true
has_group_version (g ∷ gs) f = g.version == f.version

abbrev pub groups : List OfferedFrame → List (List OfferedFrame)
groups offered = parts has_group_version offered

abbrev pub ended_groups : List OfferedFrame → List (List OfferedFrame)
ended_groups offered = ended_parts has_group_version offered

abbrev pub last_group : List OfferedFrame → List OfferedFrame
last_group offered = last_part has_group_version offered

-- the group is the frames of one version from the first frame on, as far as they go, and these are
-- left
pub record IsFirstGroup (frames group rest : List OfferedFrame) : Type 0 where
  pub front : frames ≡ group ++ rest
  pub some : group ≢ []
  pub version : ℕ
  pub same : All (λ (f : OfferedFrame). f.version ≡ version) group
  pub ended : (f : OfferedFrame) → slice_get rest 0 ≡ Some f → f.version ≢ version

-- the frames are in these groups, each of one version, and neighbours differ in version
abbrev pub AreGroups : List OfferedFrame → List (List OfferedFrame) → Type 0
AreGroups frames [] = frames ≡ []
AreGroups frames (group ∷ more) =
    (rest : List OfferedFrame) × IsFirstGroup frames group rest × AreGroups rest more

-- ---- their pieces

-- the program that the first frame of a group met
abbrev pub program_piece : LaneSettings → List OfferedFrame → List PieceData
program_piece settings [] = []
program_piece settings (f ∷ fs) =
    OfProgram settings.channel f.frame.counter f.version f.number f.program ∷ []

-- a packet of frames
abbrev pub data_piece : LaneSettings → List FrameData → PieceData
data_piece settings frames =
    OfFrames settings.channel (body_of frames settings.net settings.speed settings.limit)

-- the packets of a group's accepted frames: all of them; those that are closed; and the frames of
-- the last one
abbrev pub group_packets : LaneSettings → List OfferedFrame → List (List FrameData)
group_packets settings group = packets_of settings.limit settings.span (moments_of group)

abbrev pub closed_group_packets : LaneSettings → List OfferedFrame → List (List FrameData)
closed_group_packets settings group =
    closed_packets settings.limit settings.span (moments_of group)

abbrev pub open_group_packet : LaneSettings → List OfferedFrame → List FrameData
open_group_packet settings group = open_packet settings.limit settings.span (moments_of group)

-- the pieces of a group: its program, and its accepted frames in packets
abbrev pub group_pieces : LaneSettings → List OfferedFrame → List PieceData
group_pieces settings group =
    program_piece settings group ++ map (data_piece settings) (group_packets settings group)

-- those of a group that may go on: without its last packet
abbrev pub open_group_pieces : LaneSettings → List OfferedFrame → List PieceData
open_group_pieces settings group =
    program_piece settings group
    ++ map (data_piece settings) (closed_group_packets settings group)

-- the counter of the last frame, or 0
abbrev pub last_counter_from : ℕ → List OfferedFrame → ℕ
last_counter_from counter [] = counter
last_counter_from counter (f ∷ fs) = last_counter_from f.frame.counter fs

abbrev pub last_counter : List OfferedFrame → ℕ
last_counter offered = last_counter_from 0 offered

-- the channel's end
abbrev pub end_piece : LaneSettings → List OfferedFrame → PieceData
end_piece settings offered =
    OfEnd settings.channel (last_counter offered) (length offered) (length (accepted offered))

-- ---- those of a channel

-- all pieces of a channel to which these frames were offered
abbrev pub channel_pieces : LaneSettings → List OfferedFrame → List PieceData
channel_pieces settings offered =
    flat_map (group_pieces settings) (groups offered) ++ end_piece settings offered ∷ []

-- those that are certain while more frames may come: without the last group's last packet and the
-- end
abbrev pub pieces_so_far : LaneSettings → List OfferedFrame → List PieceData
pieces_so_far settings offered =
    flat_map (group_pieces settings) (ended_groups offered)
    ++ open_group_pieces settings (last_group offered)

-- ---- of frames, time marks and a history

-- all pieces of a channel with this history, to which these frames were offered, with these time
-- marks after each
abbrev pub ArePieces :
    LaneSettings → List FrameData → List (List ℕ) → List Version → List PieceData → Type 0
ArePieces settings frames times history pieces =
    (offered : List OfferedFrame)
    × AllMet history offered × (frames_of offered ≡ frames)
    × (channel_pieces settings offered ≡ pieces) × (times_of offered ≡ times)

-- those that are certain while more frames may come
abbrev pub ArePiecesSoFar :
    LaneSettings → List FrameData → List (List ℕ) → List Version → List PieceData → Type 0
ArePiecesSoFar settings frames times history pieces =
    (offered : List OfferedFrame)
    × AllMet history offered × (frames_of offered ≡ frames)
    × (pieces_so_far settings offered ≡ pieces) × (times_of offered ≡ times)

-- the frames in a piece
abbrev pub piece_frames : PieceData → List FrameData
piece_frames (OfFrames channel body) = body.frames
piece_frames other = []

-- none of the pieces is a packet of frames
abbrev pub has_no_packet : List PieceData → Bool
has_no_packet [] = true
has_no_packet (OfFrames channel body ∷ pieces) = false
has_no_packet (piece ∷ pieces) = has_no_packet pieces

-- the channel that a piece is of
abbrev pub channel_of : PieceData → ℕ
channel_of (OfProgram channel counter version first program) = channel
channel_of (OfFrames channel body) = channel
channel_of (OfEnd channel counter offered kept) = channel
