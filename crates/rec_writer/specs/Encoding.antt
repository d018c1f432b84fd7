-- The bytes of pieces: each is a packet (IRIG 106-17 Chapter 11, in this project's profile).
use Rattle.std.specs.Prelude.{ℕ, ◌%◌, ◌==◌, Bool, List, [], ◌∷◌, ◌++◌, length, count_by}
use Rattle.ch11_packet.specs.declared.header.TheConstants.{ETHERNET_DATA, COMPUTER_GENERATED_DATA}
use Rattle.ch11_packet.specs.Header.{HeaderData, header_of}
use Rattle.ch11_packet.specs.Profiles.{Profile, profile_flags}
use Rattle.ch11_packet.specs.Profiles.Profile.{WithSum}
use Rattle.ch11_packet.specs.PacketLen.{written_len}
use Rattle.ch11_packet.specs.Packet.{packet_bytes}
use Rattle.ch11_packet.specs.Frames.{data_bytes}
use Rattle.ch11_packet.specs.Building.{first_counter}
use Rattle.ch11_packet.specs.Records.{program_bytes, end_bytes}
use Rattle.rec_lane.specs.Pieces.{PieceData}
use Rattle.rec_lane.specs.Pieces.PieceData.{OfProgram, OfFrames, OfEnd}

-- ---- one piece

-- the channel ID of a piece's packet: the channel's own for frames, and 0 for the records
abbrev pub packet_channel : PieceData → ℕ
packet_channel (OfProgram channel counter version first program) = 0
packet_channel (OfFrames channel body) = channel
packet_channel (OfEnd channel counter offered kept) = 0

-- its data type
abbrev pub packet_kind : PieceData → ℕ
packet_kind (OfProgram channel counter version first program) = COMPUTER_GENERATED_DATA
packet_kind (OfFrames channel body) = ETHERNET_DATA
packet_kind (OfEnd channel counter offered kept) = COMPUTER_GENERATED_DATA

-- its relative time counter: that of the first frame for a program and for frames, and of the last
-- one for an end
abbrev pub packet_counter : PieceData → ℕ
packet_counter (OfProgram channel counter version first program) = counter
packet_counter (OfFrames channel body) = first_counter body.frames
packet_counter (OfEnd channel counter offered kept) = counter

-- its body
abbrev pub piece_bytes : PieceData → List ℕ
piece_bytes (OfProgram channel counter version first program) =
    program_bytes channel version first program
piece_bytes (OfFrames channel body) = data_bytes body.net body.speed body.frames
piece_bytes (OfEnd channel counter offered kept) =
    end_bytes (record { channel = channel; offered = offered; kept = kept })

-- its header in a profile, with a data type version and a sequence number
abbrev pub header_in : Profile → PieceData → (version sequence : ℕ) → HeaderData
header_in profile piece version sequence =
    header_of (packet_channel piece) (written_len profile (length (piece_bytes piece)))
    (length (piece_bytes piece)) version sequence (profile_flags profile) (packet_kind piece)
    (packet_counter piece)

-- its packet in a profile
abbrev pub packet_in : Profile → PieceData → (version sequence : ℕ) → List ℕ
packet_in profile piece version sequence =
    packet_bytes profile (header_in profile piece version sequence) (piece_bytes piece)

-- its header and its packet as they are written: in the second profile
abbrev pub piece_header : PieceData → (version sequence : ℕ) → HeaderData
piece_header piece version sequence = header_in WithSum piece version sequence

abbrev pub piece_packet : PieceData → (version sequence : ℕ) → List ℕ
piece_packet piece version sequence = packet_in WithSum piece version sequence

-- ---- pieces in order

-- the piece's packet has this channel ID
abbrev pub has_channel : ℕ → PieceData → Bool
has_channel channel piece = packet_channel piece == channel

-- the sequence number of the next packet with this channel ID after these pieces: how many of them
-- have it, modulo 256
abbrev pub next_sequence : List PieceData → ℕ → ℕ
next_sequence earlier channel = count_by (has_channel channel) earlier % 256

-- the packets of these pieces in a profile, one after the other, after some earlier ones
abbrev pub output_in : Profile → (version : ℕ) → List PieceData → List PieceData → List ℕ
output_in profile version earlier [] = []
output_in profile version earlier (piece ∷ pieces) =
    packet_in profile piece version (next_sequence earlier (packet_channel piece))
    ++ output_in profile version (earlier ++ piece ∷ []) pieces

-- the packets of these pieces as they are written, after some earlier ones
abbrev pub output_after : (version : ℕ) → List PieceData → List PieceData → List ℕ
output_after version earlier pieces = output_in WithSum version earlier pieces

-- what is written of these pieces
abbrev pub writer_output : (version : ℕ) → List PieceData → List ℕ
writer_output version pieces = output_after version [] pieces
