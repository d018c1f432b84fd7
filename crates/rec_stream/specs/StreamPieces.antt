-- The pieces of a recording's packets, as a stream takes them.
use Rattle.std.specs.Prelude.{ℕ, ◌≢◌, Bool, true, false, max, if◌then◌else◌, List, [], map, Option}
use Rattle.std.specs.Prelude.{None, Some}
use Rattle.std.specs.List.{AllByRecursion}
use Rattle.ch11_packet.specs.declared.class.What.{What}
use Rattle.ch11_packet.specs.declared.class.What.TheVariants.{Frames, Program, End, Other}
use Rattle.ch11_packet.specs.Classes.{data_in}
use Rattle.ch11_merge.specs.declared.source.Head.{Head}
use Rattle.ch11_merge.specs.Merging.{FilePiece, head_of_piece}
use Rattle.ch11_file.specs.WholeFile.{counter_at}
use Rattle.rec_reader.specs.Packets.{PacketData}
use Rattle.rec_pieces.specs.declared.entry.PieceKind.{PieceKind}
use Rattle.rec_pieces.specs.Entries.{packet_names, pieces_of}

-- a piece: the channel that its packet names, and whether that is the end of the channel
pub record StreamPiece : Type 0 where
  pub channel : ℕ
  pub is_end : Bool
  pub piece : FilePiece

abbrev pub stream_piece : (channel : ℕ) (is_end : Bool) → FilePiece → StreamPiece
stream_piece channel is_end piece = record { channel = channel; is_end = is_end; piece = piece }

-- pieces of the packet of another piece
abbrev pub pieces_on : StreamPiece → List FilePiece → List StreamPiece
pieces_on piece pieces = map (stream_piece piece.channel piece.is_end) pieces

-- whether a packet that holds this is the end of a channel
abbrev pub is_end : What → Bool
is_end (Frames count) = false
is_end (Program channel version first count) = false
is_end (End channel offered kept) = true
is_end Other = false

-- the pieces of a packet that names this, in order: none of a packet of another kind
abbrev pub pieces_naming : Option (ℕ × PieceKind) → (is_end : Bool) → (place counter : ℕ) → List ℕ
    → List StreamPiece
pieces_naming None is_end place counter bytes = []
pieces_naming (Some (channel, kind)) is_end place counter bytes =
    map (stream_piece channel is_end) (pieces_of kind place counter bytes)

abbrev pub stream_pieces : PacketData → List StreamPiece
stream_pieces packet =
    pieces_naming (packet_names packet) (is_end packet.what) packet.at packet.header.counter
    (data_in packet.header packet.body)

-- the counter of the packet of a piece that stands here: that of an end is the greatest of a header
-- that went out, where its own is less or it has none
abbrev pub head_counter : (greatest : ℕ) → (is_end : Bool) → Head → ℕ
head_counter greatest is_end head =
    if is_end then max greatest (counter_at greatest head) else counter_at greatest head

abbrev pub stream_counter : (greatest : ℕ) → StreamPiece → ℕ
stream_counter greatest piece = head_counter greatest piece.is_end (head_of_piece piece.piece)

-- a piece is of another channel
abbrev pub IsOfAnother : (channel : ℕ) → StreamPiece → Type 0
IsOfAnother channel piece = piece.channel ≢ channel

-- none of these ends is of a channel of these pieces
abbrev pub AreNewEnds : (ends pieces : List StreamPiece) → Type 0
AreNewEnds ends pieces =
    AllByRecursion (λ (piece : StreamPiece). AllByRecursion (IsOfAnother piece.channel) ends) pieces
