-- The pieces of a packet, by the packet and by its place in the recording's bytes.
use Rattle.std.specs.Prelude.{ℕ, ◌≡◌, ◌==◌, if◌then◌else◌, List, [], ◌∷◌, drop, Option, None, Some}
use Rattle.std.specs.List.{AllByRecursion, flat_map}
use Rattle.ch11_packet.specs.declared.header.TheConstants.{HEADER_LEN}
use Rattle.ch11_packet.specs.declared.class.What.{What}
use Rattle.ch11_packet.specs.declared.class.What.TheVariants.{Frames as HoldsFrames, Program, End}
use Rattle.ch11_packet.specs.declared.class.What.TheVariants.{Other}
use Rattle.ch11_packet.specs.Header.{HeaderData, header_at}
use Rattle.ch11_packet.specs.Classes.{data_in, said_frames}
use Rattle.ch11_merge.specs.Merging.{FilePiece}
use Rattle.ch11_merge.specs.Merging.FilePiece.{OfRecord}
use Rattle.ch11_merge.specs.Parts.{frames_pieces}
use Rattle.rec_reader.specs.Packets.{PacketData}
use Rattle.rec_pieces.specs.declared.entry.PieceKind.{PieceKind}
use Rattle.rec_pieces.specs.declared.entry.PieceKind.TheVariants.{Frames, Record, Uncounted}
use Rattle.rec_pieces.specs.declared.entry.PieceEntry.{PieceEntry}

-- the pieces of data of this kind, in a packet at this place with this counter
abbrev pub pieces_of : PieceKind → (place counter : ℕ) → List ℕ → List FilePiece
pieces_of Frames place counter bytes = frames_pieces place (said_frames bytes)
pieces_of Record place counter bytes = OfRecord place (Some counter) bytes ∷ []
pieces_of Uncounted place counter bytes = OfRecord place None bytes ∷ []

-- ---- by the packet

-- the channel that a packet of this channel names which holds this, and what it is in a whole file:
-- nothing if it is of any other kind, also frames of channel 0
abbrev pub named_by : (channel : ℕ) → What → Option (ℕ × PieceKind)
named_by channel (HoldsFrames count) = if channel == 0 then None else Some (channel, Frames)
named_by channel (Program named version first count) = Some (named, Record)
named_by channel (End named offered kept) =
    Some (named, if offered == 0 then Uncounted else Record)
named_by channel Other = None

abbrev pub packet_names : PacketData → Option (ℕ × PieceKind)
packet_names packet = named_by packet.header.channel packet.what

-- the pieces that a packet has of a channel
abbrev pub pieces_named : (channel : ℕ) → Option (ℕ × PieceKind) → (place counter : ℕ) → List ℕ
    → List FilePiece
pieces_named channel None place counter bytes = []
pieces_named channel (Some (named, kind)) place counter bytes =
    if named == channel then pieces_of kind place counter bytes else []

abbrev pub pieces_of_packet : (channel : ℕ) → PacketData → List FilePiece
pieces_of_packet channel packet =
    pieces_named channel (packet_names packet) packet.at packet.header.counter
    (data_in packet.header packet.body)

-- the pieces of a channel, in the order of the recording
abbrev pub pieces_of_channel : (channel : ℕ) → List PacketData → List FilePiece
pieces_of_channel channel packets = flat_map (pieces_of_packet channel) packets

-- ---- by its place

-- the header and the data of the packet at this place of these bytes
abbrev pub header_from : List ℕ → (at : ℕ) → HeaderData
header_from bytes at = header_at (drop at bytes)

abbrev pub data_from : List ℕ → (at : ℕ) → List ℕ
data_from bytes at = data_in (header_from bytes at) (drop HEADER_LEN (drop at bytes))

-- what is read at a place: a packet's header and its data
pub record PacketThere : Type 0 where
  pub header : HeaderData
  pub held : List ℕ

-- what is read at each place, and that of these bytes
abbrev pub PacketPlaces : Type 0
PacketPlaces = (at : ℕ) → PacketThere

abbrev pub places_of : List ℕ → PacketPlaces
places_of bytes at = record { header = header_from bytes at; held = data_from bytes at }

-- the packet is read there, and each of these packets is read at its place
pub record IsThere (there : PacketThere) (packet : PacketData) : Type 0 where
  pub header : there.header ≡ packet.header
  pub held : there.held ≡ data_in packet.header packet.body

abbrev pub AreThere : PacketPlaces → List PacketData → Type 0
AreThere places packets = AllByRecursion (λ (p : PacketData). IsThere (places p.at) p) packets

-- the pieces of the packet that an entry names
abbrev pub pieces_at : PacketPlaces → PieceEntry → List FilePiece
pieces_at places entry =
    pieces_of entry.kind entry.at (places entry.at).header.counter (places entry.at).held
