-- The packets of a whole Chapter 11 file, and their bytes (IRIG 106-17 Chapter 11: packet header,
-- packet trailer, computer-generated data, time data, Ethernet data).
use Rattle.std.specs.Prelude.{ℕ, ◌==◌, Bool, List, [], ◌∷◌, ◌++◌, length, count_by}
use Rattle.std.specs.Int.{w32, to_le_bytes}
use Rattle.std.specs.List.{flat_map}
use Rattle.ch11_packet.specs.Header.{HeaderData, header_of}
use Rattle.ch11_packet.specs.PacketLen.{written_len}
use Rattle.ch11_packet.specs.Packet.{packet_bytes}
use Rattle.ch11_packet.specs.Profiles.{profile_flags}
use Rattle.ch11_packet.specs.Profiles.Profile.{WithSum}
use Rattle.ch11_clock.specs.declared.civil.CivilTime.{CivilTime}
use Rattle.ch11_clock.specs.TimeBody.{time_bytes}
use Rattle.ch11_index.specs.declared.entry.NodeEntry.{NodeEntry}
use Rattle.ch11_index.specs.declared.entry.RootEntry.{RootEntry}
use Rattle.ch11_index.specs.declared.index.FilePacket.{FilePacket}
use Rattle.ch11_index.specs.IndexBytes.{node_bytes, root_bytes}
use Rattle.ch11_index.specs.FileIndex.{FileItem}
use Rattle.ch11_index.specs.FileIndex.FileItem.{OfPacket, OfNode, OfRoot}
use Rattle.ch11_merge.specs.Merging.{FilePiece, Merged}
use Rattle.ch11_merge.specs.Merging.FilePiece.{OfFrames, OfRecord}
use Rattle.ch11_merge.specs.Merging.Merged.{OfTime, OfPiece}
use Rattle.ch11_file.specs.declared.kind.BlockKind.{BlockKind}
use Rattle.ch11_file.specs.declared.kind.BlockKind.TheVariants.{Setup, Time, Frames, Record, Index}
use Rattle.ch11_file.specs.CopiedFrames.{frames_body}

-- ---- what they hold

-- the setup record's text, a date and a time of day, a piece of a channel, a node of the index, or
-- a root
pub data BlockContent : Type 0 where
  SetupBlock : (text : List ℕ) → BlockContent
  TimeBlock : (is_external : Bool) → CivilTime → BlockContent
  PieceBlock : (channel : ℕ) → FilePiece → BlockContent
  NodeBlock : List NodeEntry → BlockContent
  RootBlock : (nodes : List RootEntry) → (last : RootEntry) → BlockContent

-- a packet of the file: the channel ID, the sequence number and the counter of its header, and what
-- it holds
pub record FileBlock : Type 0 where
  pub channel : ℕ
  pub sequence : ℕ
  pub counter : ℕ
  pub content : BlockContent

-- ---- their bytes

abbrev pub kind_of : BlockContent → BlockKind
kind_of (SetupBlock text) = Setup
kind_of (TimeBlock is_external time) = Time
kind_of (PieceBlock channel (OfFrames place frames)) = Frames
kind_of (PieceBlock channel (OfRecord place counter body)) = Record
kind_of (NodeBlock entries) = Index
kind_of (RootBlock nodes last) = Index

-- the data type of a kind: computer-generated data of formats 1, 0 and 3, time data of format 1,
-- and Ethernet data of format 0
abbrev pub data_type : BlockKind → ℕ
data_type Setup = 1
data_type Time = 17
data_type Frames = 104
data_type Record = 0
data_type Index = 3

-- the body: a setup record begins with a word that says its edition, RCC 106-17, and its form,
-- ASCII
abbrev pub block_body : BlockContent → List ℕ
block_body (SetupBlock text) = to_le_bytes w32 12 ++ text
block_body (TimeBlock is_external time) = time_bytes is_external time
block_body (PieceBlock channel (OfFrames place frames)) = frames_body frames
block_body (PieceBlock channel (OfRecord place counter body)) = body
block_body (NodeBlock entries) = node_bytes entries
block_body (RootBlock nodes last) = root_bytes nodes last

-- the header of a packet with this body, of the data type version of RCC 106-17
abbrev pub head_with : (channel sequence counter : ℕ) → BlockKind → (body : List ℕ) → HeaderData
head_with channel sequence counter kind body =
    header_of channel (written_len WithSum (length body)) (length body) 8 sequence
    (profile_flags WithSum) (data_type kind) counter

unfoldable pub block_header : FileBlock → HeaderData
block_header b = head_with b.channel b.sequence b.counter (kind_of b.content) (block_body b.content)

-- the whole packet
unfoldable pub block_packet : FileBlock → List ℕ
block_packet b = packet_bytes WithSum (block_header b) (block_body b.content)

-- its length in bytes
unfoldable pub block_len : FileBlock → ℕ
block_len b = written_len WithSum (length (block_body b.content))

-- the bytes of packets, one after the other
abbrev pub file_bytes : List FileBlock → List ℕ
file_bytes blocks = flat_map block_packet blocks

-- ---- how many there are

-- how many packets have this channel ID
abbrev pub blocks_on : (channel : ℕ) → List FileBlock → ℕ
blocks_on channel blocks = count_by (λ (b : FileBlock). b.channel == channel) blocks

-- how many have this data type
abbrev pub blocks_of : (data_type : ℕ) → List FileBlock → ℕ
blocks_of type blocks = count_by (λ (b : FileBlock). data_type (kind_of b.content) == type) blocks

-- ---- as the index and the merge see them

-- what an index names of a packet
abbrev pub named_of : FileBlock → FilePacket
named_of b = record {
  counter = b.counter;
  channel = b.channel;
  kind = data_type (kind_of b.content);
  len = block_len b;
}

abbrev pub item_with : BlockContent → FileBlock → FileItem
item_with (SetupBlock text) b = OfPacket (named_of b)
item_with (TimeBlock is_external time) b = OfPacket (named_of b)
item_with (PieceBlock channel piece) b = OfPacket (named_of b)
item_with (NodeBlock entries) b = OfNode (block_len b) entries
item_with (RootBlock nodes last) b = OfRoot (block_len b) nodes last

-- a packet that the index names, a node, or a root
abbrev pub item_of : FileBlock → FileItem
item_of b = item_with b.content b

abbrev pub merged_with : BlockContent → (counter : ℕ) → List Merged → List Merged
merged_with (SetupBlock text) counter rest = rest
merged_with (TimeBlock is_external time) counter rest = OfTime counter ∷ rest
merged_with (PieceBlock channel piece) counter rest = OfPiece channel piece ∷ rest
merged_with (NodeBlock entries) counter rest = rest
merged_with (RootBlock nodes last) counter rest = rest

-- the time packets and the pieces of a file, in order
abbrev pub merged_in : List FileBlock → List Merged
merged_in [] = []
merged_in (b ∷ blocks) = merged_with b.content b.counter (merged_in blocks)
