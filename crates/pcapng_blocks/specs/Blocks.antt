-- The blocks of a pcapng file, and their bytes, with the lowest byte of each number first.
use Rattle.std.specs.Prelude.{ℕ, ◌+◌, ◌-◌, ◌/◌, ◌%◌, ◌<◌, ◌^◌, List, [], ◌∷◌, ◌++◌, length}
use Rattle.std.specs.List.{flat_map}
use Rattle.std.specs.Int.{w16, w32, w64, to_le_bytes}
use Rattle.pcapng_blocks.specs.Bytes.{padding}
use Rattle.pcapng_blocks.specs.Options.{OptionData, AreOptions, options_bytes}
use Rattle.pcapng_blocks.specs.declared.block.TheConstants.{SECTION_HEADER, INTERFACE_DESCRIPTION}
use Rattle.pcapng_blocks.specs.declared.block.TheConstants.{ENHANCED_PACKET}
use Rattle.pcapng_blocks.specs.declared.block.TheConstants.{BYTE_ORDER_MAGIC, MAJOR_VERSION}
use Rattle.pcapng_blocks.specs.declared.block.TheConstants.{MINOR_VERSION}

-- an interface: the link type of its packets, the greatest number of bytes that is captured of one
-- (0: no limit), and its options
pub record InterfaceData : Type 0 where
  pub link_type : ℕ
  pub snap_len : ℕ
  pub options : List OptionData

-- a packet: the number of its interface in the section, its time in the interface's units, its
-- bytes, all of which are captured, and its options
pub record CapturedData : Type 0 where
  pub interface : ℕ
  pub time : ℕ
  pub bytes : List ℕ
  pub options : List OptionData

-- a block: a section header without options, whose section has a length that isn't said; an
-- interface description; an enhanced packet
pub data BlockData : Type 0 where
  OfSection : BlockData
  OfInterface : InterfaceData → BlockData
  OfPacket : CapturedData → BlockData

-- ---- bytes

-- a block of this type: its type, its total length, its body, and its total length again
abbrev pub framed : (kind : ℕ) (body : List ℕ) → List ℕ
framed kind body =
    to_le_bytes w32 kind ++ to_le_bytes w32 (length body + 12)
    ++ (body ++ to_le_bytes w32 (length body + 12))

-- the body of a section header: the byte-order magic, the version of the format, and -1 for a
-- length that isn't said
abbrev pub section_body : List ℕ
section_body =
    to_le_bytes w32 BYTE_ORDER_MAGIC ++ to_le_bytes w16 MAJOR_VERSION
    ++ (to_le_bytes w16 MINOR_VERSION ++ to_le_bytes w64 (2 ^ 64 - 1))

-- the body of an interface description: the link type, two bytes of 0, the snapshot length, and the
-- options
abbrev pub interface_body : InterfaceData → List ℕ
interface_body interface =
    to_le_bytes w16 interface.link_type ++ to_le_bytes w16 0
    ++ (to_le_bytes w32 interface.snap_len ++ options_bytes interface.options)

-- the body of an enhanced packet: the interface, the high and the low half of the time, the
-- captured and the original length, the bytes, padding, and the options
abbrev pub packet_body : CapturedData → List ℕ
packet_body packet =
    to_le_bytes w32 packet.interface ++ to_le_bytes w32 (packet.time / 2 ^ 32)
    ++ (to_le_bytes w32 (packet.time % 2 ^ 32) ++ (to_le_bytes w32 (length packet.bytes)
    ++ (to_le_bytes w32 (length packet.bytes)
    ++ (packet.bytes ++ (padding (length packet.bytes) ++ options_bytes packet.options)))))

-- the bytes of a block
abbrev pub block_bytes : BlockData → List ℕ
block_bytes OfSection = framed SECTION_HEADER section_body
block_bytes (OfInterface interface) = framed INTERFACE_DESCRIPTION (interface_body interface)
block_bytes (OfPacket packet) = framed ENHANCED_PACKET (packet_body packet)

-- the bytes of blocks, one after the other
abbrev pub blocks_bytes : List BlockData → List ℕ
blocks_bytes blocks = flat_map block_bytes blocks

-- ---- ranges

-- each field is a number of its width, and so is the total length
abbrev pub IsBlock : BlockData → Type 0
IsBlock OfSection = Unit {0}
IsBlock (OfInterface interface) =
    (interface.link_type < 2 ^ 16) × (interface.snap_len < 2 ^ 32)
    × AreOptions interface.options × (length (interface_body interface) + 12 < 2 ^ 32)
IsBlock (OfPacket packet) =
    (packet.interface < 2 ^ 32) × (packet.time < 2 ^ 64)
    × AreOptions packet.options × (length (packet_body packet) + 12 < 2 ^ 32)

-- each of the blocks is one
abbrev pub AreBlocks : List BlockData → Type 0
AreBlocks [] = Unit {0}
AreBlocks (block ∷ blocks) = IsBlock block × AreBlocks blocks
