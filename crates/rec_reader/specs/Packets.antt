-- The packets of a recording's bytes.
use Rattle.std.specs.Prelude.{ℕ, ◌≡◌, ◌+◌, List, [], ◌∷◌, ◌++◌, length}
use Rattle.ch11_packet.specs.declared.class.What.{What}
use Rattle.ch11_packet.specs.Header.{HeaderData, IsHeader, header_bytes}
use Rattle.ch11_packet.specs.Classes.{Holds}

-- a packet: the place of its first byte, its header, all bytes after the header, and what it holds
pub record PacketData : Type 0 where
  pub at : ℕ
  pub header : HeaderData
  pub body : List ℕ
  pub what : What

-- the packet of these parts
abbrev pub packet_of : (at : ℕ) (header : HeaderData) (body : List ℕ) (what : What) → PacketData
packet_of at header body what =
    record { at = at; header = header; body = body; what = what }

-- the bytes are the packet: its header and, with it, as many bytes as the header says, and they
-- hold what the packet holds
pub record SpellsPacket (packet : PacketData) (spelling : List ℕ) : Type 0 where
  pub is_header : IsHeader packet.header
  pub whole : spelling ≡ header_bytes packet.header ++ packet.body
  pub long : length spelling ≡ packet.header.packet_len
  pub holds : Holds packet.header packet.body packet.what

-- the bytes, of which the first stands at this place, are the packet and more
pub record PacketStandsFirst (at : ℕ) (packet : PacketData) (bytes more : List ℕ) : Type 0 where
  pub place : packet.at ≡ at
  pub spelling : List ℕ
  pub spelled : SpellsPacket packet spelling
  pub whole : bytes ≡ spelling ++ more

-- a packet stands first
abbrev pub HasPacket : (at : ℕ) → List ℕ → Type 0
HasPacket at bytes =
    (packet : PacketData) × (more : List ℕ) × PacketStandsFirst at packet bytes more

-- the packet that stands first was added to those before it, and these bytes are left
abbrev pub Takes : (at : ℕ) → (bytes more : List ℕ) → (before after : List PacketData) → Type 0
Takes at bytes more before after =
    (packet : PacketData) × PacketStandsFirst at packet bytes more × (after ≡ before ++ packet ∷ [])

-- the bytes from this place on are these packets one after the other, and a rest
abbrev pub BeginsPackets : (at : ℕ) → List PacketData → (bytes rest : List ℕ) → Type 0
BeginsPackets at [] bytes rest = bytes ≡ rest
BeginsPackets at (packet ∷ packets) bytes rest =
    (more : List ℕ) × PacketStandsFirst at packet bytes more
    × BeginsPackets (at + packet.header.packet_len) packets more rest

-- some bytes begin with these packets
abbrev pub BeginSomeBytes : List PacketData → Type 0
BeginSomeBytes packets = (bytes : List ℕ) × (rest : List ℕ) × BeginsPackets 0 packets bytes rest

-- the number of bytes of these packets, which is the place of what follows them
abbrev pub packets_len : List PacketData → ℕ
packets_len [] = 0
packets_len (packet ∷ packets) = packet.header.packet_len + packets_len packets
