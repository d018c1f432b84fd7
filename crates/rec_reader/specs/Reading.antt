-- What a recording's bytes read as: packets, and why a rest is none.
use Rattle.std.specs.Prelude.{ℕ, ◌≡◌, ◌+◌, ◌<◌, ◌≤◌, ◌⊎◌, List, [], ◌∷◌, ◌++◌, length, take, Option}
use Rattle.std.specs.Prelude.{None, Some}
use Rattle.ch11_packet.specs.declared.header.TheConstants.{HEADER_LEN}
use Rattle.ch11_packet.specs.declared.header.HeaderFault.{HeaderFault}
use Rattle.ch11_packet.specs.declared.header.HeaderFault.TheVariants.{Sync as BadSync}
use Rattle.ch11_packet.specs.declared.header.HeaderFault.TheVariants.{Checksum as BadChecksum}
use Rattle.ch11_packet.specs.declared.header.HeaderFault.TheVariants.{Length as BadLength}
use Rattle.ch11_packet.specs.Header.{HeaderData, IsHeader, HeaderHasFault, header_bytes}
use Rattle.ch11_packet.specs.declared.class.ClassFault.{ClassFault}
use Rattle.ch11_packet.specs.declared.class.ClassFault.TheVariants.{DataChecksum as BadSum}
use Rattle.ch11_packet.specs.declared.class.ClassFault.TheVariants.{Body as BadBody}
use Rattle.ch11_packet.specs.Classes.{HasClassFault}
use Rattle.rec_reader.specs.declared.fault.ReadFaultKind.{ReadFaultKind}
use Rattle.rec_reader.specs.declared.fault.ReadFaultKind.TheVariants.{Truncated, Sync, Checksum}
use Rattle.rec_reader.specs.declared.fault.ReadFaultKind.TheVariants.{Length, DataChecksum, Body}
use Rattle.rec_reader.specs.declared.fault.ReadFaultKind.TheVariants.{Device, Memory}
use Rattle.rec_reader.specs.Packets.{PacketData, BeginsPackets}

-- ---- bytes that begin no packet

-- a header stands first, and these bytes follow it
pub record HasHeader (header : HeaderData) (bytes behind : List ℕ) : Type 0 where
  pub is_header : IsHeader header
  pub whole : bytes ≡ header_bytes header ++ behind

-- some bytes, but fewer than a header has; or a header, and fewer bytes than its packet has
abbrev pub IsTruncated : List ℕ → Type 0
IsTruncated bytes =
    ((0 < length bytes) × (length bytes < HEADER_LEN))
    ⊎ ((header : HeaderData) × (behind : List ℕ) × HasHeader header bytes behind
    × (length bytes < header.packet_len))

-- as many bytes as a header has, with this wrong about them
abbrev pub HasHeaderFault : List ℕ → HeaderFault → Type 0
HasHeaderFault bytes fault =
    (HEADER_LEN ≤ length bytes) × HeaderHasFault (take HEADER_LEN bytes) fault

-- a header and its packet's body, with this wrong about them
pub record HasBadPacket (bytes : List ℕ) (fault : ClassFault) : Type 0 where
  pub header : HeaderData
  pub body : List ℕ
  pub more : List ℕ
  pub headed : HasHeader header bytes (body ++ more)
  pub long : HEADER_LEN + length body ≡ header.packet_len
  pub wrong : HasClassFault header body fault

-- why the bytes begin no packet: there are fewer than a header has; else its sync pattern, else its
-- checksum, else its lengths are wrong; else there are fewer bytes than its packet has; else its
-- data checksum is wrong; else its body has a fault. No bytes have a fault of a device or of
-- memory.
abbrev pub HasReadFault : List ℕ → ReadFaultKind → Type 0
HasReadFault bytes Truncated = IsTruncated bytes
HasReadFault bytes Sync = HasHeaderFault bytes BadSync
HasReadFault bytes Checksum = HasHeaderFault bytes BadChecksum
HasReadFault bytes Length = HasHeaderFault bytes BadLength
HasReadFault bytes DataChecksum = HasBadPacket bytes BadSum
HasReadFault bytes Body = HasBadPacket bytes BadBody
HasReadFault bytes Device = ⊥
HasReadFault bytes Memory = ⊥

-- ---- the reading of bytes

-- how a recording ends after whose packets these bytes are left: at its end, or at a fault
abbrev pub EndsReading : (rest : List ℕ) → Option ReadFaultKind → Type 0
EndsReading rest None = rest ≡ []
EndsReading rest (Some kind) = HasReadFault rest kind

-- the bytes are these packets one after the other, and a rest that is empty or has this fault
pub record Reads (bytes : List ℕ) (packets : List PacketData) (fault : Option ReadFaultKind)
    : Type 0 where
  pub rest : List ℕ
  pub held : BeginsPackets 0 packets bytes rest
  pub ends : EndsReading rest fault

-- why a recording isn't read to its end, the place of the packet that isn't read, and the packets
-- before it
pub record ReadFaultData : Type 0 where
  pub kind : ReadFaultKind
  pub at : ℕ
  pub before : List PacketData

-- the bytes begin with these packets and a further one
abbrev pub GoesOn : (bytes : List ℕ) → List PacketData → Type 0
GoesOn bytes packets =
    (next : PacketData) × (rest : List ℕ) × BeginsPackets 0 (packets ++ next ∷ []) bytes rest

-- the bytes read as the first of these packets, and then end or are cut
pub record ReadsAsFront (bytes : List ℕ) (packets : List PacketData) : Type 0 where
  pub some : List PacketData
  pub more : List PacketData
  pub whole : packets ≡ some ++ more
  pub reads : Reads bytes some None ⊎ Reads bytes some (Some Truncated)

-- what a fault of a header is as a fault of the reader
abbrev pub header_kind : HeaderFault → ReadFaultKind
header_kind BadSync = Sync
header_kind BadChecksum = Checksum
header_kind BadLength = Length

-- what a fault of a packet is as a fault of the reader
abbrev pub class_kind : ClassFault → ReadFaultKind
class_kind BadSum = DataChecksum
class_kind BadBody = Body
