-- The header of a packet, its 24 bytes, and what is wrong with 24 bytes that are no header (IRIG
-- 106-17 Chapter 11, packet header).
use Rattle.std.specs.Prelude.{ℕ, ◌^◌, ◌%◌, List, [], ◌∷◌, sum, ◌≡◌, ◌+◌, ◌<◌, ◌≤◌, ◌++◌, take}
use Rattle.std.specs.Prelude.{slice_index}
use Rattle.std.specs.Int.{w16, from_le_bytes, w32, to_le_bytes, bytes_low_first}
use Rattle.ch11_packet.specs.declared.header.TheConstants.{SYNC_PATTERN, HEADER_LEN, ETHERNET_DATA}
use Rattle.ch11_packet.specs.declared.header.TheConstants.{MAX_ETHERNET_PACKET_LEN, CHECKED_LEN}
use Rattle.ch11_packet.specs.declared.header.HeaderFault.{HeaderFault}
use Rattle.ch11_packet.specs.declared.header.HeaderFault.TheVariants.{Sync, Checksum, Length}
use Rattle.ch11_packet.specs.declared.sum.TheConstants.{CHECKSUM_LEN}
use Rattle.eth_frame.specs.Bytes.{u16_at, u32_at, u48_at}
use Rattle.ch11_packet.specs.Flags.{HasChecksum}

-- ---- the header's checksum

-- the words of these bytes: the numbers of each two of them, the lowest byte first
abbrev pub words : List ℕ → List ℕ
words (low ∷ high ∷ rest) = from_le_bytes w16 (low ∷ high ∷ []) ∷ words rest
words rest = []

-- the sum of the words of these bytes, modulo 2^16
abbrev pub header_sum : List ℕ → ℕ
header_sum bytes = sum (words bytes) % 2 ^ 16

-- ---- the fields and their bytes

-- what a header says beside its sync pattern and its checksum: the channel ID, the packet length,
-- the data length, the data type version, the sequence number, the packet flags, the data type and
-- the relative time counter
pub record HeaderData : Type 0 where
  pub channel : ℕ
  pub packet_len : ℕ
  pub data_len : ℕ
  pub version : ℕ
  pub sequence : ℕ
  pub flags : ℕ
  pub kind : ℕ
  pub counter : ℕ

-- the header of these fields
abbrev pub header_of : (channel packet_len data_len version sequence flags kind counter : ℕ)
    → HeaderData
header_of channel packet_len data_len version sequence flags kind counter = record {
  channel = channel;
  packet_len = packet_len;
  data_len = data_len;
  version = version;
  sequence = sequence;
  flags = flags;
  kind = kind;
  counter = counter;
}

-- the packet holds its header, its data and, where the flags report one, its data checksum of 32
-- bits, its length is a multiple of 4, and a packet of Ethernet data isn't over the greatest length
pub record LengthsFit (flags kind packet_len data_len : ℕ) : Type 0 where
  pub holds : HEADER_LEN + data_len ≤ packet_len
  pub checked : HasChecksum flags → HEADER_LEN + data_len + CHECKSUM_LEN ≤ packet_len
  pub aligned : packet_len % 4 ≡ 0
  pub most : kind ≡ ETHERNET_DATA → packet_len ≤ MAX_ETHERNET_PACKET_LEN

-- each field is a number of its width, and the lengths fit
pub record IsHeader (header : HeaderData) : Type 0 where
  pub channel : header.channel < 2 ^ 16
  pub packet_len : header.packet_len < 2 ^ 32
  pub version : header.version < 2 ^ 8
  pub sequence : header.sequence < 2 ^ 8
  pub flags : header.flags < 2 ^ 8
  pub kind : header.kind < 2 ^ 8
  pub counter : header.counter < 2 ^ 48
  pub lengths : LengthsFit header.flags header.kind header.packet_len header.data_len

-- the 22 bytes before the checksum: the sync pattern and the fields, in order, the lowest byte of
-- each number first
abbrev pub checked_bytes : HeaderData → List ℕ
checked_bytes header =
    to_le_bytes w16 SYNC_PATTERN ++ to_le_bytes w16 header.channel
    ++ to_le_bytes w32 header.packet_len ++ to_le_bytes w32 header.data_len
    ++ (header.version ∷ header.sequence ∷ header.flags ∷ header.kind
    ∷ bytes_low_first 0 6 header.counter)

-- the header's 24 bytes, the checksum last
unfoldable pub header_bytes : HeaderData → List ℕ
header_bytes header =
    checked_bytes header ++ to_le_bytes w16 (header_sum (checked_bytes header))

-- ---- what 24 bytes say

-- the fields that 24 bytes say, whatever their sync pattern and checksum are
abbrev pub header_at : List ℕ → HeaderData
header_at bytes =
    header_of (u16_at bytes 2) (u32_at bytes 4) (u32_at bytes 8) (slice_index bytes 12)
    (slice_index bytes 13) (slice_index bytes 14) (slice_index bytes 15) (u48_at bytes 16)

-- the first two bytes are the sync pattern
abbrev pub HasSync : List ℕ → Type 0
HasSync bytes = u16_at bytes 0 ≡ SYNC_PATTERN

-- the last two bytes are the sum of the words before them
abbrev pub HasHeaderSum : List ℕ → Type 0
HasHeaderSum bytes = u16_at bytes CHECKED_LEN ≡ header_sum (take CHECKED_LEN bytes)

-- the packet's length and the data's length fit each other, the flags and the data type
abbrev pub HasLengths : List ℕ → Type 0
HasLengths bytes =
    let header = header_at bytes in
    LengthsFit header.flags header.kind header.packet_len header.data_len

-- what is wrong with 24 bytes: the sync pattern, else the checksum, else the lengths
abbrev pub HeaderHasFault : List ℕ → HeaderFault → Type 0
HeaderHasFault bytes Sync = ¬ HasSync bytes
HeaderHasFault bytes Checksum = HasSync bytes × ¬ HasHeaderSum bytes
HeaderHasFault bytes Length = HasSync bytes × HasHeaderSum bytes × ¬ HasLengths bytes
