-- The upgrade of a recording: its old packets, which have no data checksum, are given one, and each
-- other packet stays as it is.
use Rattle.std.specs.Prelude.{ℕ, ◌≡◌, ◌+◌, ◌<◌, ◌&&◌, nat_le, not, Bool, if◌then◌else◌, List, []}
use Rattle.std.specs.Prelude.{◌∷◌, ◌++◌, map, length, take, count_by, Option}
use Rattle.std.specs.List.{flat_map}
use Rattle.std.specs.Io.KnownBytes.{Appends}
use Rattle.ch11_packet.specs.declared.header.TheConstants.{MAX_ETHERNET_PACKET_LEN}
use Rattle.ch11_packet.specs.Flags.{has_bit}
use Rattle.ch11_packet.specs.Header.{HeaderData, header_bytes}
use Rattle.ch11_packet.specs.Profiles.{profile_flags}
use Rattle.ch11_packet.specs.Profiles.Profile.{WithSum}
use Rattle.ch11_packet.specs.PacketLen.{written_len}
use Rattle.ch11_packet.specs.Packet.{packet_trailer}
use Rattle.ch11_packet.specs.Outputs.{AppendsPart}
use Rattle.ch11_packet.specs.Classes.{data_in}
use Rattle.rec_reader.specs.declared.upgrades.Upgraded.{Upgraded}
use Rattle.rec_reader.specs.declared.upgrades.UpgradeFault.{UpgradeFault}
use Rattle.rec_reader.specs.declared.upgrades.UpgradeFault.TheVariants.{Output}
use Rattle.rec_reader.specs.Packets.{PacketData, packet_of}
use Rattle.rec_reader.specs.Channels.{capped}
use Rattle.rec_reader.specs.Audits.{is_other}

-- ---- one packet

-- whether a packet is old: it holds frames, a program or an end; bits 1 and 0 of its flags are 0,
-- so it has no data checksum; and with one it isn't longer than the longest packet of Ethernet data
abbrev pub is_old : PacketData → Bool
is_old packet =
    not (is_other packet.what)
    && (not (has_bit packet.header.flags 1) && not (has_bit packet.header.flags 0))
    && nat_le (written_len WithSum packet.header.data_len) MAX_ETHERNET_PACKET_LEN

-- the header of an old packet with a data checksum: bits 1 and 0 of the flags, which were 0, are
-- set, and the packet length is that with the fewest bytes of filler; all else stays
abbrev pub checked_header : HeaderData → HeaderData
checked_header header =
    record header {
      packet_len = written_len WithSum header.data_len;
      flags = header.flags + profile_flags WithSum;
    }

-- an old packet with a data checksum: behind the data stand the fewest zero bytes that make whole
-- words, and the sum
abbrev pub with_checksum : PacketData → PacketData
with_checksum packet =
    let own = data_in packet.header packet.body in
    packet_of packet.at (checked_header packet.header) (own ++ packet_trailer WithSum own)
    packet.what

-- what a packet is in an upgrade, but for its place
abbrev pub upgraded : PacketData → PacketData
upgraded packet = if is_old packet then with_checksum packet else packet

-- ---- all packets

-- the packets one after the other, from this place on
abbrev pub placed_from : (at : ℕ) → List PacketData → List PacketData
placed_from at [] = []
placed_from at (packet ∷ packets) =
    record packet { at = at } ∷ placed_from (at + packet.header.packet_len) packets

-- the upgrade of packets: each of them, in order, as it is in an upgrade
abbrev pub upgrade : List PacketData → List PacketData
upgrade packets = placed_from 0 (map upgraded packets)

-- the bytes of a packet
abbrev pub spelling_of : PacketData → List ℕ
spelling_of packet = header_bytes packet.header ++ packet.body

-- the bytes of packets, whatever their places are
abbrev pub spellings : List PacketData → List ℕ
spellings packets = flat_map spelling_of packets

-- the bytes of the upgrade of packets
abbrev pub upgrade_bytes : List PacketData → List ℕ
upgrade_bytes packets = spellings (map upgraded packets)

-- ---- counts

-- whether a packet stays as it is
abbrev pub is_copied : PacketData → Bool
is_copied packet = not (is_old packet)

-- the numbers of the packets that were given a data checksum, and of the others
pub record CountsUpgraded (packets : List PacketData) (counts : Upgraded) : Type 0 where
  pub packets_are : counts.packets ≡ count_by is_old packets
  pub copied_are : counts.copied ≡ count_by is_copied packets

-- the counts with a packet more; at 2^64 - 1 they stay
abbrev pub counted_with : Upgraded → PacketData → Upgraded
counted_with counts packet =
    if is_old packet
    then record { packets = capped (counts.packets + 1); copied = counts.copied }
    else record { packets = counts.packets; copied = capped (counts.copied + 1) }

-- ---- an output that failed

-- the output failed at this packet, after those that are counted: it took the first bytes of what
-- the packet is in an upgrade, and not all
abbrev pub FailsAtPacket :
    PacketData → Upgraded → Option (List ℕ) → Option (List ℕ) → UpgradeFault → Type 0
FailsAtPacket packet counts old new (Output whole bytes) =
    (whole ≡ capped (counts.packets + counts.copied))
    × AppendsPart old new (spelling_of (upgraded packet)) bytes

-- the output took the first `whole` of the packets as they are in an upgrade, and of the next one
-- the first `bytes` bytes, and not all
pub record TakesFront
    (packets : List PacketData) (old new : Option (List ℕ)) (whole bytes : ℕ) : Type 0 where
  pub before : List PacketData
  pub packet : PacketData
  pub after : List PacketData
  pub all : packets ≡ before ++ packet ∷ after
  pub whole_is : whole ≡ length before
  pub fewer : bytes < length (spelling_of (upgraded packet))
  pub taken : Appends old new
      (upgrade_bytes before ++ take bytes (spelling_of (upgraded packet)))

-- the output failed within the packets
abbrev pub FailsIn :
    List PacketData → Option (List ℕ) → Option (List ℕ) → UpgradeFault → Type 0
FailsIn packets old new (Output whole bytes) = TakesFront packets old new whole bytes
