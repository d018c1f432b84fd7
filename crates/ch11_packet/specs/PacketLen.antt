-- How long a packet is (IRIG 106-17 Chapter 11: packet length, data length, filler, data checksum).
use Rattle.std.specs.Prelude.{ℕ, ◌+◌}
use Rattle.std.specs.Int.{next_multiple_of}
use Rattle.ch11_packet.specs.declared.header.TheConstants.{HEADER_LEN}
use Rattle.ch11_packet.specs.declared.sum.TheConstants.{CHECKSUM_LEN}
use Rattle.ch11_packet.specs.Profiles.{Profile}
use Rattle.ch11_packet.specs.Profiles.Profile.{WithoutSum, WithSum}

-- the length of a packet with `data_len` bytes of data, without its data checksum: with its header,
-- and with the least filler that makes a multiple of 4. A limit counts this
abbrev pub packet_len : ℕ → ℕ
packet_len data_len = next_multiple_of (HEADER_LEN + data_len) 4

-- the length of the packet as it is written: in the second profile with its data checksum
abbrev pub written_len : Profile → ℕ → ℕ
written_len WithoutSum data_len = packet_len data_len
written_len WithSum data_len = packet_len data_len + CHECKSUM_LEN
