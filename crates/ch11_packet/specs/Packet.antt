-- A whole packet (IRIG 106-17 Chapter 11): its header, its body, its trailing filler, and its data
-- checksum.
use Rattle.std.specs.Prelude.{ℕ, ◌+◌, ◌-◌, List, ◌++◌, length, replicate}
use Rattle.std.specs.Int.{w32, to_le_bytes}
use Rattle.ch11_packet.specs.declared.header.TheConstants.{HEADER_LEN}
use Rattle.ch11_packet.specs.Sums.{body_sum}
use Rattle.ch11_packet.specs.Header.{HeaderData, header_bytes}
use Rattle.ch11_packet.specs.Profiles.{Profile}
use Rattle.ch11_packet.specs.Profiles.Profile.{WithoutSum, WithSum}
use Rattle.ch11_packet.specs.PacketLen.{packet_len}

-- the filler after a body of `data_len` bytes: the fewest zero bytes that make the packet's length
-- a multiple of 4
abbrev pub packet_filler : ℕ → List ℕ
packet_filler data_len = replicate (packet_len data_len - (HEADER_LEN + data_len)) 0

-- what stands behind a body: its filler, and in the second profile the sum of the body
abbrev pub packet_trailer : Profile → List ℕ → List ℕ
packet_trailer WithoutSum body = packet_filler (length body)
packet_trailer WithSum body = packet_filler (length body) ++ to_le_bytes w32 (body_sum body)

-- the packet with this header and this body
abbrev pub packet_bytes : Profile → HeaderData → List ℕ → List ℕ
packet_bytes profile header body =
    header_bytes header ++ (body ++ packet_trailer profile body)
