-- The packets of kept frames: each has as many of the frames that are left as fit a limit.
use Rattle.std.specs.Prelude.{ℕ, ◌≡◌, ◌≢◌, ◌+◌, ◌≤◌, nat_le, Bool, List, [], ◌∷◌, ◌++◌, length}
use Rattle.ch11_packet.specs.Frames.{data_len, frame_len}
use Rattle.ch11_packet.specs.PacketLen.{packet_len}
use Rattle.eth_frame.specs.Frame.{FrameData}
use Rattle.rec_lane.specs.Parts.{ended_parts, last_part, parts}

-- the packet of these frames is not longer than the limit
abbrev pub FitsLimit : ℕ → List FrameData → Type 0
FitsLimit limit frames = packet_len (data_len frames) ≤ limit

-- nor is that of these frames and a further one
abbrev pub has_room : ℕ → List FrameData → FrameData → Bool
has_room limit frames f =
    nat_le (packet_len (data_len frames + frame_len (length f.bytes))) limit

-- the packets of these frames
abbrev pub packets : ℕ → List FrameData → List (List FrameData)
packets limit frames = parts (has_room limit) frames

-- the packet is the longest beginning of these frames that fits the limit, and these are left
pub record IsLongestFront (limit : ℕ) (frames packet rest : List FrameData) : Type 0 where
  pub front : frames ≡ packet ++ rest
  pub some : packet ≢ []
  pub fits : FitsLimit limit packet
  pub longest : (other more : List FrameData) →
      frames ≡ other ++ more → FitsLimit limit other → length other ≤ length packet

-- the frames are in these packets, each the longest beginning of what is left
abbrev pub AreLongestFronts : ℕ → List FrameData → List (List FrameData) → Type 0
AreLongestFronts limit frames [] = frames ≡ []
AreLongestFronts limit frames (packet ∷ more) =
    (rest : List FrameData)
    × IsLongestFront limit frames packet rest × AreLongestFronts limit rest more
