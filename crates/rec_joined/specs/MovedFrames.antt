-- The frames of a body with other counters.
use Rattle.std.specs.Prelude.{ℕ, zero, suc, ◌<◌, ◌^◌, List, ◌++◌, take, drop}
use Rattle.std.specs.Int.{bytes_low_first}
use Rattle.std.specs.List.{AllByRecursion}
use Rattle.eth_frame.specs.Bytes.{u32_at, u48_at}
use Rattle.ch11_packet.specs.Frames.{frame_len}
use Rattle.ch11_packet.specs.FramesRead.{ReadFrameData, length_in, read_frame_of}

-- the frame with the counter that its own becomes
abbrev pub moved_frame : (counters : ℕ → ℕ) → ReadFrameData → ReadFrameData
moved_frame counters frame =
    read_frame_of (counters frame.counter) frame.crc_error frame.frame_error frame.net frame.speed
    frame.content frame.bytes

-- how many bytes the first frame of some has, with its header and its filler
abbrev pub first_len : List ℕ → ℕ
first_len bytes = frame_len (length_in (u32_at bytes 8))

-- the bytes of so many frames with the counters that theirs become, and else as they were
unfoldable pub moved_bytes : (counters : ℕ → ℕ) → (count : ℕ) → List ℕ → List ℕ
moved_bytes counters zero bytes = bytes
moved_bytes counters (suc count) bytes =
    bytes_low_first 0 6 (counters (u48_at bytes 0))
    ++ (drop 6 (take (first_len bytes) bytes)
    ++ moved_bytes counters count (drop (first_len bytes) bytes))

-- the counters that those of frames become have 48 bits
abbrev pub HaveCounters : (counters : ℕ → ℕ) → List ReadFrameData → Type 0
HaveCounters counters frames =
    AllByRecursion (λ (f : ReadFrameData). counters f.counter < 2 ^ 48) frames
