-- The body of a packet of frames that are copied (IRIG 106-17 Chapter 11, Ethernet Data Packets,
-- Format 0, in this project's profile): each as it was read, with zeros where a reader takes any
-- value.
use Rattle.std.specs.Prelude.{ℕ, List, ◌∷◌, ◌++◌, length}
use Rattle.std.specs.Int.{w32, to_le_bytes, bytes_low_first}
use Rattle.std.specs.List.{flat_map}
use Rattle.ch11_packet.specs.Frames.{frame_filler}
use Rattle.ch11_packet.specs.FramesRead.{ReadFrameData, read_word}

-- the 12 bytes before a frame's bytes: its counter in 6, two zero bytes, and its word, in which
-- bits 14 and 15 are zero
abbrev pub copied_header : ReadFrameData → List ℕ
copied_header frame =
    bytes_low_first 0 6 frame.counter ++ (0 ∷ 0 ∷ to_le_bytes w32 (read_word frame 0))

-- a frame with its header and its filler: one zero byte if its bytes are odd in number
unfoldable pub copied_frame : ReadFrameData → List ℕ
copied_frame frame =
    copied_header frame ++ (frame.bytes ++ frame_filler (length frame.bytes))

-- the body of these frames: a word with the format 0 and their number, and then each frame
unfoldable pub frames_body : List ReadFrameData → List ℕ
frames_body frames = to_le_bytes w32 (length frames) ++ flat_map copied_frame frames
