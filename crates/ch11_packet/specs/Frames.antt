-- The body of a packet of Ethernet data as it is written (IRIG 106-17 Chapter 11, Ethernet Data
-- Packets, Format 0, in this project's profile): a word, and then each frame behind its own header.
use Rattle.std.specs.Prelude.{ℕ, ◌+◌, ◌*◌, ◌^◌, ◌%◌, if◌then◌else◌, List, ◌∷◌, ◌++◌, length}
use Rattle.std.specs.Prelude.{replicate}
use Rattle.std.specs.Int.{w32, to_le_bytes, bytes_low_first}
use Rattle.std.specs.List.{sum_by, flat_map}
use Rattle.ch11_packet.specs.declared.frames.word.TheConstants.{BODY_WORD_LEN, FRAME_HEADER_LEN}
use Rattle.eth_frame.specs.Frame.{FrameData}

-- the frame's word: the number of its bytes from bit 0, the network identifier from bit 16, the
-- speed from bit 24, the content from bit 28 (0: a frame with its check sequence), another fault
-- than a wrong check sequence at bit 30, and a wrong check sequence at bit 31
abbrev pub frame_word : (net speed : ℕ) → FrameData → ℕ
frame_word net speed frame =
    length frame.bytes + net * 2 ^ 16 + speed * 2 ^ 24
    + (if frame.frame_error then 2 ^ 30 else 0) + (if frame.crc_error then 2 ^ 31 else 0)

-- the 12 bytes before a frame's bytes: its counter in 6, two zero bytes, and its word
abbrev pub frame_header : (net speed : ℕ) → FrameData → List ℕ
frame_header net speed frame =
    bytes_low_first 0 6 frame.counter ++ (0 ∷ 0 ∷ to_le_bytes w32 (frame_word net speed frame))

-- the filler after the `len` bytes of a frame: one zero byte if `len` is odd
abbrev pub frame_filler : ℕ → List ℕ
frame_filler len = replicate (len % 2) 0

-- a frame in a body, with its header and its filler
unfoldable pub frame_bytes : (net speed : ℕ) → FrameData → List ℕ
frame_bytes net speed frame =
    frame_header net speed frame ++ (frame.bytes ++ frame_filler (length frame.bytes))

-- the number of bytes of a body that a frame of `len` bytes takes
abbrev pub frame_len : ℕ → ℕ
frame_len len = FRAME_HEADER_LEN + len + len % 2

-- the body of these frames: a word with the format in its four highest bits (0) and the number of
-- frames in its 16 lowest, and then each frame
unfoldable pub data_bytes : (net speed : ℕ) → List FrameData → List ℕ
data_bytes net speed frames =
    to_le_bytes w32 (length frames) ++ flat_map (frame_bytes net speed) frames

-- the number of bytes of the body of these frames
abbrev pub data_len : List FrameData → ℕ
data_len frames = BODY_WORD_LEN + sum_by (λ frame. frame_len (length frame.bytes)) frames
