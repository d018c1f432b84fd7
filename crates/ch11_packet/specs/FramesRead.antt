-- The body of a packet of Ethernet data as it is read (IRIG 106-17 Chapter 11, Ethernet Data
-- Packets, Format 0, in this project's profile): some bits and bytes may have any value.
use Rattle.std.specs.Prelude.{ℕ, zero, suc, ◌^◌, ◌/◌, ◌%◌, Bool, List, [], ◌∷◌, take, drop, ◌≡◌}
use Rattle.std.specs.Prelude.{◌+◌, ◌*◌, ◌<◌, ◌≤◌, ◌⊎◌, if◌then◌else◌, ◌++◌, length, ◌≢◌}
use Rattle.ch11_packet.specs.declared.frames.word.TheConstants.{FRAME_HEADER_LEN, BODY_WORD_LEN}
use Rattle.eth_frame.specs.Bytes.{u32_at, u48_at}
use Rattle.ch11_packet.specs.Flags.{has_bit}
use Rattle.ch11_packet.specs.Frames.{frame_len}
use Rattle.eth_frame.specs.Frame.{FrameData, frame_of}
use Rattle.std.specs.Int.{w16, w32, to_le_bytes, bytes_low_first}
use Rattle.ch11_packet.specs.declared.frames.decode.BodyFault.{BodyFault}
use Rattle.ch11_packet.specs.declared.frames.decode.BodyFault.TheVariants.{Format, Short, LeftOver}

-- ---- the frames that bytes say

-- a frame in a body: its counter, its two marks, its network identifier, its speed, its content
-- (0: a frame with its check sequence), and its bytes
pub record ReadFrameData : Type 0 where
  pub counter : ℕ
  pub crc_error : Bool
  pub frame_error : Bool
  pub net : ℕ
  pub speed : ℕ
  pub content : ℕ
  pub bytes : List ℕ

-- the frame of these parts
abbrev pub read_frame_of : (counter : ℕ) (crc_error frame_error : Bool) (net speed content : ℕ)
    (bytes : List ℕ) → ReadFrameData
read_frame_of counter crc_error frame_error net speed content bytes = record {
  counter = counter;
  crc_error = crc_error;
  frame_error = frame_error;
  net = net;
  speed = speed;
  content = content;
  bytes = bytes;
}

-- the frame with this network identifier and this speed, as it is written: its content is 0
abbrev pub body_frame : (net speed : ℕ) → FrameData → ReadFrameData
body_frame net speed frame =
    read_frame_of frame.counter frame.crc_error frame.frame_error net speed 0 frame.bytes

-- a frame's counter, marks and bytes
abbrev pub frame_in : ReadFrameData → FrameData
frame_in frame = frame_of frame.counter frame.crc_error frame.frame_error frame.bytes

-- how many bytes a frame has whose word this is
abbrev pub length_in : ℕ → ℕ
length_in word = word % 2 ^ 14

-- the frame at the front of these bytes, behind its header
abbrev pub first_read : List ℕ → ReadFrameData
first_read bytes =
    let word = u32_at bytes 8 in
    read_frame_of (u48_at bytes 0) (has_bit word 31) (has_bit word 30)
    (word / 2 ^ 16 % 2 ^ 8) (word / 2 ^ 24 % 2 ^ 4) (word / 2 ^ 28 % 2 ^ 2)
    (take (length_in word) (drop FRAME_HEADER_LEN bytes))

-- what comes after it and its filler
abbrev pub after_first : List ℕ → List ℕ
after_first bytes = drop (frame_len (length_in (u32_at bytes 8))) bytes

-- the first `count` frames of these bytes
unfoldable pub first_reads : ℕ → List ℕ → List ReadFrameData
first_reads zero bytes = []
first_reads (suc count) bytes = first_read bytes ∷ first_reads count (after_first bytes)

-- ---- the bytes of a frame

-- each field is a number of its width
pub record IsReadFrame (frame : ReadFrameData) : Type 0 where
  pub counter : frame.counter < 2 ^ 48
  pub net : frame.net < 2 ^ 8
  pub speed : frame.speed < 2 ^ 4
  pub content : frame.content < 2 ^ 2
  pub longest : length frame.bytes < 2 ^ 14

-- the frame's word: the number of its bytes from bit 0, any value in bits 14 and 15, the network
-- identifier from bit 16, the speed from bit 24, the content from bit 28, another fault than a
-- wrong check sequence at bit 30, and a wrong check sequence at bit 31
abbrev pub read_word : ReadFrameData → (spare : ℕ) → ℕ
read_word frame spare =
    length frame.bytes + spare * 2 ^ 14 + frame.net * 2 ^ 16 + frame.speed * 2 ^ 24
    + frame.content * 2 ^ 28
    + (if frame.frame_error then 2 ^ 30 else 0) + (if frame.crc_error then 2 ^ 31 else 0)

-- the bytes are this frame's: its counter in 6, two bytes of any value, its word with two bits of
-- any value, and its bytes
pub record SpellsFrame (frame : ReadFrameData) (spelling : List ℕ) : Type 0 where
  pub in_range : IsReadFrame frame
  pub unused : ℕ
  pub spare : ℕ
  pub spare_fits : spare < 2 ^ 2
  pub whole : spelling
      ≡ bytes_low_first 0 6 frame.counter ++ to_le_bytes w16 unused
      ++ to_le_bytes w32 (read_word frame spare) ++ frame.bytes

-- the filler between a frame of `len` bytes and what follows it: one byte of any value if `len` is
-- odd, which may be missing at the end of the body
abbrev pub IsFiller : (len : ℕ) (filler more : List ℕ) → Type 0
IsFiller len filler more = (length filler ≡ len % 2) ⊎ ((filler ≡ []) × (more ≡ []))

-- the bytes are the frame's, its filler, and more
pub record FrameStandsFirst (frame : ReadFrameData) (bytes more : List ℕ) : Type 0 where
  pub spelling : List ℕ
  pub filler : List ℕ
  pub spelled : SpellsFrame frame spelling
  pub filled : IsFiller (length frame.bytes) filler more
  pub whole : bytes ≡ spelling ++ (filler ++ more)

-- the bytes are these frames one after the other, and a rest
abbrev pub BeginsFrames : List ReadFrameData → (bytes rest : List ℕ) → Type 0
BeginsFrames [] bytes rest = bytes ≡ rest
BeginsFrames (frame ∷ frames) bytes rest =
    (more : List ℕ) × FrameStandsFirst frame bytes more × BeginsFrames frames more rest

-- no whole frame stands first: there are fewer than the 12 bytes before a frame's bytes, or fewer
-- bytes follow them than its word says
abbrev pub IsCutFrame : List ℕ → Type 0
IsCutFrame bytes =
    (length bytes < FRAME_HEADER_LEN)
    ⊎ ((FRAME_HEADER_LEN ≤ length bytes)
    × (length bytes < FRAME_HEADER_LEN + length_in (u32_at bytes 8)))

-- the bytes are `count` frames one after the other, and nothing else
abbrev pub AreFrames : (count : ℕ) (bytes : List ℕ) → Type 0
AreFrames count bytes = BeginsFrames (first_reads count bytes) bytes []

-- ---- the bytes of a body

-- the bytes are the body of these frames: a word with their number in its 16 lowest bits, 12 bits
-- of any value and the format 0 in its four highest, and then the frames
pub record SpellsBody (frames : List ReadFrameData) (bytes : List ℕ) : Type 0 where
  pub few : length frames < 2 ^ 16
  pub spare : ℕ
  pub spare_fits : spare < 2 ^ 12
  pub rest : List ℕ
  pub whole : bytes ≡ to_le_bytes w32 (length frames + spare * 2 ^ 16) ++ rest
  pub held : BeginsFrames frames rest []

-- the bytes are the body of `count` frames
abbrev pub IsBodyOf : (count : ℕ) (bytes : List ℕ) → Type 0
IsBodyOf count bytes =
    (frames : List ReadFrameData) × SpellsBody frames bytes × (length frames ≡ count)

-- the number of frames and the format that a body's word says
abbrev pub count_in : List ℕ → ℕ
count_in bytes = u32_at bytes 0 % 2 ^ 16

abbrev pub format_in : List ℕ → ℕ
format_in bytes = u32_at bytes 0 / 2 ^ 28

-- `other` counts as many frames as `word`, and says the format 0
pub record HasSameCount (word other : ℕ) : Type 0 where
  pub word_fits : word < 2 ^ 32
  pub format : other < 2 ^ 28
  pub count : other % 2 ^ 16 ≡ word % 2 ^ 16

-- a word with the format 0 stands first
pub record HasFormat (bytes : List ℕ) : Type 0 where
  pub word : BODY_WORD_LEN ≤ length bytes
  pub format : format_in bytes ≡ 0

-- after fewer frames than the word says no whole one follows
pub record FramesEnd (bytes : List ℕ) : Type 0 where
  pub is_format : HasFormat bytes
  pub frames : List ReadFrameData
  pub rest : List ℕ
  pub held : BeginsFrames frames (drop BODY_WORD_LEN bytes) rest
  pub fewer : length frames < count_in bytes
  pub cut : IsCutFrame rest

-- after as many frames as the word says more follows
pub record MoreFollows (bytes : List ℕ) : Type 0 where
  pub is_format : HasFormat bytes
  pub frames : List ReadFrameData
  pub rest : List ℕ
  pub held : BeginsFrames frames (drop BODY_WORD_LEN bytes) rest
  pub all : length frames ≡ count_in bytes
  pub more : rest ≢ []

-- what is wrong with bytes that are no body of frames: there is no word, else its format, else some
-- frame isn't whole, or more follows the frames
abbrev pub HasBodyFault : List ℕ → BodyFault → Type 0
HasBodyFault bytes Format = (BODY_WORD_LEN ≤ length bytes) × (format_in bytes ≢ 0)
HasBodyFault bytes Short = (length bytes < BODY_WORD_LEN) ⊎ FramesEnd bytes
HasBodyFault bytes LeftOver = MoreFollows bytes
