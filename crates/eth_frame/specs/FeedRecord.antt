-- One record of a feed: the frame's counter in 6 bytes, its marks in 1, its length in 2, and then
-- its bytes. A number's lowest byte comes first.
use Rattle.std.specs.Prelude.{ℕ, ◌+◌, ◌==◌, Bool, true, false, not, ◌||◌, ◌&&◌, if◌then◌else◌}
use Rattle.std.specs.Prelude.{nat_lt, List, ◌∷◌, ◌++◌, length}
use Rattle.std.specs.Prelude.{take, drop, slice_index, Option, None, Some, Result, Ok, Err, bit_and}
use Rattle.std.specs.Int.{w16, to_le_bytes, bytes_low_first}
use Rattle.eth_frame.specs.Bytes.{u16_at, u48_at}
use Rattle.eth_frame.specs.declared.frame.TheConstants.{MIN_FRAME_LEN, MAX_FRAME_LEN}
use Rattle.eth_frame.specs.declared.feed.head.TheConstants.{HEAD_LEN, MAX_MARKS}
use Rattle.eth_frame.specs.declared.source.SourceFault.{SourceFault}
use Rattle.eth_frame.specs.declared.source.SourceFault.TheVariants.{Truncated, Length, Marks}
use Rattle.eth_frame.specs.declared.source.SourceEnding.{SourceEnding}
use Rattle.eth_frame.specs.declared.source.SourceEnding.TheVariants.{End, Fault}
use Rattle.eth_frame.specs.Frame.{FrameData, frame_of}

-- ---- writing

-- the marks as a byte: bit 0 a wrong check sequence, bit 1 another fault
abbrev pub marks_byte : Bool → Bool → ℕ
marks_byte crc_error frame_error = (if crc_error then 1 else 0) + (if frame_error then 2 else 0)

-- the 9 bytes before a frame's bytes: its counter, its marks and its length
abbrev pub head_bytes : (counter : ℕ) (crc_error frame_error : Bool) (len : ℕ) → List ℕ
head_bytes counter crc_error frame_error len =
    bytes_low_first 0 6 counter ++ (marks_byte crc_error frame_error ∷ to_le_bytes w16 len)

-- the 9 bytes before this frame's bytes
abbrev pub feed_record_head : FrameData → List ℕ
feed_record_head frame =
    head_bytes frame.counter frame.crc_error frame.frame_error (length frame.bytes)

-- the record of a frame
abbrev pub feed_record : FrameData → List ℕ
feed_record frame = feed_record_head frame ++ frame.bytes

-- and that of a time mark, which is no more than a head without marks and of length 0
abbrev pub time_record : (counter : ℕ) → List ℕ
time_record counter = head_bytes counter false false 0

-- ---- reading

-- the counter, the marks and the length that the 9 bytes at the front say
abbrev pub counter_field : List ℕ → ℕ
counter_field bytes = u48_at bytes 0

abbrev pub marks_field : List ℕ → ℕ
marks_field bytes = slice_index bytes 6

abbrev pub length_field : List ℕ → ℕ
length_field bytes = u16_at bytes 7

-- whether bit 0 of the marks is set, and bit 1
abbrev pub has_crc_error : ℕ → Bool
has_crc_error marks = not (bit_and marks 1 == 0)

abbrev pub has_frame_error : ℕ → Bool
has_frame_error marks = not (bit_and marks 2 == 0)

-- the counter of the time mark that the 9 bytes at the front are, if their marks and their length
-- are 0
abbrev pub time_in : List ℕ → Option ℕ
time_in bytes =
    if (length_field bytes == 0)
    && (marks_field bytes == 0) then Some (counter_field bytes) else None

-- what is wrong with the 9 bytes at the front, the length first
abbrev pub head_fault : List ℕ → Option SourceFault
head_fault bytes =
    if nat_lt (length_field bytes) MIN_FRAME_LEN || nat_lt MAX_FRAME_LEN (length_field bytes)
    then Some Length
    else if nat_lt MAX_MARKS (marks_field bytes) then Some Marks
    else None

-- the frame whose record stands at the front
abbrev pub frame_at : List ℕ → FrameData
frame_at bytes =
    let marks = marks_field bytes in
    frame_of (counter_field bytes) (has_crc_error marks) (has_frame_error marks)
    (take (length_field bytes) (drop HEAD_LEN bytes))

-- the frame after a valid head, if all its bytes are there
abbrev pub body_at : Option SourceFault → List ℕ → Result FrameData SourceEnding
body_at (Some fault) bytes = Err (Fault fault)
body_at None bytes =
    if nat_lt (length bytes) (HEAD_LEN + length_field bytes)
    then Err (Fault Truncated)
    else Ok (frame_at bytes)

-- the frame whose record stands at the front, or how a feed ends that goes on so
unfoldable pub record_at : List ℕ → Result FrameData SourceEnding
record_at bytes =
    if length bytes == 0 then Err End
    else if nat_lt (length bytes) HEAD_LEN then Err (Fault Truncated)
    else body_at (head_fault bytes) bytes

-- the counter of the time mark that stands at the front
abbrev pub time_at : List ℕ → Option ℕ
time_at bytes = if nat_lt (length bytes) HEAD_LEN then None else time_in bytes

-- the same, where there may be time marks
abbrev pub mark_at : (timed : Bool) → List ℕ → Option ℕ
mark_at true bytes = time_at bytes
mark_at false bytes = None
