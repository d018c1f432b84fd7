-- An Ethernet frame as a recorder keeps it: its counter, its two marks, and its bytes with the
-- frame check sequence (IEEE 802.3).
use Rattle.std.specs.Prelude.{ℕ, ◌-◌, ◌^◌, ◌<◌, ◌≤◌, Bool, List, length, take}
use Rattle.eth_frame.specs.declared.frame.TheConstants.{MIN_FRAME_LEN, MAX_FRAME_LEN}
use Rattle.eth_frame.specs.declared.frame.TheConstants.{CHECK_SEQUENCE_LEN}

-- a frame's counter, whether it came with a wrong check sequence or with another fault, and its
-- bytes
pub record FrameData : Type 0 where
  pub counter : ℕ
  pub crc_error : Bool
  pub frame_error : Bool
  pub bytes : List ℕ

-- the frame of these parts
abbrev pub frame_of : (counter : ℕ) (crc_error frame_error : Bool) (bytes : List ℕ) → FrameData
frame_of counter crc_error frame_error bytes =
    record { counter = counter; crc_error = crc_error; frame_error = frame_error; bytes = bytes }

-- the counter has 48 bits, and there are 18 to 16,383 bytes
pub record IsFrame (frame : FrameData) : Type 0 where
  pub counter : frame.counter < 2 ^ 48
  pub shortest : MIN_FRAME_LEN ≤ length frame.bytes
  pub longest : length frame.bytes ≤ MAX_FRAME_LEN

-- what a filter sees of a frame: its bytes without the last 4, the frame check sequence
abbrev pub view : FrameData → List ℕ
view frame = take (length frame.bytes - CHECK_SEQUENCE_LEN) frame.bytes
