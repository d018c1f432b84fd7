-- What is kept of a frame beside its bytes, and the frame that it is with them.
use Rattle.std.specs.Prelude.{◌≡◌, List, ℕ, ◌≤◌, length, take, Option, None, Some}
use Rattle.eth_frame.specs.Frame.{FrameData, IsFrame, frame_of}
use Rattle.eth_frame.specs.declared.frame.FrameHead.{FrameHead}

-- the frame of this head with these bytes
abbrev pub headed_frame : FrameHead → List ℕ → FrameData
headed_frame h bytes = frame_of h.counter h.crc_error h.frame_error bytes

-- the frame is of this head
pub record HasFrameHead (h : FrameHead) (frame : FrameData) : Type 0 where
  pub counter : frame.counter ≡ h.counter
  pub crc_error : frame.crc_error ≡ h.crc_error
  pub frame_error : frame.frame_error ≡ h.frame_error
  pub len : length frame.bytes ≡ h.len

-- ---- a frame that owns its bytes

-- these are a frame's head and its bytes
pub record IsOwned (h : FrameHead) (bytes : List ℕ) : Type 0 where
  pub is_frame : IsFrame (headed_frame h bytes)
  pub len : length bytes ≡ h.len

-- ---- a buffer

-- the frame that a buffer holds, if any: its bytes are the first of the room
abbrev pub held_frame : Option FrameHead → (room : List ℕ) → Option FrameData
held_frame None room = None
held_frame (Some h) room = Some (headed_frame h (take h.len room))

-- what the buffer holds is a frame, and lies in the room
abbrev pub IsHeldFrame : Option FrameHead → (room : List ℕ) → Type 0
IsHeldFrame None room = Unit {0}
IsHeldFrame (Some h) room = IsFrame (headed_frame h (take h.len room)) × (h.len ≤ length room)
