-- The code's values as data.
use Rattle.eth_frame.specs.Frame.{FrameData, frame_of}
use Rattle.eth_frame.specs.declared.frame.Frame.{Frame}

-- a frame's parts, without the place of its borrowed bytes
abbrev pub frame_data : Frame → FrameData
frame_data f = frame_of f.counter f.crc_error f.frame_error f.bytes.now
