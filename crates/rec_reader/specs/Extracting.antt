-- How many frames were written into a feed, and how many were passed over.
use Rattle.std.specs.Prelude.{ℕ, ◌≡◌, ◌+◌, max, Bool, not, List, count_by}
use Rattle.ch11_packet.specs.FramesRead.{ReadFrameData}
use Rattle.rec_reader.specs.declared.extract.Extracted.{Extracted}
use Rattle.rec_reader.specs.Channels.{capped}
use Rattle.rec_reader.specs.ChannelFrames.{has_record}

-- whether a frame is passed over
abbrev pub is_passed : ReadFrameData → Bool
is_passed frame = not (has_record frame)

-- a count that grew by this much; at 2^64 - 1 it stays
abbrev pub grown : ℕ → ℕ → ℕ
grown count more = max count (capped (count + more))

-- the counts grew by these frames: by those that have a record in a feed, and by the others
pub record Counts (old new : Extracted) (frames : List ReadFrameData) : Type 0 where
  pub frames_are : new.frames ≡ grown old.frames (count_by has_record frames)
  pub passed_are : new.passed ≡ grown old.passed (count_by is_passed frames)
