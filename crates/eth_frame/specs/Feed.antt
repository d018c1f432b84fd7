-- A feed: the records of frames one after the other, up to what ends it.
use Rattle.std.specs.Prelude.{ℕ, zero, suc, ◌≡◌, ◌+◌, ◌-◌, ◌<◌, ◌≤◌, ◌⊎◌, List, [], ◌∷◌, ◌++◌}
use Rattle.std.specs.Prelude.{length, Option, None, Some, Result, Ok, Err}
use Rattle.std.specs.List.{flat_map, AllByRecursion}
use Rattle.std.specs.Option.{option_map}
use Rattle.eth_frame.specs.declared.frame.TheConstants.{MIN_FRAME_LEN, MAX_FRAME_LEN}
use Rattle.eth_frame.specs.declared.feed.head.TheConstants.{HEAD_LEN, MAX_MARKS}
use Rattle.eth_frame.specs.declared.source.SourceFault.TheVariants.{Truncated, Length, Marks}
use Rattle.eth_frame.specs.declared.source.SourceFault.TheVariants.{Device}
use Rattle.eth_frame.specs.declared.source.SourceEnding.{SourceEnding}
use Rattle.eth_frame.specs.declared.source.SourceEnding.TheVariants.{End, Fault}
use Rattle.eth_frame.specs.Frame.{FrameData, IsFrame}
use Rattle.eth_frame.specs.Source.{Left, no_frames, with_first_frame}
use Rattle.eth_frame.specs.FeedRecord.{feed_record, length_field, marks_field, record_at}

-- ---- what a feed's bytes are

-- a length that no frame has
abbrev pub IsBadLength : ℕ → Type 0
IsBadLength n = (n < MIN_FRAME_LEN) ⊎ (MAX_FRAME_LEN < n)

-- a part of a head, or a valid head with a part of its frame's bytes
abbrev pub IsCutRecord : List ℕ → Type 0
IsCutRecord rest =
    ((0 < length rest) × (length rest < HEAD_LEN))
    ⊎ ((HEAD_LEN ≤ length rest)
    × (MIN_FRAME_LEN ≤ length_field rest) × (length_field rest ≤ MAX_FRAME_LEN)
    × (marks_field rest ≤ MAX_MARKS) × (length rest < HEAD_LEN + length_field rest))

-- the bytes begin no record, and this is how a feed ends whose records are followed by them
abbrev pub EndsFeed : List ℕ → SourceEnding → Type 0
EndsFeed rest End = rest ≡ []
EndsFeed rest (Fault Truncated) = IsCutRecord rest
EndsFeed rest (Fault Length) = (HEAD_LEN ≤ length rest) × IsBadLength (length_field rest)
EndsFeed rest (Fault Marks) =
    (HEAD_LEN ≤ length rest)
    × (MIN_FRAME_LEN ≤ length_field rest) × (length_field rest ≤ MAX_FRAME_LEN)
    × (MAX_MARKS < marks_field rest)
EndsFeed rest (Fault Device) = ⊥

-- the bytes are the records of these frames, one after the other, and a rest with this ending
pub record Feed (bytes : List ℕ) (frames : List FrameData) (ending : SourceEnding) : Type 0 where
  pub rest : List ℕ
  pub whole : bytes ≡ flat_map feed_record frames ++ rest
  pub in_range : AllByRecursion IsFrame frames
  pub ends : EndsFeed rest ending

-- ---- what a feed's bytes say

-- the frame's record is at the front, and what comes after it is left; or only the ending is
abbrev pub after_record : Result FrameData SourceEnding → (ℕ → Left) → Left
after_record (Ok frame) from = with_first_frame frame (from (length frame.bytes + HEAD_LEN))
after_record (Err ending) from = no_frames ending

-- the frames and the ending that the bytes say, once the first ones are passed over
unfoldable pub left_from : ℕ → List ℕ → Left
left_from skipped [] = no_frames End
left_from zero (b ∷ bs) = after_record (record_at (b ∷ bs)) (λ n. left_from (n - 1) bs)
left_from (suc skipped) (b ∷ bs) = left_from skipped bs

-- the frames and the ending that a feed's bytes say
abbrev pub left_of_feed : List ℕ → Left
left_of_feed bytes = left_from 0 bytes

-- ---- what a source over a feed's bytes still gives

-- only its ending once it has ended, and before that what the reader's bytes say, if they are known
abbrev pub left_of_source : Option SourceEnding → Option (List ℕ) → Option Left
left_of_source None known = option_map left_of_feed known
left_of_source (Some ending) known = Some (no_frames ending)

-- how often the device has failed of a source that ends with the first failure
abbrev pub failures_before : Option SourceEnding → ℕ
failures_before (Some (Fault Device)) = 1
failures_before ended = 0
