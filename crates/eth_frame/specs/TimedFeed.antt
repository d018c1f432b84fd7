-- A feed with time marks: their records stand among those of its frames.
use Rattle.std.specs.Prelude.{ℕ, zero, suc, ◌≡◌, ◌-◌, ◌<◌, ◌^◌, Bool, true, false, List, [], ◌∷◌}
use Rattle.std.specs.Prelude.{◌++◌, Option, None, Some}
use Rattle.std.specs.List.{flat_map, AllByRecursion}
use Rattle.std.specs.Option.{option_map}
use Rattle.eth_frame.specs.declared.feed.head.TheConstants.{HEAD_LEN}
use Rattle.eth_frame.specs.declared.source.SourceEnding.{SourceEnding}
use Rattle.eth_frame.specs.declared.source.SourceEnding.TheVariants.{End}
use Rattle.eth_frame.specs.Frame.{FrameData, IsFrame}
use Rattle.eth_frame.specs.Source.{Left, no_frames, with_first_frame, with_first_time}
use Rattle.eth_frame.specs.FeedRecord.{feed_record, time_record, record_at, time_at}
use Rattle.eth_frame.specs.Feed.{EndsFeed, after_record, left_of_source}

-- ---- what such a feed's bytes are

-- a frame or a time mark
pub data FeedItem : Type 0 where
  OfFrame : (frame : FrameData) → FeedItem
  OfTime : (counter : ℕ) → FeedItem

abbrev pub item_record : FeedItem → List ℕ
item_record (OfFrame frame) = feed_record frame
item_record (OfTime counter) = time_record counter

abbrev pub IsItem : FeedItem → Type 0
IsItem (OfFrame frame) = IsFrame frame
IsItem (OfTime counter) = counter < 2 ^ 48

-- the bytes are the records of these items, one after the other, and a rest with this ending, at
-- whose front no time mark stands
pub record TimedFeed (bytes : List ℕ) (items : List FeedItem) (ending : SourceEnding) : Type 0 where
  pub rest : List ℕ
  pub whole : bytes ≡ flat_map item_record items ++ rest
  pub in_range : AllByRecursion IsItem items
  pub ends : EndsFeed rest ending
  pub unmarked : time_at rest ≡ None

-- what is left of a source that gives these items, one after the other, and then this ending
abbrev pub left_of_items : List FeedItem → SourceEnding → Left
left_of_items [] ending = no_frames ending
left_of_items (OfFrame frame ∷ items) ending = with_first_frame frame (left_of_items items ending)
left_of_items (OfTime counter ∷ items) ending = with_first_time counter (left_of_items items ending)

-- ---- what such a feed's bytes say

-- the time mark at the front, and what comes after it; or what there is if none stands there
abbrev pub after_time : Option ℕ → (later other : Left) → Left
after_time (Some counter) later other = with_first_time counter later
after_time None later other = other

-- the frames, the time marks and the ending that the bytes say, once the first ones are skipped
unfoldable pub timed_from : ℕ → List ℕ → Left
timed_from skipped [] = no_frames End
timed_from zero (b ∷ bs) =
    after_time (time_at (b ∷ bs)) (timed_from (HEAD_LEN - 1) bs)
    (after_record (record_at (b ∷ bs)) (λ n. timed_from (n - 1) bs))
timed_from (suc skipped) (b ∷ bs) = timed_from skipped bs

-- what the bytes of a feed with time marks say
abbrev pub left_of_timed_feed : List ℕ → Left
left_of_timed_feed bytes = timed_from 0 bytes

-- ---- what a source over such a feed's bytes still gives

abbrev pub left_of_timed : Option SourceEnding → Option (List ℕ) → Option Left
left_of_timed None known = option_map left_of_timed_feed known
left_of_timed (Some ending) known = Some (no_frames ending)

-- the same of a source over a feed, with time marks or without
abbrev pub left_given : (timed : Bool) → Option SourceEnding → Option (List ℕ) → Option Left
left_given true ended known = left_of_timed ended known
left_given false ended known = left_of_source ended known
