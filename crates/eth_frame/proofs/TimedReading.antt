-- Bytes of a feed with time marks say its frames and its marks.
use Rattle.std.proofs.Common.{◌≡◌, ℕ, ◌+◌, ◌<◌, ◌^◌, true, false, List, [], ◌∷◌, ◌++◌, length, None, Some}
use Rattle.std.proofs.Common.{refl, sym, ap, ◌∙◌, append_assoc, arith, lit<}
use Rattle.std.specs.List.{flat_map, AllByRecursion}
use Rattle.std.proofs.lemmas.List.{drop_at}
use Rattle.eth_frame.specs.declared.feed.head.TheConstants.{HEAD_LEN}
use Rattle.eth_frame.specs.declared.source.SourceEnding.{SourceEnding}
use Rattle.eth_frame.specs.Frame.{FrameData, IsFrame}
use Rattle.eth_frame.specs.Source.{with_first_frame, with_first_time}
use Rattle.eth_frame.specs.FeedRecord.{feed_record, time_record, length_field, counter_field, time_at}
use Rattle.eth_frame.specs.Feed.{EndsFeed, Feed, left_of_feed}
use Rattle.eth_frame.specs.TimedFeed.{FeedItem, item_record, IsItem, TimedFeed, left_of_items, left_of_timed_feed}
use Rattle.eth_frame.specs.TimedFeed.FeedItem.{OfFrame, OfTime}
use Rattle.eth_frame.proofs.Fields.{counter_field-head_bytes, length_field-head_bytes}
use Rattle.eth_frame.proofs.Lefts.{left_of_feed-frame, left_of_feed-ending}
use Rattle.eth_frame.proofs.Marks.{mark_at-split}
use Rattle.eth_frame.proofs.OneFeedReading.{record_at-record, Ends-record_at}
use Rattle.eth_frame.proofs.TimedLefts.{timed-frame, timed-ending, timed-mark}

time_at-record : (counter : ℕ) (more : List ℕ) → counter < 2 ^ 48 → time_at (time_record counter ++ more) ≡ Some counter
time_at-record counter more fits =
    let len : length_field (time_record counter) ≡ 0 = length_field-head_bytes counter false false 0 (lit< tt) in
    let said : counter_field (time_record counter) ≡ counter = counter_field-head_bytes counter false false 0 fits in
    mark_at-split true (time_record counter) more refl ∙ rw (len, said) refl

left-items : (items : List FeedItem) (rest : List ℕ) (ending : SourceEnding) → AllByRecursion IsItem items → EndsFeed rest ending → time_at rest ≡ None
    → left_of_timed_feed (flat_map item_record items ++ rest) ≡ left_of_items items ending
left-items [] rest ending each ends none = timed-ending rest ending none (Ends-record_at rest ending ends)
left-items (OfFrame f ∷ items) rest ending each ends none =
    let more = flat_map item_record items ++ rest in
    let size : length (feed_record f) ≡ HEAD_LEN + length f.bytes = omega arith in
    ap left_of_timed_feed (append_assoc (feed_record f) (flat_map item_record items) rest)
    ∙ timed-frame (feed_record f ++ more) f (record_at-record f more each.0)
    ∙ ap (λ l. with_first_frame f (left_of_timed_feed l)) (drop_at (feed_record f) more (HEAD_LEN + length f.bytes) size)
    ∙ ap (with_first_frame f) (left-items items rest ending each.1 ends none)
left-items (OfTime k ∷ items) rest ending each ends none =
    let more = flat_map item_record items ++ rest in
    ap left_of_timed_feed (append_assoc (time_record k) (flat_map item_record items) rest)
    ∙ timed-mark (time_record k ++ more) k (time_at-record k more each.0)
    ∙ ap (λ l. with_first_time k (left_of_timed_feed l)) (drop_at (time_record k) more HEAD_LEN refl)
    ∙ ap (with_first_time k) (left-items items rest ending each.1 ends none)

pub said : (bytes : List ℕ) (items : List FeedItem) (ending : SourceEnding) → TimedFeed bytes items ending
    → left_of_timed_feed bytes ≡ left_of_items items ending
said bytes items ending feed = ap left_of_timed_feed feed.whole ∙ left-items items feed.rest ending feed.in_range feed.ends feed.unmarked

-- ---- a feed without time marks

left-frames : (frames : List FrameData) (rest : List ℕ) (ending : SourceEnding) → AllByRecursion IsFrame frames → EndsFeed rest ending → time_at rest ≡ None
    → left_of_timed_feed (flat_map feed_record frames ++ rest) ≡ left_of_feed (flat_map feed_record frames ++ rest)
left-frames [] rest ending each ends none =
    let read = Ends-record_at rest ending ends in
    timed-ending rest ending none read ∙ sym (left_of_feed-ending rest ending read)
left-frames (f ∷ fs) rest ending each ends none =
    let more = flat_map feed_record fs ++ rest in
    let size : length (feed_record f) ≡ HEAD_LEN + length f.bytes = omega arith in
    let read = record_at-record f more each.0 in
    let seam = append_assoc (feed_record f) (flat_map feed_record fs) rest in
    let rested = drop_at (feed_record f) more (HEAD_LEN + length f.bytes) size in
    ap left_of_timed_feed seam
    ∙ timed-frame (feed_record f ++ more) f read
    ∙ ap (λ l. with_first_frame f (left_of_timed_feed l)) rested
    ∙ ap (with_first_frame f) (left-frames fs rest ending each.1 ends none)
    ∙ ap (λ l. with_first_frame f (left_of_feed l)) (sym rested)
    ∙ sym (left_of_feed-frame (feed_record f ++ more) f read)
    ∙ ap left_of_feed (sym seam)

pub same : (bytes : List ℕ) (frames : List FrameData) (ending : SourceEnding) (feed : Feed bytes frames ending) → time_at feed.rest ≡ None
    → left_of_timed_feed bytes ≡ left_of_feed bytes
same bytes frames ending feed none =
    ap left_of_timed_feed feed.whole ∙ left-frames frames feed.rest ending feed.in_range feed.ends none ∙ ap left_of_feed (sym feed.whole)
