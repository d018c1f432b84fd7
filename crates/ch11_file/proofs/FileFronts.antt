-- How a file begins, and how it ends.
use Rattle.std.proofs.Common.{ℕ, ◌≡◌, List, [], Option, None, Some, refl, sym, subst, ap}
use Rattle.std.specs.Prelude.{IfSome}
use Rattle.std.proofs.KnownBytes.{Appends-nil}
use Rattle.ch11_clock.specs.declared.origin.Origin.{Origin}
use Rattle.ch11_clock.specs.declared.time_point.TimePoint.{TimePoint}
use Rattle.ch11_clock.specs.declared.civil.CivilTime.{CivilTime}
use Rattle.ch11_clock.specs.CivilTime.{IsTimeOf}
use Rattle.ch11_clock.specs.TimePoints.{PointsLeft}
use Rattle.ch11_index.specs.FileIndex.{IndexState, due_at_end}
use Rattle.ch11_merge.specs.Merging.{ChannelLeft}
use Rattle.ch11_file.specs.declared.setup.FileSetup.{FileSetup}
use Rattle.ch11_file.specs.FileTimes.{IsFirstTime, WalksTimes}
use Rattle.ch11_file.specs.WholeFile.{FileFacts, SetupGoesNext, IsMerged, file_start, file_state, merge_state, setup_text}
use Rattle.ch11_file.specs.WholeFile.FileStage.{BeforeSetup, BeforeTime, Merging}
use Rattle.ch11_file.specs.FileEnds.{HoldsFile, HoldsFront}
use Rattle.ch11_file.specs.Sending.{SentState, HasSent, HasMerged, IsFresh}

pub start_sent : (facts : FileFacts) (held : Option (List ℕ)) (sent : SentState) (first : TimePoint) → IsFresh facts.most sent
    → IsFirstTime facts.least facts.rules first.moment first.tick
    → HasSent facts held held sent (merge_state BeforeSetup first.tick facts.channels)
start_sent facts held sent first fresh is = record {
  blocks = [];
  begins = record {
    moment = first.moment;
    first = first.tick;
    is_first = is;
    go = ap (λ (i : IndexState). file_state i (merge_state BeforeSetup first.tick facts.channels)) fresh.index;
    numbered = tt;
  };
  grows = Appends-nil held;
  next = record { len = fresh.len; each = fresh.each };
  place = ap (λ (i : IndexState). i.place) fresh.index;
  counts_are = fresh.counts;
}

pub setup_goes : (facts : FileFacts) (setup : FileSetup) (first : TimePoint) (time : CivilTime) (next : Option TimePoint) (points : PointsLeft)
    (left : List ChannelLeft)
    → facts.setup ≡ setup → next ≡ Some first → WalksTimes facts.least facts.rules next points → IsTimeOf time first.moment
    → SetupGoesNext facts (merge_state BeforeSetup first.tick left) (setup_text setup time) first.tick (merge_state BeforeTime first.tick left)
setup_goes facts setup first time next points left same is walks tells = record {
  stage = refl;
  counter_is = refl;
  time = time;
  moment = first.moment;
  is_point = (subst (λ (o : Option TimePoint). WalksTimes facts.least facts.rules o points) is walks).0;
  tells = tells;
  text_is = ap (λ s. setup_text s time) (sym same);
  new_is = refl;
}

pub merged : (facts : FileFacts) (before held : Option (List ℕ)) (sent : SentState) (has : HasMerged facts before held sent)
    → IsMerged (merge_state Merging has.tick has.left)
merged facts before held sent has = record { stage = refl; none = has.none }

pub holds_file : (facts : FileFacts) (before held : Option (List ℕ)) (sent : SentState) (tick : ℕ) (left : List ChannelLeft)
    → HasSent facts before held sent (merge_state Merging tick left) → IsMerged (merge_state Merging tick left) → due_at_end sent.index ≡ None
    → HoldsFile facts before held sent.counts
holds_file facts before held sent tick left has none over = record {
  blocks = has.blocks;
  whole = (file_state sent.index (merge_state Merging tick left), has.begins, record { merged = none; indexed = over });
  grows = has.grows;
  counts_are = has.counts_are;
}

-- nothing went out yet
pub front_start : (facts : FileFacts) (held : Option (List ℕ)) (first : TimePoint) → IsFirstTime facts.least facts.rules first.moment first.tick
    → HoldsFront facts held held
front_start facts held first is = record {
  blocks = [];
  now = file_start facts first.tick;
  begins = record { moment = first.moment; first = first.tick; is_first = is; go = refl; numbered = tt };
  len = 0;
  grows = Appends-nil held;
}

pub first_is : (least : ℕ) (rules : List Origin) (next : Option TimePoint) (first : TimePoint) → next ≡ Some first
    → IfSome next (λ (point : TimePoint). IsFirstTime least rules point.moment point.tick) → IsFirstTime least rules first.moment first.tick
first_is least rules next first is some =
    subst (λ (o : Option TimePoint). IfSome o (λ (point : TimePoint). IsFirstTime least rules point.moment point.tick)) is some
