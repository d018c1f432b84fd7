-- What goes out next of a file: a time packet, or a piece.
use Rattle.std.proofs.Common.{ℕ, ◌≡◌, ◌≢◌, ◌<◌, List, [], ◌∷◌, Option, None, Some, refl, sym, subst, ap, ◌∙◌, arith}
use Rattle.std.specs.Prelude.{Bool, true, false, nat_lt, nat_eq, ◌&&◌, ◌||◌, if◌then◌else◌, unwrap_or, IfSome, IsSomeAnd}
use Rattle.std.proofs.lemmas.Bool.{true≢false}
use Rattle.std.proofs.lemmas.Bool.Decides.{nat_tests}
use Rattle.ch11_clock.specs.declared.time_point.TimePoint.{TimePoint}
use Rattle.ch11_clock.specs.declared.civil.CivilTime.{CivilTime}
use Rattle.ch11_clock.specs.CivilTime.{IsTimeOf}
use Rattle.ch11_clock.specs.TimePoints.{PointsLeft, IsTimePoint}
use Rattle.ch11_packet.specs.FramesRead.{ReadFrameData}
use Rattle.ch11_merge.specs.declared.source.Head.{Head}
use Rattle.ch11_merge.specs.declared.source.Head.TheVariants.{At, Uncounted, End}
use Rattle.ch11_merge.specs.Merging.{FilePiece, ChannelLeft, IsNextAt, StandsFirst, TimeIsNext, PieceIsNext, TakesPart, head_of, head_of_piece}
use Rattle.ch11_merge.specs.Merging.{is_ahead, is_due, part_before, frames_before}
use Rattle.ch11_merge.specs.Merging.FilePiece.{OfFrames, OfRecord}
use Rattle.ch11_merge.specs.Placing.{Answers, IsNextPiece}
use Rattle.ch11_merge.specs.declared.placed.NextPiece.{NextPiece}
use Rattle.ch11_merge.specs.declared.placed.Placed.{Placed}
use Rattle.ch11_merge.specs.declared.placed.Placed.TheVariants.{Time, Piece}
use Rattle.ch11_merge.proofs.Merged.{has_head}
use Rattle.ch11_packet.proofs.ChangedLists.{all_there}
use Rattle.ch11_file.specs.FileTimes.{IsNextTick, WalksTimes, tick_of}
use Rattle.ch11_file.specs.declared.end.Refusal.TheVariants.{Gap}
use Rattle.ch11_file.specs.WholeFile.{FileFacts, FileStage, MergeState, TimeIsDue, TimeGoesNext, PieceGoesNext, IsBehind, IsFarAhead, counter_of}
use Rattle.ch11_file.specs.WholeFile.{file_state, merge_state}
use Rattle.ch11_file.specs.FileEnds.{HasNoGap, HoldsUpTo, IsGap, IsRefused}
use Rattle.ch11_file.specs.Sending.{SentState, HasSent}
use Rattle.ch11_file.specs.WholeFile.FileStage.{BeforeSetup, BeforeTime, Merging}

-- ---- a time packet

walk_at : (facts : FileFacts) (next : Option TimePoint) (points : PointsLeft) (point : TimePoint) → next ≡ Some point
    → WalksTimes facts.least facts.rules next points → IsTimePoint facts.least facts.rules point.moment point.tick
walk_at facts next points point is walks = (subst (λ (o : Option TimePoint). WalksTimes facts.least facts.rules o points) is walks).0

pub time_goes : (facts : FileFacts) (greatest : ℕ) (stage : FileStage) (left : List ChannelLeft) (next : Option TimePoint) (points : PointsLeft)
    (point : TimePoint) (is_external : Bool) (time : CivilTime) (behind : ℕ) → next ≡ Some point → WalksTimes facts.least facts.rules next points
    → TimeIsDue greatest stage (tick_of next) left → is_external ≡ facts.setup.is_external → IsTimeOf time point.moment
    → IsNextTick facts.least facts.rules point.tick behind
    → TimeGoesNext facts greatest (merge_state stage (tick_of next) left) is_external time point.tick (merge_state Merging behind left)
time_goes facts greatest stage left next points point is_external time behind is walks due source tells follows =
    let tick_is : tick_of next ≡ point.tick = ap tick_of is in
    record {
      due = due;
      counter_is = sym tick_is;
      source_is = source;
      moment = point.moment;
      is_point = subst (λ (n : ℕ). IsTimePoint facts.least facts.rules point.moment n) (sym tick_is) (walk_at facts next points point is walks);
      tells = tells;
      next = behind;
      follows = subst (λ (n : ℕ). IsNextTick facts.least facts.rules n behind) (sym tick_is) follows;
      new_is = refl;
    }

-- ---- a piece

pub counter_fits : (counter : Option ℕ) (greatest most : ℕ) → IfSome counter (λ n. n < most) → greatest < most → unwrap_or counter greatest < most
counter_fits None greatest most some least = least
counter_fits (Some n) greatest most some least = some

pub piece_goes : (greatest tick : ℕ) (old new : List ChannelLeft) (channel counter : ℕ) (piece : FilePiece) → PieceIsNext tick old channel piece new
    → counter ≡ counter_of greatest piece → ¬ IsBehind greatest counter → ¬ IsFarAhead greatest (head_of_piece piece)
    → PieceGoesNext greatest (merge_state Merging tick old) channel piece counter (merge_state Merging tick new)
piece_goes greatest tick old new channel counter piece is counted behind far = record {
  stage = refl;
  left = new;
  is_next = is;
  counter_is = counted;
  not_behind = behind;
  not_far = far;
  new_is = refl;
}

-- ---- the head that was judged

same_counter : (a b m n : ℕ) → (nat_lt a b || (nat_eq a b && nat_lt m n)) ≡ false → (nat_lt b a || (nat_eq b a && nat_lt n m)) ≡ false → a ≡ b
same_counter a b m n p q = grind (arith, nat_tests)

-- heads of which none goes ahead of the other are the same
one_head : (a b : Head) (m n : ℕ) → a ≢ End → b ≢ End → is_ahead a m b n ≡ false → is_ahead b n a m ≡ false → a ≡ b
one_head (At a) (At b) m n some other p q = ap At (same_counter a b m n p q)
one_head (At a) Uncounted m n some other p q = absurd (true≢false p)
one_head (At a) End m n some other p q = absurd (other refl)
one_head Uncounted (At b) m n some other p q = absurd (true≢false q)
one_head Uncounted Uncounted m n some other p q = refl
one_head Uncounted End m n some other p q = absurd (other refl)
one_head End b m n some other p q = absurd (some refl)

pub one_head_next : (channels : List ChannelLeft) (at other : ℕ) (c d : ChannelLeft) → IsNextAt channels at c → IsNextAt channels other d
    → head_of c.pieces ≡ head_of d.pieces
one_head_next channels at other c d p q =
    one_head (head_of c.pieces) (head_of d.pieces) c.channel d.channel (has_head c.pieces p.some) (has_head d.pieces q.some)
    (all_there (λ (e : ChannelLeft). is_ahead (head_of e.pieces) e.channel (head_of d.pieces) d.channel ≡ false) channels at c q.least p.there)
    (all_there (λ (e : ChannelLeft). is_ahead (head_of e.pieces) e.channel (head_of c.pieces) c.channel ≡ false) channels other d p.least q.there)

-- the part of a piece that goes out stands where the piece does
same_first : (tick place : ℕ) (frames : List ReadFrameData) → is_due tick (head_of_piece (OfFrames place frames)) ≡ false
    → head_of_piece (OfFrames place (frames_before tick frames)) ≡ head_of_piece (OfFrames place frames)
same_first tick place [] early = refl
same_first tick place (f ∷ fs) early =
    let lt : nat_lt f.counter tick ≡ true = grind (arith, nat_tests) in
    ap (λ b. head_of_piece (OfFrames place (if b then f ∷ frames_before tick fs else []))) lt

part_head : (tick : ℕ) (piece : FilePiece) → is_due tick (head_of_piece piece) ≡ false → head_of_piece (part_before tick piece) ≡ head_of_piece piece
part_head tick (OfFrames place frames) early = same_first tick place frames early
part_head tick (OfRecord place counter body) early = refl

pub taken_head : (tick : ℕ) (pieces rest : List FilePiece) (piece : FilePiece) → TakesPart tick pieces piece rest → is_due tick (head_of pieces) ≡ false
    → head_of_piece piece ≡ head_of pieces
taken_head tick [] rest piece takes early = absurd takes
taken_head tick (p ∷ ps) rest piece takes early = ap head_of_piece takes.0 ∙ part_head tick p early

-- a piece that comes next stands where the head that was judged does
pub piece_head_next : (tick at channel : ℕ) (old new : List ChannelLeft) (of : ChannelLeft) (piece : FilePiece) → IsNextAt old at of
    → PieceIsNext tick old channel piece new → head_of_piece piece ≡ head_of of.pieces
piece_head_next tick at channel old new of piece judged is =
    taken_head tick is.of.pieces is.rest piece is.takes is.early ∙ one_head_next old is.at at is.of of is.is_next judged

-- the next piece doesn't lie too far ahead
abbrev pub LiesNear : (greatest : ℕ) → Option NextPiece → Type 0
LiesNear greatest next = IfSome next (λ piece. ¬ IsFarAhead greatest piece.head)

near_next : (greatest at : ℕ) (left : List ChannelLeft) (next : Option NextPiece) (of : ChannelLeft) → IsNextPiece left next → LiesNear greatest next
    → IsNextAt left at of → ¬ IsFarAhead greatest (head_of of.pieces)
near_next greatest at left None of judged near is =
    absurd (is.some (all_there (λ (d : ChannelLeft). d.pieces ≡ []) left at of judged is.there))
near_next greatest at left (Some next) of judged near is = λ far. near (subst (IsFarAhead greatest)
    (sym (judged.head_is ∙ one_head_next left judged.at at judged.of of judged.is_next is)) far)

pub time_due : (greatest tick now : ℕ) (left : List ChannelLeft) (next : Option NextPiece) → tick ≡ now → IsNextPiece left next → LiesNear greatest next
    → TimeIsNext tick left → TimeIsDue greatest Merging now left
time_due greatest tick now left next same judged near due =
    let there = subst (λ (n : ℕ). TimeIsNext n left) same due in (
      there,
      near_next greatest there.at left next there.of judged near there.is_next,
    )

pub piece_near : (greatest tick channel : ℕ) (left new : List ChannelLeft) (next : Option NextPiece) (piece : FilePiece) → IsNextPiece left next
    → LiesNear greatest next → PieceIsNext tick left channel piece new → ¬ IsFarAhead greatest (head_of_piece piece)
piece_near greatest tick channel left new next piece judged near is = λ far. near_next greatest is.at left next is.of judged near is.is_next
    (subst (IsFarAhead greatest) (piece_head_next tick is.at channel left new is.of piece is.is_next is) far)

-- ---- a gap

-- a source fails where no gap is
pub no_gap : (greatest tick : ℕ) (left : List ChannelLeft) (next : Option NextPiece) → IsNextPiece left next → LiesNear greatest next
    → HasNoGap greatest (merge_state Merging tick left)
no_gap greatest tick left next judged near = λ stage place gap. near_next greatest gap.at left next gap.of judged near gap.is_next gap.far

pub no_gap_due : (greatest tick : ℕ) (stage : FileStage) (left : List ChannelLeft) → TimeIsDue greatest stage tick left
    → HasNoGap greatest (merge_state stage tick left)
no_gap_due greatest tick BeforeSetup left due = absurd due
no_gap_due greatest tick BeforeTime left due = λ stage place gap. cc
no_gap_due greatest tick Merging left due = λ stage place gap.
    due.1 (subst (IsFarAhead greatest) (one_head_next left gap.at due.0.at gap.of due.0.of gap.is_next due.0.is_next) gap.far)

pub pieces_fail : (facts : FileFacts) (before held : Option (List ℕ)) (sent : SentState) (merge : MergeState) → HasSent facts before held sent merge
    → HasNoGap sent.index.greatest merge → HoldsUpTo facts before held HasNoGap
pieces_fail facts before held sent merge has none = record {
  blocks = has.blocks;
  now = file_state sent.index merge;
  begins = has.begins;
  grows = has.grows;
  stands = none;
}

is_gap : (greatest tick place : ℕ) (left : List ChannelLeft) (next : Option NextPiece) → IsNextPiece left next
    → IsSomeAnd next (λ piece. IsFarAhead greatest piece.head × (piece.place ≡ place)) → IsGap greatest (merge_state Merging tick left) place
is_gap greatest tick place left None judged far = absurd far
is_gap greatest tick place left (Some next) judged far = record {
  at = judged.at;
  of = judged.of;
  is_next = judged.is_next;
  far = subst (IsFarAhead greatest) judged.head_is far.0;
  place_is = subst (StandsFirst judged.of.pieces) far.1 judged.place_is;
}

pub gap_refused : (facts : FileFacts) (before held : Option (List ℕ)) (sent : SentState) (tick place : ℕ) (left : List ChannelLeft) (next : Option NextPiece)
    → HasSent facts before held sent (merge_state Merging tick left) → IsNextPiece left next
    → IsSomeAnd next (λ piece. IsFarAhead sent.index.greatest piece.head × (piece.place ≡ place)) → IsRefused facts before held (Gap place)
gap_refused facts before held sent tick place left next has judged far = record {
  blocks = has.blocks;
  now = file_state sent.index (merge_state Merging tick left);
  begins = has.begins;
  grows = has.grows;
  stands = (refl, is_gap sent.index.greatest tick place left next judged far);
}

-- ---- what was answered

pub time_answered : {P : Type 0} (data_of : P → FilePiece) (tick time : ℕ) (old new : List ChannelLeft) (next : Option (Placed P)) → next ≡ Some (Time time)
    → Answers data_of tick old next new → TimeIsNext tick old × (new ≡ old)
time_answered data_of tick time old new next is answers =
    let places = subst (λ o. Answers data_of tick old o new) is answers in (places.1, places.2)

pub piece_answered : {P : Type 0} (data_of : P → FilePiece) (tick now channel : ℕ) (piece : P) (held : FilePiece) (old new : List ChannelLeft)
    (next : Option (Placed P)) → tick ≡ now → next ≡ Some (Piece channel piece) → data_of piece ≡ held
    → Answers data_of tick old next new → PieceIsNext now old channel held new
piece_answered data_of tick now channel piece held old new next at is same answers =
    subst (λ (n : ℕ). PieceIsNext n old channel held new) at
    (subst (λ (p : FilePiece). PieceIsNext tick old channel p new) same (subst (λ o. Answers data_of tick old o new) is answers))
