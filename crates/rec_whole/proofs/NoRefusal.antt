-- A file that is refused is never whole: where it is refused, nothing but packets of its index goes out next.
use Rattle.std.proofs.Common.{ℕ, ◌≡◌, ◌<◌, arith, inl, inr, List, [], ◌∷◌, ◌++◌, Option, true, false, ℤ, refl, sym, subst, ap, ◌∙◌}
use Rattle.std.specs.Prelude.{nat_lt, nat_le}
use Rattle.ch11_clock.specs.declared.civil.CivilTime.{CivilTime}
use Rattle.ch11_clock.specs.Clock.{IsClock}
use Rattle.ch11_clock.specs.CivilTime.{IsTimeOf}
use Rattle.ch11_clock.specs.TimePoints.{IsTimePoint}
use Rattle.ch11_packet.specs.FramesRead.{ReadFrameData}
use Rattle.ch11_merge.specs.Kept.{AreNamedApart}
use Rattle.ch11_merge.specs.Merging.{ChannelLeft, FilePiece, TakesPart, head_of, head_of_piece, is_due, part_before}
use Rattle.ch11_merge.specs.Merging.FilePiece.{OfFrames, OfRecord}
use Rattle.ch11_merge.proofs.Merged.{one_next}
use Rattle.ch11_file.specs.declared.end.Refusal.{Refusal}
use Rattle.ch11_file.specs.declared.end.Refusal.TheVariants.{Disorder, Gap, Origin, Year}
use Rattle.ch11_file.specs.FileBlocks.{BlockContent, FileBlock}
use Rattle.ch11_file.specs.FileBlocks.BlockContent.{SetupBlock, TimeBlock, PieceBlock, NodeBlock, RootBlock}
use Rattle.ch11_file.specs.FileEnds.{HasNoDate, HoldsUpTo, IsDisorder, IsGap, IsRefused, IsYear}
use Rattle.ch11_file.specs.WholeFile.{AreNumbered, BlockGoesNext, ContentGoesNext, FileFacts, FileState, GoOut, IsBehind, IsFarAhead, IsFileOver, IsMerged}
use Rattle.ch11_file.specs.WholeFile.{IsWholeFile, MergeState, TimeIsDue, counter_of, file_start}
use Rattle.ch11_file.specs.WholeFile.FileStage.{BeforeSetup, Merging}
use Rattle.ch11_file.proofs.FileMerges.{not_merging_setup}
use Rattle.rec_whole.specs.declared.refusal.WholeRefusal.{WholeRefusal}
use Rattle.rec_whole.specs.declared.refusal.WholeRefusal.TheVariants.{Other as NamesNone, Disorder as Behind, Gap as Ahead}
use Rattle.rec_whole.specs.declared.refusal.WholeRefusal.TheVariants.{Origin as LacksOrigin, Year as LacksYear, Full as IsFull}
use Rattle.rec_whole.specs.declared.refusal.WholeEnd.TheVariants.{Refused as IsWholeRefused}
use Rattle.rec_whole.specs.WholeRecordings.{EndsEarly}
use Rattle.rec_whole.proofs.OneFile.{IsOneIndex, apart_behind, no_piece, not_setup, one_behind, one_first, one_moment, one_piece, one_step, over_stops}
use Rattle.rec_whole.proofs.OneFile.{time_next, time_or_piece}

-- ---- where no packet goes out

-- of this something is left, but nothing that may go out next
record Stops (facts : FileFacts) (Here : (greatest : ℕ) → MergeState → Type 0) : Type 0 where
  pub left : (greatest : ℕ) (merge : MergeState) → Here greatest merge → IsMerged merge → ⊥
  pub nothing : (greatest : ℕ) (merge : MergeState) (content : BlockContent) (counter : ℕ) (new : MergeState) → AreNamedApart merge.left
      → Here greatest merge → ContentGoesNext facts greatest merge content counter new → ⊥

-- a packet of the index leaves the merge as it is
stays : (facts : FileFacts) (Here : (greatest : ℕ) → MergeState → Type 0) → Stops facts Here → (old new : FileState) (x : BlockContent) (b : FileBlock)
    → AreNamedApart old.merge.left → Here old.index.greatest old.merge → BlockGoesNext facts old x b new → Here new.index.greatest new.merge
stays facts Here stops old new (SetupBlock text) b apart here n =
    absurd (stops.nothing old.index.greatest old.merge (SetupBlock text) b.counter new.merge apart here n.goes)
stays facts Here stops old new (TimeBlock e time) b apart here n =
    absurd (stops.nothing old.index.greatest old.merge (TimeBlock e time) b.counter new.merge apart here n.goes)
stays facts Here stops old new (PieceBlock k piece) b apart here n =
    absurd (stops.nothing old.index.greatest old.merge (PieceBlock k piece) b.counter new.merge apart here n.goes)
stays facts Here stops old new (NodeBlock entries) b apart here n = subst (λ (s : FileState). Here s.index.greatest s.merge) (sym n.new_is) here
stays facts Here stops old new (RootBlock nodes last) b apart here n = subst (λ (s : FileState). Here s.index.greatest s.merge) (sym n.new_is) here

never_over : (facts : FileFacts) (Here : (greatest : ℕ) → MergeState → Type 0) → Stops facts Here → (old end : FileState) (blocks : List FileBlock)
    → AreNamedApart old.merge.left → Here old.index.greatest old.merge → GoOut facts old blocks end → IsFileOver end → ⊥
never_over facts Here stops old end [] apart here go over = stops.left old.index.greatest old.merge here (subst IsFileOver go over).merged
never_over facts Here stops old end (b ∷ blocks) apart here go over =
    never_over facts Here stops go.0 end blocks (apart_behind facts old b.content b go.0 go.1.goes apart)
    (stays facts Here stops old go.0 b.content b apart here go.1.goes) go.2 over

-- behind packets that begin the file
never_whole : (facts : FileFacts) (Here : (greatest : ℕ) → MergeState → Type 0) → IsClock facts.rules → Stops facts Here
    → (old end now : FileState) (ahead xs ys : List FileBlock) → IsOneIndex old.index → AreNamedApart old.merge.left → GoOut facts old xs end
    → GoOut facts old ys now → AreNumbered ahead xs → AreNumbered ahead ys → IsFileOver end → Here now.index.greatest now.merge → ⊥
never_whole facts Here clock stops old end now ahead xs [] one apart go its na nb over here =
    never_over facts Here stops old end xs apart (subst (λ (s : FileState). Here s.index.greatest s.merge) its here) go over
never_whole facts Here clock stops old end now ahead [] (c ∷ cs) one apart go its na nb over here =
    over_stops facts old c.content c its.0 one (subst IsFileOver go over) its.1.goes
never_whole facts Here clock stops old end now ahead (b ∷ xs) (c ∷ cs) one apart go its na nb over here =
    let same = one_step facts clock old go.0 its.0 ahead b c one apart go.1 its.1 na.0 nb.0 in
    never_whole facts Here clock stops go.0 end now (ahead ++ b ∷ []) xs cs (one_behind facts old b.content b go.0 go.1.goes one)
    (apart_behind facts old b.content b go.0 go.1.goes apart) go.2 (subst (λ (x : FileState). GoOut facts x cs now) same.1 its.2) na.1
    (subst (λ (d : FileBlock). AreNumbered (ahead ++ d ∷ []) cs) same.0 nb.1) over here

-- ---- each refusal

disorder : (facts : FileFacts) (at : ℕ) → Stops facts (λ greatest merge. (merge.stage ≡ Merging) × IsDisorder greatest merge at)
disorder facts at = record {
  left = λ greatest merge here merged. no_piece merge.left here.1.is_next.at here.1.is_next.of merged.none here.1.is_next.is_next;
  nothing = next;
}
  where
    next : (greatest : ℕ) (merge : MergeState) (content : BlockContent) (counter : ℕ) (new : MergeState) → AreNamedApart merge.left
        → (merge.stage ≡ Merging) × IsDisorder greatest merge at → ContentGoesNext facts greatest merge content counter new → ⊥
    next greatest merge (SetupBlock text) counter new apart here goes = not_merging_setup (sym goes.stage ∙ here.0)
    next greatest merge (TimeBlock e time) counter new apart here goes =
        time_or_piece merge.tick merge.left here.1.channel here.1.piece here.1.left apart
        (time_next greatest merge.stage merge.tick merge.left here.0 goes.due) here.1.is_next
    next greatest merge (PieceBlock k piece) counter new apart here goes =
        let same = one_piece merge.tick merge.left here.1.channel k here.1.piece piece here.1.left goes.left apart here.1.is_next goes.is_next in
        goes.not_behind (subst (λ n. IsBehind greatest n) (sym (goes.counter_is ∙ ap (counter_of greatest) same.1)) here.1.behind)
    next greatest merge (NodeBlock entries) counter new apart here goes = goes
    next greatest merge (RootBlock nodes last) counter new apart here goes = goes

-- what goes out of a piece ahead of a time packet begins as the piece does
same_first : (tick : ℕ) (frames : List ReadFrameData) (place : ℕ) → is_due tick (head_of_piece (OfFrames place frames)) ≡ false
    → head_of_piece (part_before tick (OfFrames place frames)) ≡ head_of_piece (OfFrames place frames)
same_first tick [] place early = refl
same_first tick (f ∷ fs) place early = rw (earlier early) refl
  where
    earlier : nat_le tick f.counter ≡ false → nat_lt f.counter tick ≡ true
    earlier is = grind (arith, is)

same_head : (tick : ℕ) (piece : FilePiece) → is_due tick (head_of_piece piece) ≡ false → head_of_piece (part_before tick piece) ≡ head_of_piece piece
same_head tick (OfFrames place frames) early = same_first tick frames place early
same_head tick (OfRecord place counter body) early = refl

taken_head : (tick : ℕ) (pieces : List FilePiece) (piece : FilePiece) (rest : List FilePiece) → TakesPart tick pieces piece rest
    → is_due tick (head_of pieces) ≡ false → head_of_piece piece ≡ head_of pieces
taken_head tick [] piece rest takes early = absurd takes
taken_head tick (p ∷ ps) piece rest takes early = ap head_of_piece takes.0 ∙ same_head tick p early

gap : (facts : FileFacts) (at : ℕ) → Stops facts (λ greatest merge. (merge.stage ≡ Merging) × IsGap greatest merge at)
gap facts at = record {
  left = λ greatest merge here merged. no_piece merge.left here.1.at here.1.of merged.none here.1.is_next;
  nothing = next;
}
  where
    next : (greatest : ℕ) (merge : MergeState) (content : BlockContent) (counter : ℕ) (new : MergeState) → AreNamedApart merge.left
        → (merge.stage ≡ Merging) × IsGap greatest merge at → ContentGoesNext facts greatest merge content counter new → ⊥
    next greatest merge (SetupBlock text) counter new apart here goes = not_merging_setup (sym goes.stage ∙ here.0)
    next greatest merge (TimeBlock e time) counter new apart here goes =
        let due = subst (λ s. TimeIsDue greatest s merge.tick merge.left) here.0 goes.due in
        let same = one_next merge.left due.0.at here.1.at due.0.of here.1.of apart due.0.is_next here.1.is_next in
        due.1 (subst (λ (c : ChannelLeft). IsFarAhead greatest (head_of c.pieces)) same.1 here.1.far)
    next greatest merge (PieceBlock k piece) counter new apart here goes =
        let its = goes.is_next in
        let same = one_next merge.left its.at here.1.at its.of here.1.of apart its.is_next here.1.is_next in
        goes.not_far (subst (IsFarAhead greatest) (sym (taken_head merge.tick its.of.pieces piece its.rest its.takes its.early))
        (subst (λ (c : ChannelLeft). IsFarAhead greatest (head_of c.pieces)) same.1 here.1.far))
    next greatest merge (NodeBlock entries) counter new apart here goes = goes
    next greatest merge (RootBlock nodes last) counter new apart here goes = goes

no_date : (facts : FileFacts) → IsClock facts.rules → (moment other : ℤ) (tick : ℕ) (time : CivilTime) → IsTimePoint facts.least facts.rules moment tick
    → IsTimePoint facts.least facts.rules other tick → HasNoDate moment → IsTimeOf time other → ⊥
no_date facts clock moment other tick time is its none tells =
    none time (subst (IsTimeOf time) (one_moment facts.least facts.rules other moment tick clock its is) tells)

year : (facts : FileFacts) → IsClock facts.rules → Stops facts (IsYear facts)
year facts clock = record { left = over; nothing = next }
  where
    over : (greatest : ℕ) (merge : MergeState) → IsYear facts greatest merge → IsMerged merge → ⊥
    over greatest merge here merged =
        let due = time_next greatest merge.stage merge.tick merge.left merged.stage here.due in
        no_piece merge.left due.at due.of merged.none due.is_next

    next : (greatest : ℕ) (merge : MergeState) (content : BlockContent) (counter : ℕ) (new : MergeState) → AreNamedApart merge.left
        → IsYear facts greatest merge → ContentGoesNext facts greatest merge content counter new → ⊥
    next greatest merge (SetupBlock text) counter new apart here goes = not_setup greatest merge.stage merge.tick merge.left goes.stage here.due
    next greatest merge (TimeBlock e time) counter new apart here goes =
        no_date facts clock here.moment goes.moment merge.tick time here.is_point goes.is_point here.no_date goes.tells
    next greatest merge (PieceBlock k piece) counter new apart here goes =
        time_or_piece merge.tick merge.left k piece goes.left apart
        (time_next greatest merge.stage merge.tick merge.left goes.stage here.due) goes.is_next
    next greatest merge (NodeBlock entries) counter new apart here goes = goes
    next greatest merge (RootBlock nodes last) counter new apart here goes = goes

-- the first time packet has no date, ahead of all packets
record IsBegun (facts : FileFacts) (greatest : ℕ) (merge : MergeState) : Type 0 where
  pub stage : merge.stage ≡ BeforeSetup
  pub moment : ℤ
  pub is_point : IsTimePoint facts.least facts.rules moment merge.tick
  pub no_date : HasNoDate moment

begun : (facts : FileFacts) → IsClock facts.rules → Stops facts (IsBegun facts)
begun facts clock = record {
  left = λ greatest merge here merged. not_merging_setup (sym here.stage ∙ merged.stage);
  nothing = next;
}
  where
    next : (greatest : ℕ) (merge : MergeState) (content : BlockContent) (counter : ℕ) (new : MergeState) → AreNamedApart merge.left
        → IsBegun facts greatest merge → ContentGoesNext facts greatest merge content counter new → ⊥
    next greatest merge (SetupBlock text) counter new apart here goes =
        no_date facts clock here.moment goes.moment merge.tick goes.time here.is_point goes.is_point here.no_date goes.tells
    next greatest merge (TimeBlock e time) counter new apart here goes = not_setup greatest merge.stage merge.tick merge.left here.stage goes.due
    next greatest merge (PieceBlock k piece) counter new apart here goes = not_merging_setup (sym here.stage ∙ goes.stage)
    next greatest merge (NodeBlock entries) counter new apart here goes = goes
    next greatest merge (RootBlock nodes last) counter new apart here goes = goes

-- ---- no refusal of a whole file

module _ (facts : FileFacts) (clock : IsClock facts.rules) (some : 0 < facts.most) (apart : AreNamedApart facts.channels) (blocks : List FileBlock)
    (whole : IsWholeFile facts blocks) (before held : Option (List ℕ)) where
  behind : (Here : (greatest : ℕ) → MergeState → Type 0) → Stops facts Here → HoldsUpTo facts before held Here → ⊥
  behind Here stops up =
      let begins = whole.1 in
      let first = one_first facts.least facts.rules begins.moment up.begins.moment begins.first up.begins.first begins.is_first up.begins.is_first in
      never_whole facts Here clock stops (file_start facts begins.first) whole.0 up.now [] blocks up.blocks (record { some = some; full = λ full. refl })
      apart begins.go (subst (λ t. GoOut facts (file_start facts t) up.blocks up.now) first up.begins.go) begins.numbered up.begins.numbered whole.2 up.stands

  pub not_refused : (refusal : Refusal) → IsRefused facts before held refusal → ⊥
  not_refused (Disorder at) is = behind (λ greatest merge. (merge.stage ≡ Merging) × IsDisorder greatest merge at) (disorder facts at) is
  not_refused (Gap at) is = behind (λ greatest merge. (merge.stage ≡ Merging) × IsGap greatest merge at) (gap facts at) is
  not_refused Origin is = is.0 whole.1.moment whole.1.first whole.1.is_first.is
  not_refused Year (inl none) =
      let begins = whole.1 in
      let first = one_first facts.least facts.rules begins.moment none.moment begins.first none.tick begins.is_first none.is_first in
      never_over facts (IsBegun facts) (begun facts clock) (file_start facts begins.first) whole.0 blocks apart
      (record {
        stage = refl;
        moment = none.moment;
        is_point = subst (IsTimePoint facts.least facts.rules none.moment) first none.is_first.is;
        no_date = none.no_date;
      }) begins.go whole.2
  not_refused Year (inr up) = behind (IsYear facts) (year facts clock) up

  pub no_refusal : (refusal : WholeRefusal) → EndsEarly facts before held (IsWholeRefused refusal) → ⊥
  no_refusal (NamesNone at) is = is
  no_refusal (Behind at) is = not_refused (Disorder at) is
  no_refusal (Ahead at) is = not_refused (Gap at) is
  no_refusal LacksOrigin is = not_refused Origin is
  no_refusal LacksYear is = not_refused Year is
  no_refusal IsFull is = is
