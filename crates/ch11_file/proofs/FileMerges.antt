-- What a reader finds in a whole file.
use Rattle.std.proofs.Common.{ℕ, ◌≡◌, ◌≢◌, ◌<◌, ◌≤◌, inl, inr, List, [], ◌∷◌, map, None, Some, refl, sym, subst, ap, ◌∙◌, arith}
use Rattle.std.specs.Prelude.{◌==◌, if◌then◌else◌, slice_get}
use Rattle.std.specs.List.{flat_map}
use Rattle.std.proofs.lemmas.Bool.{eq-eqb, eqb-true, cases_Bool}
use Rattle.ch11_clock.specs.declared.origin.Origin.{Origin}
use Rattle.ch11_index.specs.declared.index.IndexPacket.{IndexPacket}
use Rattle.ch11_index.specs.declared.index.IndexPacket.TheVariants.{Node, Root}
use Rattle.ch11_index.specs.FileIndex.{IndexState, IsIndexed, NoneFollows, GoesOut, due, due_at_end, empty_index}
use Rattle.ch11_merge.specs.Merging.{ChannelLeft, Merged, Merges, NothingLeft, IsNextAt, TimeIsNext}
use Rattle.ch11_merge.specs.Merging.Merged.{OfTime, OfPiece}
use Rattle.ch11_merge.specs.Kept.{AreNamedApart, TimesStandAhead, held_in, held_of}
use Rattle.ch11_merge.proofs.Merged.{HasNo, kept, none_else}
use Rattle.ch11_merge.proofs.TimesAhead.{times_ahead}
use Rattle.ch11_packet.proofs.ChangedLists.{all_there}
use Rattle.ch11_file.specs.FileBlocks.{FileBlock, BlockContent, item_of, item_with, merged_in, merged_with}
use Rattle.ch11_file.specs.FileBlocks.BlockContent.{SetupBlock, TimeBlock, PieceBlock, NodeBlock, RootBlock}
use Rattle.ch11_file.specs.FileTimes.{IsNextTick}
use Rattle.ch11_file.specs.WholeFile.{FileFacts, FileStage, FileState, MergeState, BlockGoesNext, GoOut, IndexIsDue, IsFileOver, IsMerged, IsWholeFile}
use Rattle.ch11_file.specs.WholeFile.{TimeIsDue, file_start}
use Rattle.ch11_file.specs.WholeFile.FileStage.{BeforeSetup, BeforeTime, Merging}

-- ---- stages

pub not_merging_setup : BeforeSetup ≢ Merging
not_merging_setup e = cc

pub not_merging_time : BeforeTime ≢ Merging
not_merging_time e = cc

-- ---- the index

nothing_next : (left : List ChannelLeft) (at : ℕ) (of : ChannelLeft) → NothingLeft left → IsNextAt left at of → ⊥
nothing_next left at of none is = is.some (all_there (λ (c : ChannelLeft). c.pieces ≡ []) left at of none is.there)

no_time_due : (greatest tick : ℕ) (stage : FileStage) (left : List ChannelLeft) → stage ≡ Merging → NothingLeft left → TimeIsDue greatest stage tick left → ⊥
no_time_due greatest tick stage left is none due =
    let next = (subst (λ (s : FileStage). TimeIsDue greatest s tick left) is due).0 in
    nothing_next left next.at next.of none next.is_next

none_follows : (facts : FileFacts) (old new : FileState) (blocks : List FileBlock) → GoOut facts old blocks new → IsMerged old.merge
    → NoneFollows (map item_of blocks)
none_follows facts old new [] go is = tt
none_follows facts old new (b ∷ blocks) go is = none_with b.content go.1.goes (none_follows facts go.0 new blocks go.2)
  where
    none_with : (content : BlockContent) → BlockGoesNext facts old content b go.0 → (IsMerged go.0.merge → NoneFollows (map item_of blocks))
        → NoneFollows (item_with content b ∷ map item_of blocks)
    none_with (SetupBlock text) n rest = absurd (not_merging_setup (sym n.goes.stage ∙ is.stage))
    none_with (TimeBlock e time) n rest = absurd (no_time_due old.index.greatest old.merge.tick old.merge.stage old.merge.left is.stage is.none n.goes.due)
    none_with (PieceBlock c piece) n rest = absurd (nothing_next old.merge.left n.goes.is_next.at n.goes.is_next.of is.none n.goes.is_next.is_next)
    none_with (NodeBlock entries) n rest = rest (subst IsMerged (sym (ap (λ (s : FileState). s.merge) n.new_is)) is)
    none_with (RootBlock nodes last) n rest = rest (subst IsMerged (sym (ap (λ (s : FileState). s.merge) n.new_is)) is)

index_due : (facts : FileFacts) (old next new : FileState) (blocks : List FileBlock) (kind : IndexPacket) → IndexIsDue kind old.index old.merge
    → GoOut facts next blocks new → next.merge ≡ old.merge → GoesOut kind old.index (map item_of blocks)
index_due facts old next new blocks kind (inl full) go same = inl full
index_due facts old next new blocks kind (inr last) go same = inr (none_follows facts next new blocks go (subst IsMerged (sym same) last.0), last.1)

pub indexed : (facts : FileFacts) (old new : FileState) (blocks : List FileBlock) → GoOut facts old blocks new → IsFileOver new
    → IsIndexed old.index (map item_of blocks)
indexed facts old new [] go over = subst (λ (s : FileState). due_at_end s.index ≡ None) go over.indexed
indexed facts old new (b ∷ blocks) go over = indexed_with b.content go.1.goes (indexed facts go.0 new blocks go.2 over)
  where
    indexed_with : (content : BlockContent) → BlockGoesNext facts old content b go.0 → IsIndexed go.0.index (map item_of blocks)
        → IsIndexed old.index (item_with content b ∷ map item_of blocks)
    indexed_with (SetupBlock text) n rest = (n.none_due, subst (λ (i : IndexState). IsIndexed i (map item_of blocks)) n.index_is rest)
    indexed_with (TimeBlock e time) n rest = (n.none_due, subst (λ (i : IndexState). IsIndexed i (map item_of blocks)) n.index_is rest)
    indexed_with (PieceBlock c piece) n rest = (n.none_due, subst (λ (i : IndexState). IsIndexed i (map item_of blocks)) n.index_is rest)
    indexed_with (NodeBlock entries) n rest = (
      index_due facts old go.0 new blocks Node n.is_due go.2 (ap (λ (s : FileState). s.merge) n.new_is),
      n.entries_are,
      subst (λ (s : FileState). IsIndexed s.index (map item_of blocks)) n.new_is rest,
    )
    indexed_with (RootBlock nodes last) n rest = (
      index_due facts old go.0 new blocks Root n.is_due go.2 (ap (λ (s : FileState). s.merge) n.new_is),
      n.nodes_are,
      n.last_is,
      subst (λ (s : FileState). IsIndexed s.index (map item_of blocks)) n.new_is rest,
    )

pub file_indexed : (facts : FileFacts) (blocks : List FileBlock) → IsWholeFile facts blocks → IsIndexed (empty_index facts.most) (map item_of blocks)
file_indexed facts blocks (end, begins, over) = indexed facts (file_start facts begins.first) end blocks begins.go over

-- ---- the merge

-- the ticks of time packets from a tick on, and a merge by them
pub record IsMergeFrom (tick : ℕ) (left : List ChannelLeft) (out : List Merged) : Type 0 where
  pub after : ℕ → ℕ
  pub rises : (time : ℕ) → time ≤ after time
  pub merges : Merges after tick left out

same_behind : (after other : ℕ → ℕ) (least tick : ℕ) (left : List ChannelLeft) (out : List Merged) → ((n : ℕ) → least ≤ n → after n ≡ other n)
    → ((n : ℕ) → n ≤ other n) → least ≤ tick → Merges other tick left out → Merges after tick left out
same_behind after other least tick left [] same rises behind m = m
same_behind after other least tick left (OfTime time ∷ out) same rises behind m = (
  m.0,
  m.1,
  subst (λ (n : ℕ). Merges after n left out) (sym (same tick behind))
      (same_behind after other least (other tick) left out same rises (omega (arith, behind, rises tick)) m.2),
)
same_behind after other least tick left (OfPiece c piece ∷ out) same rises behind m =
    (m.0, m.1, same_behind after other least tick m.0 out same rises behind m.2)

rises_with : (tick next : ℕ) (after : ℕ → ℕ) → tick < next → ((n : ℕ) → n ≤ after n) → (n : ℕ) → n ≤ (if n == tick then next else after n)
rises_with tick next after lt rises n = elim (cases_Bool (n == tick)) as (λ _. n ≤ (if n == tick then next else after n)) [
  | inl same ↦
      let e : n ≡ tick = eqb-true n tick same in
      subst (λ b. n ≤ (if b then next else after n)) (sym same) (omega (arith, e, lt))
  | inr off ↦ subst (λ b. n ≤ (if b then next else after n)) (sym off) (rises n)
]

-- a time packet ahead of a merge
time_ahead : (tick next : ℕ) (left : List ChannelLeft) (out : List Merged) → tick < next → TimeIsNext tick left → IsMergeFrom next left out
    → IsMergeFrom tick left (OfTime tick ∷ out)
time_ahead tick next left out lt is m =
    let after : ℕ → ℕ = λ n. if n == tick then next else m.after n in
    let at : after tick ≡ next = ap (λ b. if b then next else m.after tick) (eq-eqb tick tick refl) in
    let same : (n : ℕ) → next ≤ n → after n ≡ m.after n = λ n behind. elim (cases_Bool (n == tick)) as (λ _. after n ≡ m.after n) [
      | inl eq ↦ let e : n ≡ tick = eqb-true n tick eq in absurd (omega (arith, e, lt, behind))
      | inr off ↦ ap (λ b. if b then next else m.after n) off
    ] in
    record {
      after = after;
      rises = rises_with tick next m.after lt m.rises;
      merges = (
        refl,
        is,
        subst (λ (n : ℕ). Merges after n left out) (sym at) (same_behind after m.after next next left out same m.rises (omega arith) m.merges),
      );
    }

pub next_behind : (least : ℕ) (rules : List Origin) (tick next : ℕ) → IsNextTick least rules tick next → tick < next
next_behind least rules tick next (inl is) = is.behind
next_behind least rules tick next (inr none) = none.1

merged_from : (facts : FileFacts) (old new : FileState) (blocks : List FileBlock) → GoOut facts old blocks new → IsMerged new.merge
    → old.merge.stage ≡ Merging → IsMergeFrom old.merge.tick old.merge.left (merged_in blocks)
merged_from facts old new [] go over at = record {
  after = λ n. n;
  rises = λ n. omega arith;
  merges = subst (λ (s : FileState). NothingLeft s.merge.left) go over.none;
}
merged_from facts old new (b ∷ blocks) go over at = step b.content go.1.goes (merged_from facts go.0 new blocks go.2 over)
  where
    step : (content : BlockContent) → BlockGoesNext facts old content b go.0
        → (go.0.merge.stage ≡ Merging → IsMergeFrom go.0.merge.tick go.0.merge.left (merged_in blocks))
        → IsMergeFrom old.merge.tick old.merge.left (merged_with content b.counter (merged_in blocks))
    step (SetupBlock text) n rest = absurd (not_merging_setup (sym n.goes.stage ∙ at))
    step (TimeBlock e time) n rest =
        let m = subst (λ (s : MergeState). IsMergeFrom s.tick s.left (merged_in blocks)) n.goes.new_is
        (rest (ap (λ (s : MergeState). s.stage) n.goes.new_is)) in
        let due = subst (λ (s : FileStage). TimeIsDue old.index.greatest s old.merge.tick old.merge.left) at n.goes.due in
        subst (λ (t : ℕ). IsMergeFrom old.merge.tick old.merge.left (OfTime t ∷ merged_in blocks)) (sym n.goes.counter_is)
        (time_ahead old.merge.tick n.goes.next old.merge.left (merged_in blocks)
        (next_behind facts.least facts.rules old.merge.tick n.goes.next n.goes.follows) due.0 m)
    step (PieceBlock c piece) n rest =
        let m = subst (λ (s : MergeState). IsMergeFrom s.tick s.left (merged_in blocks)) n.goes.new_is
        (rest (ap (λ (s : MergeState). s.stage) n.goes.new_is)) in
        record { after = m.after; rises = m.rises; merges = (n.goes.left, n.goes.is_next, m.merges) }
    step (NodeBlock entries) n rest =
        let same : go.0.merge ≡ old.merge = ap (λ (s : FileState). s.merge) n.new_is in
        subst (λ (s : MergeState). IsMergeFrom s.tick s.left (merged_in blocks)) same (rest (ap (λ (s : MergeState). s.stage) same ∙ at))
    step (RootBlock nodes last) n rest =
        let same : go.0.merge ≡ old.merge = ap (λ (s : FileState). s.merge) n.new_is in
        subst (λ (s : MergeState). IsMergeFrom s.tick s.left (merged_in blocks)) same (rest (ap (λ (s : MergeState). s.stage) same ∙ at))

-- ahead of a merge stands the first time packet
pub record IsMergeBehind (tick : ℕ) (left : List ChannelLeft) (out : List Merged) : Type 0 where
  pub rest : List Merged
  pub next : ℕ
  pub behind : tick < next
  pub out_is : out ≡ OfTime tick ∷ rest
  pub merge : IsMergeFrom next left rest

merged_behind : (facts : FileFacts) (old new : FileState) (blocks : List FileBlock) → GoOut facts old blocks new → IsMerged new.merge
    → old.merge.stage ≢ Merging → IsMergeBehind old.merge.tick old.merge.left (merged_in blocks)
merged_behind facts old new [] go over at = absurd (at (sym (ap (λ (s : FileState). s.merge.stage) go) ∙ over.stage))
merged_behind facts old new (b ∷ blocks) go over at =
    step b.content go.1.goes (merged_behind facts go.0 new blocks go.2 over) (merged_from facts go.0 new blocks go.2 over)
  where
    step : (content : BlockContent) → BlockGoesNext facts old content b go.0
        → (go.0.merge.stage ≢ Merging → IsMergeBehind go.0.merge.tick go.0.merge.left (merged_in blocks))
        → (go.0.merge.stage ≡ Merging → IsMergeFrom go.0.merge.tick go.0.merge.left (merged_in blocks))
        → IsMergeBehind old.merge.tick old.merge.left (merged_with content b.counter (merged_in blocks))
    step (SetupBlock text) n rest from = subst (λ (s : MergeState). IsMergeBehind s.tick s.left (merged_in blocks)) n.goes.new_is
        (rest (λ e. not_merging_time (sym (ap (λ (s : MergeState). s.stage) n.goes.new_is) ∙ e)))
    step (TimeBlock e time) n rest from = record {
      rest = merged_in blocks;
      next = n.goes.next;
      behind = next_behind facts.least facts.rules old.merge.tick n.goes.next n.goes.follows;
      out_is = ap (λ (t : ℕ). OfTime t ∷ merged_in blocks) n.goes.counter_is;
      merge = subst (λ (s : MergeState). IsMergeFrom s.tick s.left (merged_in blocks)) n.goes.new_is
          (from (ap (λ (s : MergeState). s.stage) n.goes.new_is));
    }
    step (PieceBlock c piece) n rest from = absurd (at n.goes.stage)
    step (NodeBlock entries) n rest from =
        let same : go.0.merge ≡ old.merge = ap (λ (s : FileState). s.merge) n.new_is in
        subst (λ (s : MergeState). IsMergeBehind s.tick s.left (merged_in blocks)) same
        (rest (λ e. at (sym (ap (λ (s : MergeState). s.stage) same) ∙ e)))
    step (RootBlock nodes last) n rest from =
        let same : go.0.merge ≡ old.merge = ap (λ (s : FileState). s.merge) n.new_is in
        subst (λ (s : MergeState). IsMergeBehind s.tick s.left (merged_in blocks)) same
        (rest (λ e. at (sym (ap (λ (s : MergeState). s.stage) same) ∙ e)))

pub file_merged : (facts : FileFacts) (blocks : List FileBlock) (whole : IsWholeFile facts blocks)
    → IsMergeBehind whole.1.first facts.channels (merged_in blocks)
file_merged facts blocks (end, begins, over) =
    merged_behind facts (file_start facts begins.first) end blocks begins.go over.merged not_merging_setup

pub file_keeps : (facts : FileFacts) (blocks : List FileBlock) → IsWholeFile facts blocks → AreNamedApart facts.channels
    → (at : ℕ) (c : ChannelLeft) → slice_get facts.channels at ≡ Some c → held_of c.channel (merged_in blocks) ≡ flat_map held_in c.pieces
file_keeps facts blocks whole apart at c is =
    let m = file_merged facts blocks whole in
    ap (held_of c.channel) m.out_is ∙ kept m.merge.after m.next facts.channels m.rest apart m.merge.merges at c is

pub file_times_ahead : (facts : FileFacts) (blocks : List FileBlock) → IsWholeFile facts blocks → TimesStandAhead (merged_in blocks)
file_times_ahead facts blocks whole =
    let m = file_merged facts blocks whole in
    subst TimesStandAhead (sym m.out_is) (times_ahead m.merge.after m.next facts.channels m.rest m.merge.rises m.merge.merges)

pub file_has_none_else : (facts : FileFacts) (blocks : List FileBlock) → IsWholeFile facts blocks → (channel : ℕ) → HasNo channel facts.channels
    → held_of channel (merged_in blocks) ≡ []
file_has_none_else facts blocks whole channel none =
    let m = file_merged facts blocks whole in
    ap (held_of channel) m.out_is ∙ none_else m.merge.after m.next facts.channels m.rest channel none m.merge.merges
