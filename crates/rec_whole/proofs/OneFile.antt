-- There is one whole file: what goes out next is one packet, and behind it the file stands in one state.
use Rattle.std.proofs.Common.{ℕ, ◌≡◌, ◌≢◌, ◌<◌, inl, inr, List, [], ◌∷◌, ◌++◌, length, None, Some, ℤ, refl, sym, subst, ap, ◌∙◌, arith}
use Rattle.std.specs.Prelude.{Bool, true, false, ◌%◌, nat_eq, if◌then◌else◌, slice_set, pos, ◌+ℤ◌, ◌<ℤ◌, ◌≤ℤ◌}
use Rattle.std.proofs.lemmas.Bool.{both_ways}
use Rattle.std.proofs.lemmas.Bool.Decides.{nat_tests}
use Rattle.std.proofs.lemmas.Option.{none-some}
use Rattle.jiff_core.proofs.SignedLemmas.{signed_arith}
use Rattle.ch11_clock.specs.declared.origin.Origin.{Origin}
use Rattle.ch11_clock.specs.declared.civil.CivilTime.{CivilTime}
use Rattle.ch11_clock.specs.Clock.{IsClock, clock_time}
use Rattle.ch11_clock.specs.Moments.{IsLastAt, nanos_of}
use Rattle.ch11_clock.proofs.TickOrder.{one_last}
use Rattle.ch11_clock.specs.TimePoints.{IsTimePoint}
use Rattle.ch11_clock.proofs.OneCivilTime.{one_time}
use Rattle.ch11_clock.proofs.PointTimes.{point_agrees}
use Rattle.ch11_clock.specs.CivilTime.{IsTimeOf}
use Rattle.ch11_index.specs.declared.entry.NodeEntry.{NodeEntry}
use Rattle.ch11_index.specs.declared.entry.RootEntry.{RootEntry}
use Rattle.ch11_index.specs.declared.index.IndexPacket.{IndexPacket}
use Rattle.ch11_index.specs.declared.index.IndexPacket.TheVariants.{Node, Root}
use Rattle.ch11_index.specs.FileIndex.{IndexState, after_node, after_packet, after_root, due, due_at_end, left_at_end, root_at_end}
use Rattle.ch11_merge.specs.Merging.{FilePiece, ChannelLeft, IsNextAt, NothingLeft, PieceIsNext, TakesPart, TimeIsNext, channel_with, head_of, is_due}
use Rattle.ch11_merge.specs.Kept.{AreNamedApart}
use Rattle.ch11_merge.proofs.Merged.{apart_with, one_next}
use Rattle.ch11_packet.proofs.ChangedLists.{all_there}
use Rattle.ch11_file.specs.FileBlocks.{BlockContent, FileBlock, block_len, blocks_on, named_of}
use Rattle.ch11_file.specs.FileBlocks.BlockContent.{SetupBlock, TimeBlock, PieceBlock, NodeBlock, RootBlock}
use Rattle.ch11_file.specs.FileTimes.{IsFirstTime, IsNextTick}
use Rattle.ch11_file.specs.WholeFile.{FileFacts, FileStage, FileState, MergeState, AreNumbered, BlockGoesNext, GoesNext, GoOut, IndexIsDue}
use Rattle.ch11_file.specs.WholeFile.{IsFileOver, IsMerged, IsWholeFile, NamedGoesNext, PieceGoesNext, TimeIsDue, block_channel, counter_of}
use Rattle.ch11_file.specs.WholeFile.{file_start, file_state, merge_state, setup_text}
use Rattle.ch11_file.specs.WholeFile.FileStage.{BeforeSetup, Merging}
use Rattle.ch11_file.proofs.FileMerges.{not_merging_setup}

-- ---- times

last_at : (moment time : ℤ) → nanos_of moment ≤ℤ time → time <ℤ (nanos_of moment +ℤ pos 100) → IsLastAt time moment
last_at moment time reached first = record { reached = reached; last = omega (arith, signed_arith) }

pub one_moment : (least : ℕ) (rules : List Origin) (a b : ℤ) (tick : ℕ) → IsClock rules → IsTimePoint least rules a tick → IsTimePoint least rules b tick
    → a ≡ b
one_moment least rules a b tick clock p q =
    let x = point_agrees least rules a tick clock p in
    let y = point_agrees least rules b tick clock q in
    one_last (clock_time rules tick) a b (last_at a (clock_time rules tick) x.0 x.1) (last_at b (clock_time rules tick) y.0 y.1)

pub one_told : (least : ℕ) (rules : List Origin) (a b : ℤ) (tick : ℕ) (time other : CivilTime) → IsClock rules → IsTimePoint least rules a tick
    → IsTimePoint least rules b tick → IsTimeOf time a → IsTimeOf other b → other ≡ time
one_told least rules a b tick time other clock p q tells its =
    one_time other time b its (subst (IsTimeOf time) (one_moment least rules a b tick clock p q) tells)

pub one_next_tick : (least : ℕ) (rules : List Origin) (tick next other : ℕ) → IsNextTick least rules tick next
    → IsNextTick least rules tick other → other ≡ next
one_next_tick least rules tick next other (inl a) (inl b) =
    let x = a.first b.moment other b.is b.behind in
    let y = b.first a.moment next a.is a.behind in
    omega (arith, x, y)
one_next_tick least rules tick next other (inl a) (inr b) = let x = b.0 a.moment next a.is in let y = a.behind in absurd (omega (arith, x, y))
one_next_tick least rules tick next other (inr a) (inl b) = let x = a.0 b.moment other b.is in let y = b.behind in absurd (omega (arith, x, y))
one_next_tick least rules tick next other (inr a) (inr b) = b.2 ∙ sym a.2

-- ---- the index

-- a root that is full stands behind no packet that no node names yet
pub record IsOneIndex (index : IndexState) : Type 0 where
  pub some : 0 < index.most
  pub full : length index.nodes ≡ index.most → index.packets ≡ []

node_due : (index : IndexState) → IsOneIndex index → length index.packets ≡ index.most → due_at_end index ≡ Some Node
node_due index one full = here index.packets full
  where
    here : (packets : List NodeEntry) → length packets ≡ index.most → left_at_end packets index.nodes index.root ≡ Some Node
    here [] none = let some = one.some in absurd (omega (arith, none, some))
    here (p ∷ ps) is = refl

root_due : (index : IndexState) → IsOneIndex index → length index.nodes ≡ index.most → due_at_end index ≡ Some Root
root_due index one full =
    ap (λ ps. left_at_end ps index.nodes index.root) (one.full full) ∙ here index.nodes full
  where
    here : (nodes : List RootEntry) → length nodes ≡ index.most → root_at_end nodes index.root ≡ Some Root
    here [] none = let some = one.some in absurd (omega (arith, none, some))
    here (n ∷ ns) is = refl

eq_is : (a b : ℕ) → nat_eq a b ≡ true → a ≡ b
eq_is a b e = grind (arith, nat_tests)

at_end_too : (index : IndexState) (kind : IndexPacket) → IsOneIndex index → due index ≡ Some kind → due_at_end index ≡ Some kind
at_end_too index kind one is = here (nat_eq (length index.packets) index.most) refl is
  where
    there : (full : Bool) → nat_eq (length index.nodes) index.most ≡ full → (if full then Some Root else None) ≡ Some kind → due_at_end index ≡ Some kind
    there true e k = root_due index one (eq_is (length index.nodes) index.most e) ∙ k
    there false e k = absurd (none-some kind k)

    here : (full : Bool) → nat_eq (length index.packets) index.most ≡ full
        → (if full then Some Node else if nat_eq (length index.nodes) index.most then Some Root else None) ≡ Some kind → due_at_end index ≡ Some kind
    here true e k = node_due index one (eq_is (length index.packets) index.most e) ∙ k
    here false e k = there (nat_eq (length index.nodes) index.most) refl k

index_at_end : (kind : IndexPacket) (index : IndexState) (merge : MergeState) → IsOneIndex index → IndexIsDue kind index merge → due_at_end index ≡ Some kind
index_at_end kind index merge one (inl full) = at_end_too index kind one full
index_at_end kind index merge one (inr last) = last.1

no_both : (index : IndexState) (merge : MergeState) → IsOneIndex index → IndexIsDue Node index merge → IndexIsDue Root index merge → ⊥
no_both index merge one a b =
    let same : Some Node ≡ Some Root = sym (index_at_end Node index merge one a) ∙ index_at_end Root index merge one b in
    cc

not_full : (index : IndexState) → IsOneIndex index → due index ≡ None → length index.nodes ≢ index.most
not_full index one none full =
    let empty : length index.packets ≡ 0 = ap length (one.full full) in
    let some = one.some in
    grind (arith, nat_tests)

one_after_packet : (index new : IndexState) (b : FileBlock) → IsOneIndex index → due index ≡ None → new ≡ after_packet index (named_of b) → IsOneIndex new
one_after_packet index new b one none is =
    subst IsOneIndex (sym is) (record { some = one.some; full = λ full. absurd (not_full index one none full) })

one_after_node : (index : IndexState) (len : ℕ) → IsOneIndex index → IsOneIndex (after_node index len)
one_after_node index len one = record { some = one.some; full = λ full. refl }

one_after_root : (index : IndexState) (len : ℕ) → IsOneIndex index → IsOneIndex (after_root index len)
one_after_root index len one = record { some = one.some; full = λ full. let some = one.some in absurd (omega (arith, full, some)) }

-- ---- pieces

one_part : (tick : ℕ) (old : List FilePiece) (a b : FilePiece) (r s : List FilePiece) → TakesPart tick old a r → TakesPart tick old b s → (b ≡ a) × (s ≡ r)
one_part tick [] a b r s p q = absurd p
one_part tick (o ∷ os) a b r s p q = (q.0 ∙ sym p.0, q.1 ∙ sym p.1)

pub one_piece : (tick : ℕ) (left : List ChannelLeft) (channel other : ℕ) (piece its : FilePiece) (new next : List ChannelLeft) → AreNamedApart left
    → PieceIsNext tick left channel piece new → PieceIsNext tick left other its next → (other ≡ channel) × (its ≡ piece) × (next ≡ new)
one_piece tick left channel other piece its new next apart p q =
    let same = one_next left p.at q.at p.of q.of apart p.is_next q.is_next in
    let id : other ≡ channel = sym q.named ∙ ap (λ (c : ChannelLeft). c.channel) same.1 ∙ p.named in
    let part = one_part tick p.of.pieces piece its p.rest q.rest p.takes
    (subst (λ (c : ChannelLeft). TakesPart tick c.pieces its q.rest) same.1 q.takes) in (
      id,
      part.0,
      q.others
          ∙ ap (λ k. slice_set left k (channel_with other q.rest)) (sym same.0)
          ∙ ap (λ n. slice_set left p.at (channel_with n q.rest)) id
          ∙ ap (λ l. slice_set left p.at (channel_with channel l)) part.1
          ∙ sym p.others,
    )

pub no_piece : (left : List ChannelLeft) (at : ℕ) (c : ChannelLeft) → NothingLeft left → IsNextAt left at c → ⊥
no_piece left at c none is = is.some (all_there (λ (d : ChannelLeft). d.pieces ≡ []) left at c none is.there)

pub time_or_piece : (tick : ℕ) (left : List ChannelLeft) (channel : ℕ) (piece : FilePiece) (new : List ChannelLeft) → AreNamedApart left
    → TimeIsNext tick left → PieceIsNext tick left channel piece new → ⊥
time_or_piece tick left channel piece new apart t p =
    let same = one_next left t.at p.at t.of p.of apart t.is_next p.is_next in
    both_ways (is_due tick (head_of t.of.pieces)) (subst (λ (c : ChannelLeft). is_due tick (head_of c.pieces) ≡ false) same.1 p.early) t.due

pub time_next : (greatest : ℕ) (stage : FileStage) (tick : ℕ) (left : List ChannelLeft) → stage ≡ Merging → TimeIsDue greatest stage tick left
    → TimeIsNext tick left
time_next greatest stage tick left is due = (subst (λ (s : FileStage). TimeIsDue greatest s tick left) is due).0

pub not_setup : (greatest : ℕ) (stage : FileStage) (tick : ℕ) (left : List ChannelLeft) → stage ≡ BeforeSetup → TimeIsDue greatest stage tick left → ⊥
not_setup greatest stage tick left is due = subst (λ (s : FileStage). TimeIsDue greatest s tick left) is due

-- ---- what goes out next

-- two packets that may go out hold the same, and leave the same of the merge
record IsSameNext (x y : BlockContent) (b c : FileBlock) (new next : FileState) : Type 0 where
  pub content : y ≡ x
  pub counter : c.counter ≡ b.counter
  pub merge : next.merge ≡ new.merge

not_merged : (facts : FileFacts) (old : FileState) (content : BlockContent) (b : FileBlock) (new : FileState)
    → NamedGoesNext facts old content b new → IsMerged old.merge → ⊥
not_merged facts old (SetupBlock text) b new n merged = not_merging_setup (sym n.goes.stage ∙ merged.stage)
not_merged facts old (TimeBlock e time) b new n merged =
    let next = time_next old.index.greatest old.merge.stage old.merge.tick old.merge.left merged.stage n.goes.due in
    no_piece old.merge.left next.at next.of merged.none next.is_next
not_merged facts old (PieceBlock channel piece) b new n merged =
    no_piece old.merge.left n.goes.is_next.at n.goes.is_next.of merged.none n.goes.is_next.is_next
not_merged facts old (NodeBlock entries) b new n merged = n.goes
not_merged facts old (RootBlock nodes last) b new n merged = n.goes

named_or_index : (facts : FileFacts) (old : FileState) (content : BlockContent) (b : FileBlock) (new : FileState) (kind : IndexPacket)
    → NamedGoesNext facts old content b new → IndexIsDue kind old.index old.merge → ⊥
named_or_index facts old content b new kind n (inl full) = none-some kind (sym n.none_due ∙ full)
named_or_index facts old content b new kind n (inr last) = not_merged facts old content b new n last.0

module _ (facts : FileFacts) (clock : IsClock facts.rules) (old : FileState) (one : IsOneIndex old.index) (apart : AreNamedApart old.merge.left)
    (b c : FileBlock) (new next : FileState) where
  setup_time : (text : List ℕ) (e : Bool) (time : CivilTime) → BlockGoesNext facts old (SetupBlock text) b new
      → BlockGoesNext facts old (TimeBlock e time) c next → ⊥
  setup_time text e time n m = not_setup old.index.greatest old.merge.stage old.merge.tick old.merge.left n.goes.stage m.goes.due

  same_setup : (text other : List ℕ) → BlockGoesNext facts old (SetupBlock text) b new → BlockGoesNext facts old (SetupBlock other) c next
      → IsSameNext (SetupBlock text) (SetupBlock other) b c new next
  same_setup text other n m =
      let s = n.goes in
      let r = m.goes in
      let told : r.time ≡ s.time =
      one_told facts.least facts.rules s.moment r.moment old.merge.tick s.time r.time clock s.is_point r.is_point s.tells r.tells in
      record {
        content = ap SetupBlock (r.text_is ∙ ap (setup_text facts.setup) told ∙ sym s.text_is);
        counter = r.counter_is ∙ sym s.counter_is;
        merge = r.new_is ∙ sym s.new_is;
      }

  same_time : (e f : Bool) (time other : CivilTime) → BlockGoesNext facts old (TimeBlock e time) b new → BlockGoesNext facts old (TimeBlock f other) c next
      → IsSameNext (TimeBlock e time) (TimeBlock f other) b c new next
  same_time e f time other n m =
      let s = n.goes in
      let r = m.goes in
      let told : other ≡ time =
      one_told facts.least facts.rules s.moment r.moment old.merge.tick time other clock s.is_point r.is_point s.tells r.tells in
      record {
        content = ap (λ x. TimeBlock x other) (r.source_is ∙ sym s.source_is) ∙ ap (TimeBlock e) told;
        counter = r.counter_is ∙ sym s.counter_is;
        merge = r.new_is ∙ ap (λ t. merge_state Merging t old.merge.left)
            (one_next_tick facts.least facts.rules old.merge.tick s.next r.next s.follows r.follows) ∙ sym s.new_is;
      }

  same_piece : (channel other : ℕ) (piece its : FilePiece) → BlockGoesNext facts old (PieceBlock channel piece) b new
      → BlockGoesNext facts old (PieceBlock other its) c next → IsSameNext (PieceBlock channel piece) (PieceBlock other its) b c new next
  same_piece channel other piece its n m =
      let s = n.goes in
      let r = m.goes in
      let same = one_piece old.merge.tick old.merge.left channel other piece its s.left r.left apart s.is_next r.is_next in
      record {
        content = ap (λ k. PieceBlock k its) same.0 ∙ ap (PieceBlock channel) same.1;
        counter = r.counter_is ∙ ap (counter_of old.index.greatest) same.1 ∙ sym s.counter_is;
        merge = r.new_is ∙ ap (merge_state Merging old.merge.tick) same.2 ∙ sym s.new_is;
      }

  time_piece : (e : Bool) (time : CivilTime) (channel : ℕ) (piece : FilePiece) (greatest : ℕ) (left : List ChannelLeft) (counter : ℕ) (now : MergeState)
      → TimeIsDue greatest old.merge.stage old.merge.tick old.merge.left → PieceGoesNext greatest old.merge channel piece counter now → ⊥
  time_piece e time channel piece greatest left counter now due r =
      time_or_piece old.merge.tick old.merge.left channel piece r.left apart
      (time_next greatest old.merge.stage old.merge.tick old.merge.left r.stage due) r.is_next

  same_next : (x y : BlockContent) → BlockGoesNext facts old x b new → BlockGoesNext facts old y c next → IsSameNext x y b c new next
  same_next (SetupBlock t) (SetupBlock u) n m = same_setup t u n m
  same_next (SetupBlock t) (TimeBlock e time) n m = absurd (setup_time t e time n m)
  same_next (SetupBlock t) (PieceBlock k p) n m = absurd (not_merging_setup (sym n.goes.stage ∙ m.goes.stage))
  same_next (SetupBlock t) (NodeBlock es) n m = absurd (named_or_index facts old (SetupBlock t) b new Node n m.is_due)
  same_next (SetupBlock t) (RootBlock ns l) n m = absurd (named_or_index facts old (SetupBlock t) b new Root n m.is_due)
  same_next (TimeBlock e time) (SetupBlock u) n m =
      absurd (not_setup old.index.greatest old.merge.stage old.merge.tick old.merge.left m.goes.stage n.goes.due)
  same_next (TimeBlock e time) (TimeBlock f other) n m = same_time e f time other n m
  same_next (TimeBlock e time) (PieceBlock k p) n m =
      absurd (time_piece e time k p old.index.greatest old.merge.left c.counter next.merge n.goes.due m.goes)
  same_next (TimeBlock e time) (NodeBlock es) n m = absurd (named_or_index facts old (TimeBlock e time) b new Node n m.is_due)
  same_next (TimeBlock e time) (RootBlock ns l) n m = absurd (named_or_index facts old (TimeBlock e time) b new Root n m.is_due)
  same_next (PieceBlock k p) (SetupBlock u) n m = absurd (not_merging_setup (sym m.goes.stage ∙ n.goes.stage))
  same_next (PieceBlock k p) (TimeBlock e time) n m =
      absurd (time_piece e time k p old.index.greatest old.merge.left b.counter new.merge m.goes.due n.goes)
  same_next (PieceBlock k p) (PieceBlock j q) n m = same_piece k j p q n m
  same_next (PieceBlock k p) (NodeBlock es) n m = absurd (named_or_index facts old (PieceBlock k p) b new Node n m.is_due)
  same_next (PieceBlock k p) (RootBlock ns l) n m = absurd (named_or_index facts old (PieceBlock k p) b new Root n m.is_due)
  same_next (NodeBlock es) (SetupBlock u) n m = absurd (named_or_index facts old (SetupBlock u) c next Node m n.is_due)
  same_next (NodeBlock es) (TimeBlock e time) n m = absurd (named_or_index facts old (TimeBlock e time) c next Node m n.is_due)
  same_next (NodeBlock es) (PieceBlock k p) n m = absurd (named_or_index facts old (PieceBlock k p) c next Node m n.is_due)
  same_next (NodeBlock es) (NodeBlock fs) n m = record {
    content = ap NodeBlock (m.entries_are ∙ sym n.entries_are);
    counter = m.counter_is ∙ sym n.counter_is;
    merge = ap (λ (s : FileState). s.merge) m.new_is ∙ sym (ap (λ (s : FileState). s.merge) n.new_is);
  }
  same_next (NodeBlock es) (RootBlock ns l) n m = absurd (no_both old.index old.merge one n.is_due m.is_due)
  same_next (RootBlock ns l) (SetupBlock u) n m = absurd (named_or_index facts old (SetupBlock u) c next Root m n.is_due)
  same_next (RootBlock ns l) (TimeBlock e time) n m = absurd (named_or_index facts old (TimeBlock e time) c next Root m n.is_due)
  same_next (RootBlock ns l) (PieceBlock k p) n m = absurd (named_or_index facts old (PieceBlock k p) c next Root m n.is_due)
  same_next (RootBlock ns l) (NodeBlock es) n m = absurd (no_both old.index old.merge one m.is_due n.is_due)
  same_next (RootBlock ns l) (RootBlock ms k) n m = record {
    content = ap (λ x. RootBlock x k) (m.nodes_are ∙ sym n.nodes_are) ∙ ap (RootBlock ns) (m.last_is ∙ sym n.last_is);
    counter = m.counter_is ∙ sym n.counter_is;
    merge = ap (λ (s : FileState). s.merge) m.new_is ∙ sym (ap (λ (s : FileState). s.merge) n.new_is);
  }

-- ---- the state behind it

same_index : (facts : FileFacts) (old : FileState) (x : BlockContent) (b : FileBlock) (new next : FileState) → BlockGoesNext facts old x b new
    → BlockGoesNext facts old x b next → next.index ≡ new.index
same_index facts old (SetupBlock t) b new next n m = m.index_is ∙ sym n.index_is
same_index facts old (TimeBlock e time) b new next n m = m.index_is ∙ sym n.index_is
same_index facts old (PieceBlock k p) b new next n m = m.index_is ∙ sym n.index_is
same_index facts old (NodeBlock es) b new next n m = ap (λ (s : FileState). s.index) m.new_is ∙ sym (ap (λ (s : FileState). s.index) n.new_is)
same_index facts old (RootBlock ns l) b new next n m = ap (λ (s : FileState). s.index) m.new_is ∙ sym (ap (λ (s : FileState). s.index) n.new_is)

pub one_behind : (facts : FileFacts) (old : FileState) (x : BlockContent) (b : FileBlock) (new : FileState) → BlockGoesNext facts old x b new
    → IsOneIndex old.index → IsOneIndex new.index
one_behind facts old (SetupBlock t) b new n one = one_after_packet old.index new.index b one n.none_due n.index_is
one_behind facts old (TimeBlock e time) b new n one = one_after_packet old.index new.index b one n.none_due n.index_is
one_behind facts old (PieceBlock k p) b new n one = one_after_packet old.index new.index b one n.none_due n.index_is
one_behind facts old (NodeBlock es) b new n one =
    subst (λ (s : FileState). IsOneIndex s.index) (sym n.new_is) (one_after_node old.index (block_len b) one)
one_behind facts old (RootBlock ns l) b new n one =
    subst (λ (s : FileState). IsOneIndex s.index) (sym n.new_is) (one_after_root old.index (block_len b) one)

pub apart_behind : (facts : FileFacts) (old : FileState) (x : BlockContent) (b : FileBlock) (new : FileState) → BlockGoesNext facts old x b new
    → AreNamedApart old.merge.left → AreNamedApart new.merge.left
apart_behind facts old (SetupBlock t) b new n apart = subst (λ (s : MergeState). AreNamedApart s.left) (sym n.goes.new_is) apart
apart_behind facts old (TimeBlock e time) b new n apart = subst (λ (s : MergeState). AreNamedApart s.left) (sym n.goes.new_is) apart
apart_behind facts old (PieceBlock k p) b new n apart =
    let s = n.goes.is_next in
    subst (λ (m : MergeState). AreNamedApart m.left) (sym n.goes.new_is)
    (subst AreNamedApart (sym s.others) (apart_with old.merge.left s.at k s.of s.rest apart s.is_next.there s.named))
apart_behind facts old (NodeBlock es) b new n apart = subst (λ (s : FileState). AreNamedApart s.merge.left) (sym n.new_is) apart
apart_behind facts old (RootBlock ns l) b new n apart = subst (λ (s : FileState). AreNamedApart s.merge.left) (sym n.new_is) apart

made_block : (channel sequence counter : ℕ) → BlockContent → FileBlock
made_block channel sequence counter content = record { channel = channel; sequence = sequence; counter = counter; content = content }

pub same_block : (b c : FileBlock) → c.channel ≡ b.channel → c.sequence ≡ b.sequence → c.counter ≡ b.counter → c.content ≡ b.content → c ≡ b
unfolding made_block
same_block b c k s n x =
    ap (λ v. made_block v c.sequence c.counter c.content) k ∙ ap (λ v. made_block b.channel v c.counter c.content) s
    ∙ ap (λ v. made_block b.channel b.sequence v c.content) n ∙ ap (made_block b.channel b.sequence b.counter) x

same_state : (old new : FileState) → new.index ≡ old.index → new.merge ≡ old.merge → new ≡ old
same_state old new i m = ap (λ x. file_state x new.merge) i ∙ ap (file_state old.index) m

-- ---- where nothing goes out

pub over_stops : (facts : FileFacts) (old : FileState) (x : BlockContent) (b : FileBlock) (new : FileState) → IsOneIndex old.index → IsFileOver old
    → BlockGoesNext facts old x b new → ⊥
over_stops facts old (SetupBlock t) b new one over n = not_merged facts old (SetupBlock t) b new n over.merged
over_stops facts old (TimeBlock e time) b new one over n = not_merged facts old (TimeBlock e time) b new n over.merged
over_stops facts old (PieceBlock k p) b new one over n = not_merged facts old (PieceBlock k p) b new n over.merged
over_stops facts old (NodeBlock es) b new one over n = none-some Node (sym over.indexed ∙ index_at_end Node old.index old.merge one n.is_due)
over_stops facts old (RootBlock ns l) b new one over n = none-some Root (sym over.indexed ∙ index_at_end Root old.index old.merge one n.is_due)

-- ---- all packets

pub one_step : (facts : FileFacts) → IsClock facts.rules → (old new next : FileState) (ahead : List FileBlock) (b c : FileBlock) → IsOneIndex old.index
    → AreNamedApart old.merge.left → GoesNext facts old b new → GoesNext facts old c next → b.sequence ≡ blocks_on b.channel ahead % 256
    → c.sequence ≡ blocks_on c.channel ahead % 256 → (c ≡ b) × (next ≡ new)
one_step facts clock old new next ahead b c one apart go its na nb =
    let s = same_next facts clock old one apart b c new next b.content c.content go.goes its.goes in
    let channel : c.channel ≡ b.channel = its.channel ∙ ap (block_channel facts.setup) s.content ∙ sym go.channel in
    let sequence : c.sequence ≡ b.sequence = nb ∙ ap (λ k. blocks_on k ahead % 256) channel ∙ sym na in
    let block : c ≡ b = same_block b c channel sequence s.counter s.content in
    let index = same_index facts old b.content b new next go.goes
    (subst (λ (d : FileBlock). BlockGoesNext facts old d.content d next) block its.goes) in
    (block, same_state new next index s.merge)

one_out : (facts : FileFacts) → IsClock facts.rules → (old end fin : FileState) (ahead xs ys : List FileBlock) → IsOneIndex old.index
    → AreNamedApart old.merge.left → GoOut facts old xs end → GoOut facts old ys fin → AreNumbered ahead xs → AreNumbered ahead ys
    → IsFileOver end → IsFileOver fin → ys ≡ xs
one_out facts clock old end fin ahead [] [] one apart go its na nb over last = refl
one_out facts clock old end fin ahead [] (c ∷ cs) one apart go its na nb over last =
    absurd (over_stops facts old c.content c its.0 one (subst IsFileOver go over) its.1.goes)
one_out facts clock old end fin ahead (b ∷ xs) [] one apart go its na nb over last =
    absurd (over_stops facts old b.content b go.0 one (subst IsFileOver its last) go.1.goes)
one_out facts clock old end fin ahead (b ∷ xs) (c ∷ cs) one apart go its na nb over last =
    let same = one_step facts clock old go.0 its.0 ahead b c one apart go.1 its.1 na.0 nb.0 in
    let rest = one_out facts clock go.0 end fin (ahead ++ b ∷ []) xs cs (one_behind facts old b.content b go.0 go.1.goes one)
    (apart_behind facts old b.content b go.0 go.1.goes apart) go.2 (subst (λ (x : FileState). GoOut facts x cs fin) same.1 its.2) na.1
    (subst (λ (d : FileBlock). AreNumbered (ahead ++ d ∷ []) cs) same.0 nb.1) over last in
    ap (λ d. d ∷ cs) same.0 ∙ ap (λ l. b ∷ l) rest

pub one_first : (least : ℕ) (rules : List Origin) (a b : ℤ) (tick other : ℕ) → IsFirstTime least rules a tick → IsFirstTime least rules b other → other ≡ tick
one_first least rules a b tick other p q = let x = p.first b other q.is in let y = q.first a tick p.is in omega (arith, x, y)

pub one_file : (facts : FileFacts) (blocks others : List FileBlock) → IsClock facts.rules → 0 < facts.most → AreNamedApart facts.channels
    → IsWholeFile facts blocks → IsWholeFile facts others → others ≡ blocks
one_file facts blocks others clock some apart (end, begins, over) (fin, its, last) =
    let first = one_first facts.least facts.rules begins.moment its.moment begins.first its.first begins.is_first its.is_first in
    one_out facts clock (file_start facts begins.first) end fin [] blocks others (record { some = some; full = λ full. refl }) apart begins.go
    (subst (λ (t : ℕ). GoOut facts (file_start facts t) others fin) first its.go) begins.numbered its.numbered over last
