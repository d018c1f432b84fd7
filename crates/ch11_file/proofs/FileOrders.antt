-- The order of a whole file's headers, what stands first, and what time packets tell.
use Rattle.std.proofs.Common.{ℕ, ◌+◌, ◌≡◌, ◌≢◌, ◌<◌, ◌≤◌, inl, inr, List, [], ◌∷◌, length, Some, refl, sym, subst, ap, ◌∙◌, arith, ℤ}
use Rattle.std.specs.Prelude.{false, max}
use Rattle.std.specs.List.{AllByRecursion}
use Rattle.std.proofs.lemmas.Bool.Decides.{nat_tests}
use Rattle.ch11_clock.specs.TimePoints.{AgreesWithClock, IsTimePoint}
use Rattle.ch11_index.specs.declared.entry.NodeEntry.{NodeEntry}
use Rattle.ch11_index.specs.declared.index.IndexPacket.{IndexPacket}
use Rattle.ch11_index.specs.declared.index.IndexPacket.TheVariants.{Node, Root}
use Rattle.ch11_index.specs.FileIndex.{IndexState, after_packet, due, empty_index, packet_entry}
use Rattle.ch11_merge.specs.declared.source.Head.{Head}
use Rattle.ch11_merge.specs.declared.source.Head.TheVariants.{At, Uncounted, End}
use Rattle.ch11_merge.specs.Merging.{FilePiece, head_of_piece, is_due, head_of}
use Rattle.ch11_file.specs.declared.limits.TheConstants.{MAX_TICKS_BACK}
use Rattle.ch11_file.specs.declared.kind.BlockKind.TheVariants.{Time}
use Rattle.ch11_file.specs.FileBlocks.{FileBlock, BlockContent, kind_of, named_of}
use Rattle.ch11_file.specs.FileBlocks.BlockContent.{SetupBlock, TimeBlock, PieceBlock, NodeBlock, RootBlock}
use Rattle.ch11_file.specs.FileTimes.{IsFirstTime}
use Rattle.ch11_file.specs.WholeFile.{FileFacts, FileState, MergeState, BlockGoesNext, GoOut, IndexIsDue, IsWholeFile}
use Rattle.ch11_file.specs.WholeFile.{PieceGoesNext, SetupGoesNext, counter_at, file_start, merge_state}
use Rattle.ch11_file.specs.WholeFile.FileStage.{BeforeSetup, BeforeTime, Merging}
use Rattle.ch11_file.specs.FilesRead.{BeginsWithSetup, NeverFarBehind, TellsClock, TimeStandsSecond}
use Rattle.ch11_file.proofs.NextBlocks.{taken_head}
use Rattle.ch11_file.proofs.FileMerges.{next_behind}

-- ---- order

head_early : (greatest tick : ℕ) (head : Head) → is_due tick head ≡ false → greatest ≤ tick → counter_at greatest head ≤ tick
head_early greatest tick (At counter) early most = grind (arith, nat_tests)
head_early greatest tick Uncounted early most = most
head_early greatest tick End early most = most

piece_early : (greatest counter : ℕ) (old new : MergeState) (channel : ℕ) (piece : FilePiece) → PieceGoesNext greatest old channel piece counter new
    → greatest ≤ old.tick → counter ≤ old.tick
piece_early greatest counter old new channel piece p most =
    let next = p.is_next in
    let head : head_of_piece piece ≡ head_of next.of.pieces = taken_head old.tick next.of.pieces next.rest piece next.takes next.early in
    subst (λ (n : ℕ). n ≤ old.tick) (sym p.counter_is)
    (head_early greatest old.tick (head_of_piece piece) (ap (is_due old.tick) head ∙ next.early) most)

-- no header's counter lies behind the tick of the next time packet
in_order : (facts : FileFacts) (old new : FileState) (blocks : List FileBlock) → GoOut facts old blocks new → old.index.greatest ≤ old.merge.tick
    → NeverFarBehind old.index.greatest blocks
in_order facts old new [] go most = tt
in_order facts old new (b ∷ blocks) go most = step b.content go.1.goes (in_order facts go.0 new blocks go.2)
  where
    step : (content : BlockContent) → BlockGoesNext facts old content b go.0
        → (go.0.index.greatest ≤ go.0.merge.tick → NeverFarBehind go.0.index.greatest blocks)
        → NeverFarBehind old.index.greatest (b ∷ blocks)
    step (SetupBlock text) n rest =
        let g : go.0.index.greatest ≡ max old.index.greatest b.counter = ap (λ (i : IndexState). i.greatest) n.index_is in
        let t : go.0.merge.tick ≡ old.merge.tick = ap (λ (s : MergeState). s.tick) n.goes.new_is in
        let c : b.counter ≡ old.merge.tick = n.goes.counter_is in
        (omega (arith, c, most), subst (λ m. NeverFarBehind m blocks) g (rest (omega (arith, g, t, c, most))))
    step (TimeBlock e time) n rest =
        let g : go.0.index.greatest ≡ max old.index.greatest b.counter = ap (λ (i : IndexState). i.greatest) n.index_is in
        let t : go.0.merge.tick ≡ n.goes.next = ap (λ (s : MergeState). s.tick) n.goes.new_is in
        let c : b.counter ≡ old.merge.tick = n.goes.counter_is in
        let behind : old.merge.tick < n.goes.next = next_behind facts.least facts.rules old.merge.tick n.goes.next n.goes.follows in
        (omega (arith, c, most), subst (λ m. NeverFarBehind m blocks) g (rest (omega (arith, g, t, c, most, behind))))
    step (PieceBlock channel piece) n rest =
        let g : go.0.index.greatest ≡ max old.index.greatest b.counter = ap (λ (i : IndexState). i.greatest) n.index_is in
        let t : go.0.merge.tick ≡ old.merge.tick = ap (λ (s : MergeState). s.tick) n.goes.new_is in
        let c : b.counter ≤ old.merge.tick = piece_early old.index.greatest b.counter old.merge go.0.merge channel piece n.goes most in
        let near : b.counter + MAX_TICKS_BACK < old.index.greatest → ⊥ = n.goes.not_behind in
        (omega (arith, near), subst (λ m. NeverFarBehind m blocks) g (rest (omega (arith, g, t, c, most))))
    step (NodeBlock entries) n rest =
        let g : go.0.index.greatest ≡ old.index.greatest = ap (λ (s : FileState). s.index.greatest) n.new_is in
        let t : go.0.merge.tick ≡ old.merge.tick = ap (λ (s : FileState). s.merge.tick) n.new_is in
        let c : b.counter ≡ old.index.greatest = n.counter_is in
        let m : go.0.index.greatest ≡ max old.index.greatest b.counter = omega (arith, g, c) in
        (omega (arith, c), subst (λ n. NeverFarBehind n blocks) m (rest (omega (arith, g, t, most))))
    step (RootBlock nodes last) n rest =
        let g : go.0.index.greatest ≡ old.index.greatest = ap (λ (s : FileState). s.index.greatest) n.new_is in
        let t : go.0.merge.tick ≡ old.merge.tick = ap (λ (s : FileState). s.merge.tick) n.new_is in
        let c : b.counter ≡ old.index.greatest = n.counter_is in
        let m : go.0.index.greatest ≡ max old.index.greatest b.counter = omega (arith, g, c) in
        (omega (arith, c), subst (λ n. NeverFarBehind n blocks) m (rest (omega (arith, g, t, most))))

pub file_in_order : (facts : FileFacts) (blocks : List FileBlock) → IsWholeFile facts blocks → NeverFarBehind 0 blocks
file_in_order facts blocks (end, begins, over) = in_order facts (file_start facts begins.first) end blocks begins.go (omega arith)

-- ---- times

all_tell : (facts : FileFacts) (old new : FileState) (blocks : List FileBlock)
    → ((moment : ℤ) (tick : ℕ) → IsTimePoint facts.least facts.rules moment tick → AgreesWithClock facts.rules moment tick)
    → GoOut facts old blocks new
    → AllByRecursion (λ (b : FileBlock). TellsClock facts.rules b.content b.counter) blocks
all_tell facts old new [] agrees go = tt
all_tell facts old new (b ∷ blocks) agrees go = (step b.content go.1.goes, all_tell facts go.0 new blocks agrees go.2)
  where
    step : (content : BlockContent) → BlockGoesNext facts old content b go.0 → TellsClock facts.rules content b.counter
    step (SetupBlock text) n = tt
    step (TimeBlock e time) n = (
      n.goes.moment,
      n.goes.tells,
      subst (λ (t : ℕ). AgreesWithClock facts.rules n.goes.moment t) (sym n.goes.counter_is) (agrees n.goes.moment old.merge.tick n.goes.is_point),
    )
    step (PieceBlock c piece) n = tt
    step (NodeBlock entries) n = tt
    step (RootBlock nodes last) n = tt

pub file_tells : (facts : FileFacts) (blocks : List FileBlock)
    → ((moment : ℤ) (tick : ℕ) → IsTimePoint facts.least facts.rules moment tick → AgreesWithClock facts.rules moment tick)
    → IsWholeFile facts blocks → AllByRecursion (λ (b : FileBlock). TellsClock facts.rules b.content b.counter) blocks
file_tells facts blocks agrees (end, begins, over) = all_tell facts _ end blocks agrees begins.go

-- ---- what stands first

none_full : (most : ℕ) (packet : IndexPacket) → 0 < most → due (empty_index most) ≢ Some packet
none_full most packet some = λ e. grind (arith, nat_tests)

one_full : (index : IndexState) (packet : IndexPacket) (entry : NodeEntry) → 1 < index.most → index.packets ≡ entry ∷ [] → index.nodes ≡ []
    → due index ≢ Some packet
one_full index packet entry some one none = λ e.
    let a : length index.packets ≡ 1 = ap length one in
    let b : length index.nodes ≡ 0 = ap length none in
    grind (arith, nat_tests)

stage_setup : BeforeSetup ≢ Merging
stage_setup e = cc

stage_time : BeforeTime ≢ Merging
stage_time e = cc

stage_apart : BeforeTime ≢ BeforeSetup
stage_apart e = cc

no_index_packet : (packet : IndexPacket) (index : IndexState) (merge : MergeState) → merge.stage ≢ Merging → due index ≢ Some packet
    → IndexIsDue packet index merge → ⊥
no_index_packet packet index merge early none (inl full) = none full
no_index_packet packet index merge early none (inr last) = early last.0.stage

-- the first packet is the setup record
pub record IsSetupStep (facts : FileFacts) (first : ℕ) (b : FileBlock) (next : FileState) : Type 0 where
  pub text : List ℕ
  pub content_is : b.content ≡ SetupBlock text
  pub goes : SetupGoesNext facts (merge_state BeforeSetup first facts.channels) text b.counter next.merge
  pub index_is : next.index ≡ after_packet (empty_index facts.most) (named_of b)

pub setup_step : (facts : FileFacts) (first : ℕ) (b : FileBlock) (next : FileState) (content : BlockContent) → 0 < facts.most
    → BlockGoesNext facts (file_start facts first) content b next → b.content ≡ content → IsSetupStep facts first b next
setup_step facts first b next (SetupBlock text) some n is = record { text = text; content_is = is; goes = n.goes; index_is = n.index_is }
setup_step facts first b next (TimeBlock e time) some n is = absurd n.goes.due
setup_step facts first b next (PieceBlock c piece) some n is = absurd (stage_setup n.goes.stage)
setup_step facts first b next (NodeBlock entries) some n is =
    absurd (no_index_packet Node (empty_index facts.most) (merge_state BeforeSetup first facts.channels) stage_setup (none_full facts.most Node some) n.is_due)
setup_step facts first b next (RootBlock nodes last) some n is =
    absurd (no_index_packet Root (empty_index facts.most) (merge_state BeforeSetup first facts.channels) stage_setup (none_full facts.most Root some) n.is_due)

pub begins_with_setup : (facts : FileFacts) (blocks : List FileBlock) → 0 < facts.most → IsWholeFile facts blocks → BeginsWithSetup facts blocks
begins_with_setup facts [] some (end, begins, over) =
    absurd (stage_setup (sym (ap (λ (s : FileState). s.merge.stage) begins.go) ∙ over.merged.stage))
begins_with_setup facts (b ∷ blocks) some (end, begins, over) =
    let s = setup_step facts begins.first b begins.go.0 b.content some begins.go.1.goes refl in
    record {
      setup = b;
      behind = blocks;
      whole = refl;
      time = s.goes.time;
      text = s.content_is ∙ ap SetupBlock s.goes.text_is;
      moment = s.goes.moment;
      is_first = subst (λ (t : ℕ). IsFirstTime facts.least facts.rules s.goes.moment t) (sym s.goes.counter_is)
          (record { is = s.goes.is_point; first = begins.is_first.first });
      tells = s.goes.tells;
    }

time_step : (facts : FileFacts) (first : ℕ) (b d : FileBlock) (old next : FileState) (content : BlockContent) → 1 < facts.most
    → IsSetupStep facts first b old → BlockGoesNext facts old content d next → d.content ≡ content
    → (kind_of d.content ≡ Time) × (d.counter ≡ b.counter)
time_step facts first b d old next content many s n is = step content n is
  where
    stage : old.merge.stage ≡ BeforeTime
    stage = ap (λ (m : MergeState). m.stage) s.goes.new_is

    early : old.merge.stage ≢ Merging
    early = λ e. stage_time (sym (ap (λ (m : MergeState). m.stage) s.goes.new_is) ∙ e)

    most : old.index.most ≡ facts.most
    most = ap (λ (i : IndexState). i.most) s.index_is

    none : (packet : IndexPacket) → due old.index ≢ Some packet
    none = λ packet. one_full old.index packet (packet_entry (named_of b) 0) (subst (λ (m : ℕ). 1 < m) (sym (ap (λ (i : IndexState). i.most) s.index_is)) many)
        (ap (λ (i : IndexState). i.packets) s.index_is) (ap (λ (i : IndexState). i.nodes) s.index_is)

    step : (content : BlockContent) → BlockGoesNext facts old content d next → d.content ≡ content
        → (kind_of d.content ≡ Time) × (d.counter ≡ b.counter)
    step (SetupBlock text) n is = absurd (stage_apart (sym (ap (λ (m : MergeState). m.stage) s.goes.new_is) ∙ n.goes.stage))
    step (TimeBlock e time) n is = (
      ap kind_of is,
      n.goes.counter_is ∙ ap (λ (m : MergeState). m.tick) s.goes.new_is ∙ sym s.goes.counter_is,
    )
    step (PieceBlock c piece) n is = absurd (stage_time (sym (ap (λ (m : MergeState). m.stage) s.goes.new_is) ∙ n.goes.stage))
    step (NodeBlock entries) n is = absurd (no_index_packet Node old.index old.merge early (none Node) n.is_due)
    step (RootBlock nodes last) n is = absurd (no_index_packet Root old.index old.merge early (none Root) n.is_due)

pub time_stands_second : (facts : FileFacts) (blocks : List FileBlock) → 1 < facts.most → IsWholeFile facts blocks → TimeStandsSecond blocks
time_stands_second facts [] many (end, begins, over) =
    absurd (stage_setup (sym (ap (λ (s : FileState). s.merge.stage) begins.go) ∙ over.merged.stage))
time_stands_second facts (b ∷ []) many (end, begins, over) =
    let s = setup_step facts begins.first b begins.go.0 b.content (omega arith) begins.go.1.goes refl in
    absurd (stage_time (sym (ap (λ (m : MergeState). m.stage) s.goes.new_is)
    ∙ sym (ap (λ (s : FileState). s.merge.stage) begins.go.2) ∙ over.merged.stage))
time_stands_second facts (b ∷ d ∷ blocks) many (end, begins, over) =
    let s = setup_step facts begins.first b begins.go.0 b.content (omega arith) begins.go.1.goes refl in
    let t = time_step facts begins.first b d begins.go.0 begins.go.2.0 d.content many s begins.go.2.1.goes refl in
    record {
      setup = b;
      time = d;
      behind = blocks;
      whole = refl;
      setup_is = ap kind_of s.content_is;
      time_is = t.0;
      counter = t.1;
    }
