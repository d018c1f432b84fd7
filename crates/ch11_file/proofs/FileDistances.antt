-- How far the packets of a whole file lie behind time packets, and what stands behind them.
use Rattle.std.proofs.Common.{ℕ, ◌^◌, ◌≡◌, ◌≢◌, ◌<◌, ◌≤◌, ◌⊎◌, inl, inr, List, [], ◌∷◌, Some, refl, sym, subst, ap, ◌∙◌, arith, ℤ}
use Rattle.std.specs.Prelude.{false, max, slice_get}
use Rattle.std.proofs.lemmas.Bool.Decides.{nat_tests}
use Rattle.ch11_packet.specs.FramesRead.{ReadFrameData}
use Rattle.ch11_clock.specs.TimePoints.{IsTimePoint}
use Rattle.ch11_clock.specs.TimeDistances.{IsNear, HasNoneBetween}
use Rattle.ch11_index.specs.FileIndex.{IndexState}
use Rattle.ch11_merge.specs.declared.source.Head.{Head}
use Rattle.ch11_merge.specs.declared.source.Head.TheVariants.{At, Uncounted, End}
use Rattle.ch11_merge.specs.Kept.{AreNamedApart, IsSteady, LiesBefore}
use Rattle.ch11_merge.specs.Merging.{FilePiece, ChannelLeft, head_of_piece, is_due, head_of}
use Rattle.ch11_merge.specs.Merging.FilePiece.{OfFrames, OfRecord}
use Rattle.ch11_merge.proofs.TimesAhead.{taken_lies, weaker}
use Rattle.ch11_merge.proofs.TimesBehind.{times_behind}
use Rattle.ch11_file.specs.FileBlocks.{FileBlock, BlockContent, merged_in}
use Rattle.ch11_file.specs.FileBlocks.BlockContent.{SetupBlock, TimeBlock, PieceBlock, NodeBlock, RootBlock}
use Rattle.ch11_file.specs.FileTimes.{IsNextTick}
use Rattle.ch11_file.specs.WholeFile.{FileFacts, FileState, MergeState, BlockGoesNext, GoOut, IsWholeFile, PieceGoesNext, counter_at, file_start}
use Rattle.ch11_file.specs.WholeFile.FileStage.{BeforeSetup, Merging}
use Rattle.ch11_file.specs.FilesRead.{ContentLiesNear, FramesLieNear, LieBehindFurtherTimes, LieNearTheirTimes, LieNearTimes, last_time}
use Rattle.ch11_file.proofs.NextBlocks.{taken_head}
use Rattle.ch11_file.proofs.FileMerges.{file_merged, next_behind, not_merging_setup, not_merging_time}
use Rattle.ch11_file.proofs.FileOrders.{setup_step}

-- ---- what stands behind a time packet

pub file_times_late : (facts : FileFacts) (blocks : List FileBlock) → IsWholeFile facts blocks → AreNamedApart facts.channels
    → (at : ℕ) (c : ChannelLeft) → slice_get facts.channels at ≡ Some c → IsSteady c.pieces → LieBehindFurtherTimes c.channel (merged_in blocks)
file_times_late facts blocks whole apart at c is steady =
    let m = file_merged facts blocks whole in
    subst (LieBehindFurtherTimes c.channel) (sym m.out_is) (times_behind m.merge.after m.next facts.channels m.rest apart m.merge.merges at c is steady)

-- ---- between two time packets

-- what is known of a clock
pub record ClockIsNear (facts : FileFacts) : Type 0 where
  pub near : (moment : ℤ) (tick counter : ℕ) → IsTimePoint facts.least facts.rules moment tick → counter < 2 ^ 48
      → HasNoneBetween facts.least facts.rules tick counter → IsNear facts.rules tick counter
  pub fits : (moment : ℤ) (tick : ℕ) → IsTimePoint facts.least facts.rules moment tick → tick < 2 ^ 48

below_next : (facts : FileFacts) (moment : ℤ) (tick next counter : ℕ) → ClockIsNear facts → IsTimePoint facts.least facts.rules moment tick
    → IsNextTick facts.least facts.rules tick next → counter < next → IsNear facts.rules tick counter
below_next facts moment tick next counter clock is (inl follows) lt =
    let fits = clock.fits follows.moment next follows.is in
    clock.near moment tick counter is (omega (arith, lt, fits))
    (λ other its point behind. let first = follows.first other its point behind in omega (arith, lt, first))
below_next facts moment tick next counter clock is (inr (none, behind, e)) lt =
    clock.near moment tick counter is (omega (arith, lt, e))
    (λ other its point late. let at = none other its point in absurd (omega (arith, at, late)))

-- ---- where a file stands

-- the first time packet is still to come, or another
abbrev pub IsBetween : FileFacts → FileState → (last : ℕ) → Type 0
IsBetween facts state last =
    ((state.merge.stage ≢ Merging) × (state.merge.tick ≡ last) × (state.index.greatest ≤ last))
    ⊎ ((state.merge.stage ≡ Merging) × IsNextTick facts.least facts.rules last state.merge.tick
    × (state.index.greatest < state.merge.tick))

-- behind the last time packet, or at the first
record IsBehindTime (facts : FileFacts) (state : FileState) (last : ℕ) : Type 0 where
  pub moment : ℤ
  pub is : IsTimePoint facts.least facts.rules moment last
  pub between : IsBetween facts state last

same_tick : (facts : FileFacts) (last counter : ℕ) → counter ≤ last → IsNear facts.rules last counter
same_tick facts last counter le = omega (arith, le)

greatest_near : (facts : FileFacts) (state : FileState) (last : ℕ) → ClockIsNear facts → IsBehindTime facts state last
    → IsNear facts.rules last state.index.greatest
greatest_near facts state last clock at = by_stage at.between
  where
    by_stage : IsBetween facts state last → IsNear facts.rules last state.index.greatest
    by_stage (inl early) = same_tick facts last state.index.greatest early.2
    by_stage (inr merging) = below_next facts at.moment last state.merge.tick state.index.greatest clock at.is merging.1 merging.2

-- ---- a step

record IsNearStep (facts : FileFacts) (last : ℕ) (content : BlockContent) (counter : ℕ) (new : FileState) : Type 0 where
  pub header : IsNear facts.rules (last_time last content counter) counter
  pub frames : ContentLiesNear facts.rules last content
  pub behind : IsBehindTime facts new (last_time last content counter)

head_before : (greatest tick : ℕ) (head : Head) → is_due tick head ≡ false → greatest < tick → counter_at greatest head < tick
head_before greatest tick (At counter) early most = grind (arith, nat_tests)
head_before greatest tick Uncounted early most = most
head_before greatest tick End early most = most

piece_before : (greatest counter : ℕ) (old new : MergeState) (channel : ℕ) (piece : FilePiece) → PieceGoesNext greatest old channel piece counter new
    → greatest < old.tick → counter < old.tick
piece_before greatest counter old new channel piece p most =
    let next = p.is_next in
    let head : head_of_piece piece ≡ head_of next.of.pieces = taken_head old.tick next.of.pieces next.rest piece next.takes next.early in
    subst (λ (n : ℕ). n < old.tick) (sym p.counter_is)
    (head_before greatest old.tick (head_of_piece piece) (ap (is_due old.tick) head ∙ next.early) most)

frames_near : (facts : FileFacts) (last tick : ℕ) (piece : FilePiece) → ((counter : ℕ) → counter < tick → IsNear facts.rules last counter)
    → LiesBefore piece tick → FramesLieNear facts.rules last piece
frames_near facts last tick (OfFrames place frames) near lies =
    weaker (λ (f : ReadFrameData). f.counter < tick) (λ (f : ReadFrameData). IsNear facts.rules last f.counter) (λ f lt. near f.counter lt) frames lies
frames_near facts last tick (OfRecord place counter body) near lies = tt

stage_setup : BeforeSetup ≢ Merging
stage_setup e = cc

near_step : (facts : FileFacts) (old new : FileState) (b : FileBlock) (last : ℕ) (content : BlockContent) → ClockIsNear facts
    → IsBehindTime facts old last → BlockGoesNext facts old content b new → IsNearStep facts last content b.counter new
near_step facts old new b last (SetupBlock text) clock at n = by_stage at.between
  where
    by_stage : IsBetween facts old last → IsNearStep facts last (SetupBlock text) b.counter new
    by_stage (inr merging) = absurd (not_merging_setup (sym n.goes.stage ∙ merging.0))
    by_stage (inl early) =
        let g : new.index.greatest ≡ max old.index.greatest b.counter = ap (λ (i : IndexState). i.greatest) n.index_is in
        let t : new.merge.tick ≡ old.merge.tick = ap (λ (s : MergeState). s.tick) n.goes.new_is in
        let c : b.counter ≡ old.merge.tick = n.goes.counter_is in
        let same : old.merge.tick ≡ last = early.1 in
        let most : old.index.greatest ≤ last = early.2 in
        record {
          header = same_tick facts last b.counter (omega (arith, c, same));
          frames = tt;
          behind = record {
            moment = at.moment;
            is = at.is;
            between = inl (
              (λ e. not_merging_time (sym (ap (λ (s : MergeState). s.stage) n.goes.new_is) ∙ e)),
              t ∙ same,
              omega (arith, g, c, same, most),
            );
          };
        }
near_step facts old new b last (TimeBlock is_external time) clock at n =
    let g : new.index.greatest ≡ max old.index.greatest b.counter = ap (λ (i : IndexState). i.greatest) n.index_is in
    let t : new.merge.tick ≡ n.goes.next = ap (λ (s : MergeState). s.tick) n.goes.new_is in
    let c : b.counter ≡ old.merge.tick = n.goes.counter_is in
    let later : old.merge.tick < n.goes.next = next_behind facts.least facts.rules old.merge.tick n.goes.next n.goes.follows in
    let most = not_past at.between in
    record {
      header = same_tick facts b.counter b.counter (omega arith);
      frames = tt;
      behind = record {
        moment = n.goes.moment;
        is = subst (λ (k : ℕ). IsTimePoint facts.least facts.rules n.goes.moment k) (sym c) n.goes.is_point;
        between = inr (
          ap (λ (s : MergeState). s.stage) n.goes.new_is,
          subst (λ (k : ℕ). IsNextTick facts.least facts.rules k new.merge.tick) (sym c)
              (subst (λ (k : ℕ). IsNextTick facts.least facts.rules old.merge.tick k) (sym t) n.goes.follows),
          omega (arith, g, t, c, later, most),
        );
      };
    }
  where
    not_past : IsBetween facts old last → old.index.greatest ≤ old.merge.tick
    not_past (inl early) = let same = early.1 in let most = early.2 in omega (arith, same, most)
    not_past (inr merging) = let most = merging.2 in omega (arith, most)
near_step facts old new b last (PieceBlock channel piece) clock at n = by_stage at.between
  where
    by_stage : IsBetween facts old last → IsNearStep facts last (PieceBlock channel piece) b.counter new
    by_stage (inl early) = absurd (early.0 n.goes.stage)
    by_stage (inr merging) =
        let g : new.index.greatest ≡ max old.index.greatest b.counter = ap (λ (i : IndexState). i.greatest) n.index_is in
        let t : new.merge.tick ≡ old.merge.tick = ap (λ (s : MergeState). s.tick) n.goes.new_is in
        let most : old.index.greatest < old.merge.tick = merging.2 in
        let before : b.counter < old.merge.tick = piece_before old.index.greatest b.counter old.merge new.merge channel piece n.goes most in
        let next = n.goes.is_next in
        record {
          header = below_next facts at.moment last old.merge.tick b.counter clock at.is merging.1 before;
          frames = frames_near facts last old.merge.tick piece
              (λ counter lt. below_next facts at.moment last old.merge.tick counter clock at.is merging.1 lt)
              (taken_lies old.merge.tick next.of.pieces piece next.rest next.early next.takes);
          behind = record {
            moment = at.moment;
            is = at.is;
            between = inr (
              ap (λ (s : MergeState). s.stage) n.goes.new_is,
              subst (λ (k : ℕ). IsNextTick facts.least facts.rules last k) (sym t) merging.1,
              omega (arith, g, t, most, before),
            );
          };
        }
near_step facts old new b last (NodeBlock entries) clock at n = record {
  header = subst (λ (k : ℕ). IsNear facts.rules last k) (sym n.counter_is) (greatest_near facts old last clock at);
  frames = tt;
  behind = subst (λ (s : FileState). IsBehindTime facts s last) (sym n.new_is)
      (record { moment = at.moment; is = at.is; between = at.between });
}
near_step facts old new b last (RootBlock nodes root) clock at n = record {
  header = subst (λ (k : ℕ). IsNear facts.rules last k) (sym n.counter_is) (greatest_near facts old last clock at);
  frames = tt;
  behind = subst (λ (s : FileState). IsBehindTime facts s last) (sym n.new_is)
      (record { moment = at.moment; is = at.is; between = at.between });
}

all_near : (facts : FileFacts) (old new : FileState) (last : ℕ) (blocks : List FileBlock) → ClockIsNear facts → IsBehindTime facts old last
    → GoOut facts old blocks new → LieNearTimes facts.rules last blocks
all_near facts old new last [] clock at go = tt
all_near facts old new last (b ∷ blocks) clock at go =
    let step = near_step facts old go.0 b last b.content clock at go.1.goes in
    (step.header, step.frames, all_near facts go.0 new (last_time last b.content b.counter) blocks clock step.behind go.2)

pub file_near : (facts : FileFacts) (blocks : List FileBlock) → ClockIsNear facts → 0 < facts.most → IsWholeFile facts blocks
    → LieNearTheirTimes facts.rules blocks
file_near facts [] clock some (end, begins, over) =
    absurd (stage_setup (sym (ap (λ (s : FileState). s.merge.stage) begins.go) ∙ over.merged.stage))
file_near facts (b ∷ blocks) clock some (end, begins, over) =
    let first = setup_step facts begins.first b begins.go.0 b.content some begins.go.1.goes refl in
    subst (λ (n : ℕ). LieNearTimes facts.rules n (b ∷ blocks)) (sym first.goes.counter_is)
    (all_near facts (file_start facts begins.first) end begins.first (b ∷ blocks) clock
    (record { moment = begins.moment; is = begins.is_first.is; between = inl (stage_setup, refl, omega arith) }) begins.go)
