-- There is one stream: what goes out next is one packet, and behind it the stream stands in one state.
use Rattle.std.proofs.Common.{ℕ, ◌≡◌, ◌≤◌, List, [], ◌∷◌, ◌++◌, Option, None, Some, ℤ, refl, sym, subst, ap, ◌∙◌, arith, append_assoc, append-nil}
use Rattle.std.specs.Prelude.{Bool, ◌%◌}
use Rattle.ch11_clock.specs.declared.origin.Origin.{Origin}
use Rattle.ch11_clock.specs.declared.civil.CivilTime.{CivilTime}
use Rattle.ch11_clock.specs.Clock.{IsClock}
use Rattle.ch11_clock.specs.TimePoints.{IsTimePoint}
use Rattle.ch11_merge.specs.Merging.{FilePiece, part_before, part_from}
use Rattle.ch11_file.specs.FileBlocks.{BlockContent, FileBlock, blocks_on}
use Rattle.ch11_file.specs.FileBlocks.BlockContent.{SetupBlock, TimeBlock, PieceBlock, NodeBlock, RootBlock}
use Rattle.ch11_file.specs.FileTimes.{IsNextTick}
use Rattle.ch11_file.specs.WholeFile.{AreNumbered, block_channel, setup_text}
use Rattle.rec_reader.specs.Packets.{PacketData}
use Rattle.rec_pieces.specs.declared.entry.PieceKind.{PieceKind}
use Rattle.rec_pieces.specs.Entries.{packet_names}
use Rattle.rec_whole.proofs.OneFile.{one_first, one_next_tick, one_told, same_block}
use Rattle.rec_stream.specs.StreamPieces.{StreamPiece, stream_pieces, pieces_on, stream_counter}
use Rattle.rec_stream.specs.StreamBlocks.{StreamFacts, StreamState, StreamContentGoes, StreamGoesOut, IsLastDue, StreamPieceGoes, StreamSetupGoes, SetupIsDue}
use Rattle.rec_stream.specs.StreamBlocks.{StreamTimeGoes, StreamTimeIsNext, behind_piece, behind_setup, behind_time}
use Rattle.rec_stream.specs.Streams.{IsAllOut, StreamStage, NamedGoes, PacketsGo, PiecesGo, Waits}
use Rattle.rec_stream.specs.Streams.StreamStage.{Waiting, Begun}

-- ---- time packets

last_tick_one : (rules : List Origin) (least time counter : ℕ) (a b : ℤ) (tick other : ℕ) → IsLastDue rules least time counter a tick
    → IsLastDue rules least time counter b other → other ≡ tick
last_tick_one rules least time counter a b tick other p q =
    let x = p.last b other q.is_point q.due in
    let y = q.last a tick p.is_point p.due in
    omega (arith, x, y)

next_tick_one : (rules : List Origin) (state : StreamState) (time : Option ℕ) (left : List StreamPiece) (a b : ℤ) (tick other : ℕ)
    → StreamTimeIsNext rules state time left a tick → StreamTimeIsNext rules state time left b other → other ≡ tick
next_tick_one rules state None left a b tick other p q = one_first state.least rules a b tick other p q
next_tick_one rules state (Some time) [] a b tick other p q = absurd p
next_tick_one rules state (Some time) (piece ∷ left) a b tick other p q =
    last_tick_one rules state.least time (stream_counter state.greatest piece) a b tick other p q

pub next_point : (rules : List Origin) (state : StreamState) (time : Option ℕ) (left : List StreamPiece) (a : ℤ) (tick : ℕ)
    → StreamTimeIsNext rules state time left a tick → IsTimePoint state.least rules a tick
next_point rules state None left a tick p = p.is
next_point rules state (Some time) [] a tick p = absurd p
next_point rules state (Some time) (piece ∷ left) a tick p = p.is_point

-- where a piece goes out no time packet does
no_time : (facts : StreamFacts) (state : StreamState) (channel : ℕ) (piece : FilePiece) (counter : ℕ) (new : StreamState) (moment : ℤ) (tick : ℕ)
    → StreamPieceGoes facts state channel piece counter new → StreamTimeIsNext facts.rules state state.time state.left moment tick → ⊥
no_time facts state channel piece counter new moment tick goes next =
    let at : StreamTimeIsNext facts.rules state (Some goes.time) (goes.first ∷ goes.others) moment tick =
    subst (λ (o : Option ℕ). StreamTimeIsNext facts.rules state o (goes.first ∷ goes.others) moment tick) goes.time_is
    (subst (λ (l : List StreamPiece). StreamTimeIsNext facts.rules state state.time l moment tick) goes.left_is next) in
    let due = subst (λ n. tick ≤ n) (sym goes.counter_is) at.due in
    let after = goes.none_due moment tick at.is_point at.behind in
    omega (arith, due, after)

-- ---- what goes out next

record IsSame (x y : BlockContent) (b c : ℕ) (new next : StreamState) : Type 0 where
  pub content : y ≡ x
  pub counter : c ≡ b
  pub state : next ≡ new

module _ (facts : StreamFacts) (clock : IsClock facts.rules) (old new next : StreamState) where
  same_setup : (text other : List ℕ) (b c : ℕ) → StreamSetupGoes facts old text b new → StreamSetupGoes facts old other c next
      → IsSame (SetupBlock text) (SetupBlock other) b c new next
  same_setup text other b c p q =
      let counter : c ≡ b = next_tick_one facts.rules old old.time old.left p.moment q.moment b c p.ahead_of q.ahead_of in
      let tick : q.tick ≡ p.tick = one_first old.least facts.rules p.first q.first p.tick q.tick p.is_first q.is_first in
      let told : q.time ≡ p.time = one_told old.least facts.rules p.first q.first p.tick p.time q.time clock p.is_first.is
      (subst (λ n. IsTimePoint old.least facts.rules q.first n) tick q.is_first.is) p.tells q.tells in
      record {
        content = ap SetupBlock (q.text_is ∙ ap (setup_text facts.setup) told ∙ sym p.text_is);
        counter = counter;
        state = q.new_is ∙ ap (behind_setup old) counter ∙ sym p.new_is;
      }

  same_time : (e f : Bool) (time other : CivilTime) (b c : ℕ) → StreamTimeGoes facts old e time b new → StreamTimeGoes facts old f other c next
      → IsSame (TimeBlock e time) (TimeBlock f other) b c new next
  same_time e f time other b c p q =
      let counter : c ≡ b = next_tick_one facts.rules old old.time old.left p.moment q.moment b c p.is_next q.is_next in
      let told : other ≡ time = one_told old.least facts.rules p.moment q.moment b time other clock
      (next_point facts.rules old old.time old.left p.moment b p.is_next)
      (subst (λ n. IsTimePoint old.least facts.rules q.moment n) counter (next_point facts.rules old old.time old.left q.moment c q.is_next))
      p.tells q.tells in
      record {
        content = ap (λ x. TimeBlock x other) (q.source_is ∙ sym p.source_is) ∙ ap (TimeBlock e) told;
        counter = counter;
        state = q.new_is ∙ ap (behind_time old) counter ∙ sym p.new_is;
      }

  -- a setup record is due ahead of a time packet, or not
  setup_or_time : (text : List ℕ) (e : Bool) (time : CivilTime) (b c : ℕ) (x y : StreamState) → StreamSetupGoes facts old text b x
      → StreamTimeGoes facts old e time c y → ⊥
  setup_or_time text e time b c x y p q =
      q.no_setup (subst (SetupIsDue old.setup) (sym (next_tick_one facts.rules old old.time old.left p.moment q.moment b c p.ahead_of q.is_next)) p.due)

  same_piece : (channel other : ℕ) (piece its : FilePiece) (b c : ℕ) → StreamPieceGoes facts old channel piece b new
      → StreamPieceGoes facts old other its c next → IsSame (PieceBlock channel piece) (PieceBlock other its) b c new next
  same_piece channel other piece its b c p q =
      let left : q.first ∷ q.others ≡ p.first ∷ p.others = sym q.left_is ∙ p.left_is in
      let first : q.first ≡ p.first = cc in
      let others : q.others ≡ p.others = cc in
      let times : Some q.time ≡ Some p.time = sym q.time_is ∙ p.time_is in
      let time : q.time ≡ p.time = cc in
      let tick : q.next ≡ p.next = one_next_tick old.least facts.rules p.time p.next q.next p.follows
      (subst (λ n. IsNextTick old.least facts.rules n q.next) time q.follows) in
      let counter : c ≡ b = q.counter_is ∙ ap (stream_counter old.greatest) first ∙ sym p.counter_is in
      record {
        content = ap (λ k. PieceBlock k its) (q.channel_is ∙ ap (λ (s : StreamPiece). s.channel) first ∙ sym p.channel_is)
            ∙ ap (PieceBlock channel) (q.piece_is ∙ ap (λ n. part_before n q.first.piece) tick ∙ ap (λ (s : StreamPiece). part_before p.next s.piece) first
            ∙ sym p.piece_is);
        counter = counter;
        state = q.new_is ∙ ap (λ n. behind_piece old n (pieces_on q.first (part_from q.next q.first.piece) ++ q.others)) counter
            ∙ ap (λ n. behind_piece old b (pieces_on q.first (part_from n q.first.piece) ++ q.others)) tick
            ∙ ap (λ (s : StreamPiece). behind_piece old b (pieces_on s (part_from p.next s.piece) ++ q.others)) first
            ∙ ap (λ l. behind_piece old b (pieces_on p.first (part_from p.next p.first.piece) ++ l)) others ∙ sym p.new_is;
      }

  same_next : (x y : BlockContent) (b c : ℕ) → StreamContentGoes facts old x b new → StreamContentGoes facts old y c next → IsSame x y b c new next
  same_next (SetupBlock t) (SetupBlock u) b c p q = same_setup t u b c p q
  same_next (SetupBlock t) (TimeBlock e time) b c p q = absurd (setup_or_time t e time b c new next p q)
  same_next (SetupBlock t) (PieceBlock k piece) b c p q = absurd (no_time facts old k piece c next p.moment b q p.ahead_of)
  same_next (SetupBlock t) (NodeBlock es) b c p q = absurd q
  same_next (SetupBlock t) (RootBlock ns l) b c p q = absurd q
  same_next (TimeBlock e time) (SetupBlock u) b c p q = absurd (setup_or_time u e time c b next new q p)
  same_next (TimeBlock e time) (TimeBlock f other) b c p q = same_time e f time other b c p q
  same_next (TimeBlock e time) (PieceBlock k piece) b c p q = absurd (no_time facts old k piece c next p.moment b q p.is_next)
  same_next (TimeBlock e time) (NodeBlock es) b c p q = absurd q
  same_next (TimeBlock e time) (RootBlock ns l) b c p q = absurd q
  same_next (PieceBlock k piece) (SetupBlock u) b c p q = absurd (no_time facts old k piece b new q.moment c p q.ahead_of)
  same_next (PieceBlock k piece) (TimeBlock e time) b c p q = absurd (no_time facts old k piece b new q.moment c p q.is_next)
  same_next (PieceBlock k piece) (PieceBlock j its) b c p q = same_piece k j piece its b c p q
  same_next (PieceBlock k piece) (NodeBlock es) b c p q = absurd q
  same_next (PieceBlock k piece) (RootBlock ns l) b c p q = absurd q
  same_next (NodeBlock es) y b c p q = absurd p
  same_next (RootBlock ns l) y b c p q = absurd p

-- ---- where nothing goes out

over_no_time : (rules : List Origin) (state : StreamState) (moment : ℤ) (tick : ℕ) → IsAllOut state
    → StreamTimeIsNext rules state state.time state.left moment tick → ⊥
over_no_time rules state moment tick over next =
    subst (λ (l : List StreamPiece). StreamTimeIsNext rules state (Some over.time) l moment tick) over.left
    (subst (λ (o : Option ℕ). StreamTimeIsNext rules state o state.left moment tick) over.time_is next)

over_stops : (facts : StreamFacts) (state new : StreamState) (content : BlockContent) (counter : ℕ) → IsAllOut state
    → StreamContentGoes facts state content counter new → ⊥
over_stops facts state new (SetupBlock text) counter over goes = over_no_time facts.rules state goes.moment counter over goes.ahead_of
over_stops facts state new (TimeBlock e time) counter over goes = over_no_time facts.rules state goes.moment counter over goes.is_next
over_stops facts state new (PieceBlock channel piece) counter over goes =
    let none : goes.first ∷ goes.others ≡ [] = sym goes.left_is ∙ over.left in cc
over_stops facts state new (NodeBlock entries) counter over goes = goes
over_stops facts state new (RootBlock nodes last) counter over goes = goes

-- ---- all that goes out of pieces

record IsSameEnd (xs ys : List FileBlock) (end fin : StreamState) : Type 0 where
  pub blocks : ys ≡ xs
  pub state : fin ≡ end

one_out : (facts : StreamFacts) → IsClock facts.rules → (old end fin : StreamState) (ahead xs ys more less : List FileBlock) → StreamGoesOut facts old xs end
    → StreamGoesOut facts old ys fin → IsAllOut end → IsAllOut fin → AreNumbered ahead (xs ++ more) → AreNumbered ahead (ys ++ less) → IsSameEnd xs ys end fin
one_out facts clock old end fin ahead [] [] more less go its over last na nb = record { blocks = refl; state = its ∙ sym go }
one_out facts clock old end fin ahead [] (c ∷ cs) more less go its over last na nb =
    absurd (over_stops facts old its.0 c.content c.counter (subst IsAllOut go over) its.1.goes)
one_out facts clock old end fin ahead (b ∷ xs) [] more less go its over last na nb =
    absurd (over_stops facts old go.0 b.content b.counter (subst IsAllOut its last) go.1.goes)
one_out facts clock old end fin ahead (b ∷ xs) (c ∷ cs) more less go its over last na nb =
    let s = same_next facts clock old go.0 its.0 b.content c.content b.counter c.counter go.1.goes its.1.goes in
    let channel : c.channel ≡ b.channel = its.1.channel ∙ ap (block_channel facts.setup) s.content ∙ sym go.1.channel in
    let sequence : c.sequence ≡ b.sequence = nb.0 ∙ ap (λ k. blocks_on k ahead % 256) channel ∙ sym na.0 in
    let block : c ≡ b = same_block b c channel sequence s.counter s.content in
    let rest = one_out facts clock go.0 end fin (ahead ++ b ∷ []) xs cs more less go.2
    (subst (λ (x : StreamState). StreamGoesOut facts x cs fin) s.state its.2) over last na.1
    (subst (λ (d : FileBlock). AreNumbered (ahead ++ d ∷ []) (cs ++ less)) block nb.1) in
    record { blocks = ap (λ d. d ∷ cs) block ∙ ap (λ l. b ∷ l) rest.blocks; state = rest.state }

-- ---- a packet

record IsSamePacket (xs ys : List FileBlock) (new next : StreamStage) : Type 0 where
  pub blocks : ys ≡ xs
  pub stage : next ≡ new

waits_one : (old new next : StreamStage) (pieces : List StreamPiece) → Waits old pieces new → Waits old pieces next → next ≡ new
waits_one (Waiting ends) new next pieces p q = q.1 ∙ sym p.1
waits_one (Begun state) new next pieces p q = absurd p

one_pieces : (facts : StreamFacts) → IsClock facts.rules → (old new next : StreamStage) (start : Option StreamState) (pieces : List StreamPiece)
    (ahead xs ys more less : List FileBlock) → PiecesGo facts old start pieces xs new → PiecesGo facts old start pieces ys next
    → AreNumbered ahead (xs ++ more) → AreNumbered ahead (ys ++ less) → IsSamePacket xs ys new next
one_pieces facts clock old new next None pieces ahead xs ys more less p q na nb =
    record { blocks = q.0 ∙ sym p.0; stage = waits_one old new next pieces p.1 q.1 }
one_pieces facts clock old new next (Some start) pieces ahead xs ys more less (end, go, over, is) (fin, its, last, also) na nb =
    let same = one_out facts clock start end fin ahead xs ys more less go its over last na nb in
    record { blocks = same.blocks; stage = also ∙ ap Begun same.state ∙ sym is }

one_packet : (facts : StreamFacts) → IsClock facts.rules → (names : Option (ℕ × PieceKind)) (old new next : StreamStage) (packet : PacketData)
    (ahead xs ys more less : List FileBlock) → NamedGoes facts names old packet xs new → NamedGoes facts names old packet ys next
    → AreNumbered ahead (xs ++ more) → AreNumbered ahead (ys ++ less) → IsSamePacket xs ys new next
one_packet facts clock None old new next packet ahead xs ys more less p q na nb = record { blocks = q.0 ∙ sym p.0; stage = q.1 ∙ sym p.1 }
one_packet facts clock (Some (channel, kind)) old new next packet ahead xs ys more less p q na nb =
    one_pieces facts clock old new next _ (stream_pieces packet) ahead xs ys more less p.1 q.1 na nb

-- ---- packets

numbered_behind : (ahead xs ys : List FileBlock) → AreNumbered ahead (xs ++ ys) → AreNumbered (ahead ++ xs) ys
numbered_behind ahead [] ys are = subst (λ (l : List FileBlock). AreNumbered l ys) (sym (append-nil ahead)) are
numbered_behind ahead (x ∷ xs) ys are =
    subst (λ (l : List FileBlock). AreNumbered l ys) (append_assoc ahead (x ∷ []) xs) (numbered_behind (ahead ++ x ∷ []) xs ys are.1)

pub begins_all : (facts : StreamFacts) → IsClock facts.rules → (old mid last : StreamStage) (packets more : List PacketData)
    (ahead blocks others : List FileBlock) → PacketsGo facts old packets blocks mid → PacketsGo facts old (packets ++ more) others last
    → AreNumbered ahead blocks → AreNumbered ahead others → (rest : List FileBlock) × (others ≡ blocks ++ rest)
begins_all facts clock old mid last [] more ahead blocks others go its na nb = (others, ap (λ l. l ++ others) (sym go.0))
begins_all facts clock old mid last (p ∷ packets) more ahead blocks others (a, xs, behind, is, first, rest) (b, ys, after, also, second, further) na nb =
    let na2 = subst (AreNumbered ahead) is na in
    let nb2 = subst (AreNumbered ahead) also nb in
    let same = one_packet facts clock (packet_names p) old a b p ahead xs ys behind after first second na2 nb2 in
    let go_on = begins_all facts clock a mid last packets more (ahead ++ xs) behind after rest
    (subst (λ (s : StreamStage). PacketsGo facts s (packets ++ more) after last) same.stage further) (numbered_behind ahead xs behind na2)
    (subst (λ (l : List FileBlock). AreNumbered (ahead ++ l) after) same.blocks (numbered_behind ahead ys after nb2)) in (
      go_on.0,
      also ∙ ap (λ l. l ++ after) same.blocks ∙ ap (λ l. xs ++ l) go_on.1 ∙ sym (append_assoc xs behind go_on.0) ∙ ap (λ l. l ++ go_on.0) (sym is),
    )
