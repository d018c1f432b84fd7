-- No piece of a stream is late where no counter lies far behind one ahead of it.
use Rattle.std.proofs.Common.{ℕ, ◌+◌, ◌≡◌, ◌≤◌, List, [], ◌∷◌, ◌++◌, map, max, Option, None, Some, refl, sym, subst, ap, ◌∙◌, arith, append-nil}
use Rattle.std.specs.Prelude.{Bool, true, false, ℤ, if◌then◌else◌, IfSome}
use Rattle.std.specs.List.{AllByRecursion, flat_map}
use Rattle.std.proofs.Math.Nat.{le-max_left, max-le}
use Rattle.std.proofs.lemmas.Bool.{le-ltb}
use Rattle.std.proofs.lemmas.List.{append_assoc}
use Rattle.std.proofs.lemmas.Grind.{flat_map-append}
use Rattle.ch11_packet.specs.FramesRead.{ReadFrameData}
use Rattle.ch11_packet.specs.Classes.{data_in, said_frames}
use Rattle.ch11_merge.specs.declared.source.Head.{Head}
use Rattle.ch11_merge.specs.declared.source.Head.TheVariants.{At, Uncounted, End as NoPiece}
use Rattle.ch11_merge.specs.Merging.{FilePiece, head_of_piece, part_before, part_from}
use Rattle.ch11_merge.specs.Merging.FilePiece.{OfFrames, OfRecord}
use Rattle.ch11_merge.specs.Kept.{Held, held_in}
use Rattle.ch11_merge.specs.Kept.Held.{HeldFrame, HeldRecord}
use Rattle.ch11_file.specs.declared.limits.TheConstants.{MAX_TICKS_BACK}
use Rattle.ch11_file.specs.FileBlocks.{BlockContent, FileBlock}
use Rattle.ch11_file.specs.FileBlocks.BlockContent.{SetupBlock, TimeBlock, PieceBlock, NodeBlock, RootBlock}
use Rattle.ch11_file.specs.FileTimes.{IsFirstTime}
use Rattle.rec_reader.specs.Packets.{PacketData}
use Rattle.rec_pieces.specs.declared.entry.PieceKind.{PieceKind}
use Rattle.rec_pieces.specs.declared.entry.PieceKind.TheVariants.{Frames, Record, Uncounted as NoCounter}
use Rattle.rec_pieces.specs.Entries.{packet_names, pieces_of}
use Rattle.rec_pieces.specs.Listings.{counters_in, counters_of, frame_counter, least_of, packet_counters}
use Rattle.rec_whole.proofs.FilesReadBack.{held_pieces}
use Rattle.rec_stream.specs.LatePieces.{LiesASecondBackAtMost, NeverFarBack, late_one}
use Rattle.rec_stream.specs.StreamPieces.{StreamPiece, head_counter, is_end, pieces_naming, pieces_on, stream_counter, stream_piece, stream_pieces}
use Rattle.rec_stream.specs.StreamBlocks.{StreamFacts, StreamState, StreamContentGoes, StreamGoesOut, StreamTimeIsNext, stream_begun}
use Rattle.rec_stream.specs.Streams.{StreamStage, AreStream, NamedGoes, PacketsGo, PiecesGo, begun_by, first_least, first_some, late_behind, late_of}
use Rattle.rec_stream.specs.Streams.StreamStage.{Waiting, Begun}
use Rattle.rec_stream.specs.Sending.{greatest_of}
use Rattle.rec_stream.proofs.StreamKeeps.{lesser_some, part_held}

-- ---- counters that are still to come

abbrev held_counter : Held → List ℕ
held_counter (HeldFrame frame) = frame.counter ∷ []
held_counter (HeldRecord (Some counter) body) = counter ∷ []
held_counter (HeldRecord None body) = []

abbrev piece_counters : FilePiece → List ℕ
piece_counters piece = flat_map held_counter (held_in piece)

abbrev left_counters : List StreamPiece → List ℕ
left_counters [] = []
left_counters (p ∷ ps) = piece_counters p.piece ++ left_counters ps

left_append : (xs ys : List StreamPiece) → left_counters (xs ++ ys) ≡ left_counters xs ++ left_counters ys
left_append [] ys = refl
left_append (x ∷ xs) ys =
    ap (λ l. piece_counters x.piece ++ l) (left_append xs ys) ∙ sym (append_assoc (piece_counters x.piece) (left_counters xs) (left_counters ys))

left_map : (own : ℕ) (end : Bool) (pieces : List FilePiece)
    → left_counters (map (stream_piece own end) pieces) ≡ flat_map held_counter (flat_map held_in pieces)
left_map own end [] = refl
left_map own end (p ∷ ps) =
    ap (λ l. piece_counters p ++ l) (left_map own end ps) ∙ sym (flat_map-append held_counter (held_in p) (flat_map held_in ps))

-- what goes out of a piece, and what stays
part_counters : (tick : ℕ) (first : StreamPiece)
    → piece_counters (part_before tick first.piece) ++ left_counters (pieces_on first (part_from tick first.piece)) ≡ piece_counters first.piece
part_counters tick first =
    ap (λ l. piece_counters (part_before tick first.piece) ++ l) (left_map first.channel first.is_end (part_from tick first.piece))
    ∙ sym (flat_map-append held_counter (held_in (part_before tick first.piece)) (flat_map held_in (part_from tick first.piece)))
    ∙ ap (flat_map held_counter) (part_held tick first.piece)

frame_counters : (frames : List ReadFrameData) → flat_map held_counter (map HeldFrame frames) ≡ map frame_counter frames
frame_counters [] = refl
frame_counters (f ∷ fs) = ap (λ l. f.counter ∷ l) (frame_counters fs)

kind_counters : (kind : PieceKind) (own place counter : ℕ) (bytes : List ℕ)
    → flat_map held_counter (flat_map held_in (pieces_of kind place counter bytes)) ≡ counters_in (Some (own, kind)) counter bytes
kind_counters Frames own place counter bytes =
    ap (flat_map held_counter) (held_pieces place (said_frames bytes)) ∙ frame_counters (said_frames bytes)
kind_counters Record own place counter bytes = refl
kind_counters NoCounter own place counter bytes = refl

naming_counters : (names : Option (ℕ × PieceKind)) (end : Bool) (place counter : ℕ) (bytes : List ℕ)
    → left_counters (pieces_naming names end place counter bytes) ≡ counters_in names counter bytes
naming_counters None end place counter bytes = refl
naming_counters (Some (own, kind)) end place counter bytes =
    left_map own end (pieces_of kind place counter bytes) ∙ kind_counters kind own place counter bytes

its_counters : (packet : PacketData) → left_counters (stream_pieces packet) ≡ packet_counters packet
its_counters packet = naming_counters (packet_names packet) (is_end packet.what) packet.at packet.header.counter (data_in packet.header packet.body)

none_counted : (counters : List ℕ) → least_of counters ≡ None → counters ≡ []
none_counted [] is = refl
none_counted (c ∷ cs) is = absurd (lesser_some c (least_of cs) is)

-- ---- near counters

abbrev AreNear : (counter : ℕ) → List ℕ → Type 0
AreNear counter later = AllByRecursion (LiesASecondBackAtMost counter) later

near_less : (less more : ℕ) (later : List ℕ) → less ≤ more → AreNear more later → AreNear less later
near_less less more [] is all = tt
near_less less more (c ∷ cs) is all = (let first = all.0 in omega (arith, is, first), near_less less more cs is all.1)

near_max : (a b : ℕ) (later : List ℕ) → AreNear a later → AreNear b later → AreNear (max a b) later
near_max a b [] one other = tt
near_max a b (c ∷ cs) one other = (max-le one.0 other.0, near_max a b cs one.1 other.1)

near_none : (later : List ℕ) → AreNear 0 later
near_none [] = tt
near_none (c ∷ cs) = (omega arith, near_none cs)

near_back : (counter : ℕ) (xs ys : List ℕ) → AreNear counter (xs ++ ys) → AreNear counter ys
near_back counter [] ys all = all
near_back counter (x ∷ xs) ys all = near_back counter xs ys all.1

never_back : (xs ys : List ℕ) → NeverFarBack (xs ++ ys) → NeverFarBack ys
never_back [] ys all = all
never_back (x ∷ xs) ys all = never_back xs ys all.1

-- the counter of the packet of a piece that stands first
first_near : (greatest : ℕ) (end : Bool) (piece : FilePiece) (later : List ℕ) → AreNear greatest (piece_counters piece ++ later)
    → NeverFarBack (piece_counters piece ++ later) → AreNear (head_counter greatest end (head_of_piece piece)) (piece_counters piece ++ later)
first_near greatest true (OfFrames place []) later near never = near_max greatest greatest later near near
first_near greatest false (OfFrames place []) later near never = near
first_near greatest true (OfFrames place (f ∷ fs)) later near never =
    (max-le near.0 (omega arith), near_max greatest f.counter (flat_map held_counter (map HeldFrame fs) ++ later) near.1 never.0)
first_near greatest false (OfFrames place (f ∷ fs)) later near never = (omega arith, never.0)
first_near greatest true (OfRecord place (Some own) body) later near never = (max-le near.0 (omega arith), near_max greatest own later near.1 never.0)
first_near greatest false (OfRecord place (Some own) body) later near never = (omega arith, never.0)
first_near greatest true (OfRecord place None body) later near never = near_max greatest greatest later near near
first_near greatest false (OfRecord place None body) later near never = near

-- it isn't late
near_enough : (greatest counter : ℕ) → greatest ≤ counter + MAX_TICKS_BACK → late_one greatest counter ≡ 0
near_enough greatest counter is = ap (λ (b : Bool). if b then 1 else 0) (le-ltb (counter + MAX_TICKS_BACK) greatest is)

not_late : (greatest : ℕ) (end : Bool) (piece : FilePiece) (later : List ℕ) → AreNear greatest (piece_counters piece ++ later)
    → late_one greatest (head_counter greatest end (head_of_piece piece)) ≡ 0
not_late greatest true piece later near = near_enough greatest _ (ended (head_of_piece piece))
  where
    ended : (head : Head) → greatest ≤ head_counter greatest true head + MAX_TICKS_BACK
    ended (At own) = let most = le-max_left greatest own in omega (arith, most)
    ended Uncounted = let most = le-max_left greatest greatest in omega (arith, most)
    ended NoPiece = let most = le-max_left greatest greatest in omega (arith, most)
not_late greatest false (OfFrames place []) later near = near_enough greatest greatest (omega arith)
not_late greatest false (OfFrames place (f ∷ fs)) later near = near_enough greatest f.counter near.0
not_late greatest false (OfRecord place (Some own) body) later near = near_enough greatest own near.0
not_late greatest false (OfRecord place None body) later near = near_enough greatest greatest (omega arith)

-- ---- what goes out

abbrev FirstNear : StreamFacts → (least : ℕ) → List ℕ → Type 0
FirstNear facts least later = (moment : ℤ) (tick : ℕ) → IsFirstTime least facts.rules moment tick → AreNear tick later

module _ (facts : StreamFacts) where
  -- the counters that are still to come lie near
  record IsSteadyState (state : StreamState) (later : List ℕ) : Type 0 where
    near : AreNear state.greatest (left_counters state.left ++ later)
    never : NeverFarBack (left_counters state.left ++ later)
    first : FirstNear facts state.least (left_counters state.left ++ later)

  time_near : (state : StreamState) (later : List ℕ) (time : Option ℕ) (left : List StreamPiece) (moment : ℤ) (tick : ℕ) → state.left ≡ left
      → IsSteadyState state later → StreamTimeIsNext facts.rules state time left moment tick → AreNear tick (left_counters state.left ++ later)
  time_near state later None left moment tick is steady next = steady.first moment tick next
  time_near state later (Some time) [] moment tick is steady next = absurd next
  time_near state later (Some time) (p ∷ ps) moment tick is steady next =
      let all : left_counters state.left ++ later ≡ piece_counters p.piece ++ (left_counters ps ++ later) =
      ap (λ l. left_counters l ++ later) is ∙ append_assoc (piece_counters p.piece) (left_counters ps) later in
      subst (AreNear tick) (sym all) (near_less tick (stream_counter state.greatest p) (piece_counters p.piece ++ (left_counters ps ++ later)) next.due
      (first_near state.greatest p.is_end p.piece (left_counters ps ++ later) (subst (AreNear state.greatest) all steady.near)
      (subst NeverFarBack all steady.never)))

  record GoesSteady (old : StreamState) (content : BlockContent) (counter : ℕ) (new : StreamState) (later : List ℕ) : Type 0 where
    none : late_of old.greatest content counter ≡ 0
    greatest : new.greatest ≡ max old.greatest counter
    steady : IsSteadyState new later

  goes_steady : (old new : StreamState) (content : BlockContent) (counter : ℕ) (later : List ℕ) → StreamContentGoes facts old content counter new
      → IsSteadyState old later → GoesSteady old content counter new later
  goes_steady old new (SetupBlock text) counter later goes steady =
      subst (λ (s : StreamState). GoesSteady old (SetupBlock text) counter s later) (sym goes.new_is) (record {
        none = refl;
        greatest = refl;
        steady = record {
          near = near_max old.greatest counter (left_counters old.left ++ later) steady.near
              (time_near old later old.time old.left goes.moment counter refl steady goes.ahead_of);
          never = steady.never;
          first = steady.first;
        };
      })
  goes_steady old new (TimeBlock e time) counter later goes steady =
      subst (λ (s : StreamState). GoesSteady old (TimeBlock e time) counter s later) (sym goes.new_is) (record {
        none = refl;
        greatest = refl;
        steady = record {
          near = near_max old.greatest counter (left_counters old.left ++ later) steady.near
              (time_near old later old.time old.left goes.moment counter refl steady goes.is_next);
          never = steady.never;
          first = steady.first;
        };
      })
  goes_steady old new (PieceBlock channel piece) counter later goes steady =
      let p = goes.first in
      let others = goes.others in
      let rest = pieces_on p (part_from goes.next p.piece) in
      let out = piece_counters (part_before goes.next p.piece) in
      let all : left_counters old.left ++ later ≡ piece_counters p.piece ++ (left_counters others ++ later) =
      ap (λ l. left_counters l ++ later) goes.left_is ∙ append_assoc (piece_counters p.piece) (left_counters others) later in
      let cut : piece_counters p.piece ++ (left_counters others ++ later) ≡ out ++ (left_counters (rest ++ others) ++ later) =
      ap (λ l. l ++ (left_counters others ++ later)) (sym (part_counters goes.next p))
      ∙ append_assoc out (left_counters rest) (left_counters others ++ later)
      ∙ ap (λ l. out ++ l) (sym (append_assoc (left_counters rest) (left_counters others) later)
      ∙ ap (λ l. l ++ later) (sym (left_append rest others))) in
      let near = subst (AreNear old.greatest) all steady.near in
      let own = first_near old.greatest p.is_end p.piece (left_counters others ++ later) near (subst NeverFarBack all steady.never) in
      let behind = left_counters (rest ++ others) ++ later in
      subst (λ (s : StreamState). GoesSteady old (PieceBlock channel piece) counter s later) (sym goes.new_is) (record {
        none = ap (late_one old.greatest) goes.counter_is ∙ not_late old.greatest p.is_end p.piece (left_counters others ++ later) near;
        greatest = refl;
        steady = record {
          near = near_max old.greatest counter behind (near_back old.greatest out behind (subst (AreNear old.greatest) (all ∙ cut) steady.near))
              (near_back counter out behind (subst (λ n. AreNear n (out ++ behind)) (sym goes.counter_is)
              (subst (AreNear (stream_counter old.greatest p)) cut own)));
          never = never_back out behind (subst NeverFarBack (all ∙ cut) steady.never);
          first = λ moment tick is. near_back tick out behind (subst (AreNear tick) (all ∙ cut) (steady.first moment tick is));
        };
      })
  goes_steady old new (NodeBlock entries) counter later goes steady = absurd goes
  goes_steady old new (RootBlock nodes last) counter later goes steady = absurd goes

  record OutSteady (greatest : ℕ) (blocks : List FileBlock) (new : StreamState) (later : List ℕ) : Type 0 where
    none : late_behind greatest blocks ≡ 0
    most : new.greatest ≡ greatest_of greatest blocks
    steady : IsSteadyState new later

  out_steady : (old new : StreamState) (blocks : List FileBlock) (later : List ℕ) → StreamGoesOut facts old blocks new → IsSteadyState old later
      → OutSteady old.greatest blocks new later
  out_steady old new [] later go steady =
      subst (λ (s : StreamState). OutSteady old.greatest [] s later) (sym go) (record { none = refl; most = refl; steady = steady })
  out_steady old new (b ∷ blocks) later go steady =
      let one = goes_steady old go.0 b.content b.counter later go.1.goes steady in
      let more = out_steady go.0 new blocks later go.2 one.steady in
      let none = one.none in
      let rest : late_behind (max old.greatest b.counter) blocks ≡ 0 = subst (λ n. late_behind n blocks ≡ 0) one.greatest more.none in
      record {
        none = omega (arith, none, rest);
        most = more.most ∙ ap (λ n. greatest_of n blocks) one.greatest;
        steady = more.steady;
      }

  -- ---- all packets

  abbrev stage_greatest : StreamStage → ℕ
  stage_greatest (Waiting ends) = 0
  stage_greatest (Begun state) = state.greatest

  -- the counters of the packets that are still to come lie near
  abbrev IsSteadyStage : StreamStage → List PacketData → Type 0
  IsSteadyStage (Waiting ends) packets =
      (left_counters ends ≡ []) × NeverFarBack (counters_of packets)
      × IfSome (first_least packets) (λ least. FirstNear facts least (counters_of packets))
  IsSteadyStage (Begun state) packets = (state.left ≡ []) × IsSteadyState state (counters_of packets)

  record StageSteady (greatest : ℕ) (blocks : List FileBlock) (new : StreamStage) (packets : List PacketData) : Type 0 where
    none : late_behind greatest blocks ≡ 0
    most : stage_greatest new ≡ greatest_of greatest blocks
    steady : IsSteadyStage new packets

  whole_steady : (old new : StreamStage) (start : StreamState) (pieces : List StreamPiece) (blocks : List FileBlock) (packets : List PacketData)
      → stage_greatest old ≡ start.greatest → IsSteadyState start (counters_of packets) → PiecesGo facts old (Some start) pieces blocks new
      → StageSteady (stage_greatest old) blocks new packets
  whole_steady old new start pieces blocks packets same steady go =
      let out = out_steady start go.0 blocks (counters_of packets) go.1 steady in
      subst (λ (n : StreamStage). StageSteady (stage_greatest old) blocks n packets) (sym go.3)
      (subst (λ n. StageSteady n blocks (Begun go.0) packets) (sym same)
      (record { none = out.none; most = out.most; steady = (go.2.left, out.steady) }))

  begun_state : (state : StreamState) (pieces : List StreamPiece) (own others : List ℕ) → state.left ≡ [] → left_counters pieces ≡ own
      → IsSteadyState state (own ++ others) → IsSteadyState (record state { left = pieces }) others
  begun_state state pieces own others none is steady =
      let all : left_counters state.left ++ (own ++ others) ≡ left_counters pieces ++ others =
      ap (λ l. left_counters l ++ (own ++ others)) none ∙ ap (λ l. l ++ others) (sym is) in
      record {
        near = subst (AreNear state.greatest) all steady.near;
        never = subst NeverFarBack all steady.never;
        first = λ moment tick first. subst (AreNear tick) all (steady.first moment tick first);
      }

  pieces_steady : (old new : StreamStage) (p : PacketData) (least : Option ℕ) (blocks : List FileBlock) (packets : List PacketData)
      → least_of (packet_counters p) ≡ least → IsSteadyStage old (p ∷ packets)
      → PiecesGo facts old (begun_by old least (stream_pieces p)) (stream_pieces p) blocks new → StageSteady (stage_greatest old) blocks new packets
  pieces_steady (Waiting ends) new p None blocks packets is steady go =
      let nothing = none_counted (packet_counters p) is in
      subst (λ (n : StreamStage). StageSteady 0 blocks n packets) (sym go.1.1)
      (subst (λ l. StageSteady 0 l (Waiting (ends ++ stream_pieces p)) packets) (sym go.0) (record {
        none = refl;
        most = refl;
        steady = (
          left_append ends (stream_pieces p) ∙ ap (λ l. l ++ left_counters (stream_pieces p)) steady.0 ∙ its_counters p ∙ nothing,
          subst (λ l. NeverFarBack (l ++ counters_of packets)) nothing steady.1,
          subst (λ l. IfSome (first_least packets) (λ least. FirstNear facts least (l ++ counters_of packets))) nothing
              (subst (λ (o : Option ℕ). IfSome (first_some o (first_least packets)) (λ least. FirstNear facts least (counters_of (p ∷ packets)))) is steady.2),
        );
      }))
  pieces_steady (Waiting ends) new p (Some least) blocks packets is steady go =
      let all : packet_counters p ++ counters_of packets ≡ left_counters (stream_pieces p ++ ends) ++ counters_of packets =
      ap (λ l. l ++ counters_of packets) (sym (left_append (stream_pieces p) ends
      ∙ ap (λ l. left_counters (stream_pieces p) ++ l) steady.0 ∙ append-nil (left_counters (stream_pieces p)) ∙ its_counters p)) in
      whole_steady (Waiting ends) new (stream_begun least (stream_pieces p ++ ends)) (stream_pieces p) blocks packets refl (record {
        near = near_none (left_counters (stream_pieces p ++ ends) ++ counters_of packets);
        never = subst NeverFarBack all steady.1;
        first = λ moment tick first. subst (AreNear tick) all
            (subst (λ (o : Option ℕ). IfSome (first_some o (first_least packets)) (λ least. FirstNear facts least (counters_of (p ∷ packets)))) is steady.2
            moment tick first);
      }) go
  pieces_steady (Begun state) new p least blocks packets is steady go =
      whole_steady (Begun state) new _ (stream_pieces p) blocks packets refl
      (begun_state state (stream_pieces p) (packet_counters p) (counters_of packets) steady.0 (its_counters p) steady.1) go

  none_named : (stage : StreamStage) (p : PacketData) (packets : List PacketData) → packet_counters p ≡ [] → IsSteadyStage stage (p ∷ packets)
      → IsSteadyStage stage packets
  none_named (Waiting ends) p packets none steady = (
    steady.0,
    subst (λ l. NeverFarBack (l ++ counters_of packets)) none steady.1,
    subst (λ l. IfSome (first_least packets) (λ least. FirstNear facts least (l ++ counters_of packets))) none
        (subst (λ l. IfSome (first_some (least_of l) (first_least packets)) (λ least. FirstNear facts least (counters_of (p ∷ packets)))) none steady.2),
  )
  none_named (Begun state) p packets none steady =
      (steady.0, subst (λ l. IsSteadyState state (l ++ counters_of packets)) none steady.1)

  named_steady : (names : Option (ℕ × PieceKind)) (old new : StreamStage) (p : PacketData) (blocks : List FileBlock) (packets : List PacketData)
      → packet_names p ≡ names → IsSteadyStage old (p ∷ packets) → NamedGoes facts names old p blocks new
      → StageSteady (stage_greatest old) blocks new packets
  named_steady None old new p blocks packets is steady go =
      let none = ap (λ (n : Option (ℕ × PieceKind)). counters_in n p.header.counter (data_in p.header p.body)) is in
      subst (λ (n : StreamStage). StageSteady (stage_greatest old) blocks n packets) (sym go.1)
      (subst (λ l. StageSteady (stage_greatest old) l old packets) (sym go.0)
      (record { none = refl; most = refl; steady = none_named old p packets none steady }))
  named_steady (Some (own, kind)) old new p blocks packets is steady go =
      pieces_steady old new p (least_of (packet_counters p)) blocks packets refl steady go.1

  late_append : (greatest : ℕ) (xs ys : List FileBlock) → late_behind greatest xs ≡ 0 → late_behind (greatest_of greatest xs) ys ≡ 0
      → late_behind greatest (xs ++ ys) ≡ 0
  late_append greatest [] ys one other = other
  late_append greatest (x ∷ xs) ys one other =
      let rest = late_append (max greatest x.counter) xs ys (omega (arith, one)) other in
      omega (arith, one, rest)

  packets_steady : (old new : StreamStage) (packets : List PacketData) (blocks : List FileBlock) → IsSteadyStage old packets
      → PacketsGo facts old packets blocks new → late_behind (stage_greatest old) blocks ≡ 0
  packets_steady old new [] blocks steady go = subst (λ l. late_behind (stage_greatest old) l ≡ 0) (sym go.0) refl
  packets_steady old new (p ∷ packets) blocks steady (mid, ahead, behind, is, first, rest) =
      let one = named_steady (packet_names p) old mid p ahead packets refl steady first in
      let more = packets_steady mid new packets behind one.steady rest in
      subst (λ l. late_behind (stage_greatest old) l ≡ 0) (sym is)
      (late_append (stage_greatest old) ahead behind one.none (subst (λ n. late_behind n behind ≡ 0) one.most more))

  pub none_late : (packets : List PacketData) (blocks : List FileBlock) (stage : StreamStage) → AreStream facts packets blocks stage
      → NeverFarBack (counters_of packets) → IfSome (first_least packets) (λ least. FirstNear facts least (counters_of packets))
      → late_behind 0 blocks ≡ 0
  none_late packets blocks stage go never first = packets_steady (Waiting []) stage packets blocks (refl, never, first) go
