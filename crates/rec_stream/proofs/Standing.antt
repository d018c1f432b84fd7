-- A stream behind a packet more of its recording.
use Rattle.std.proofs.Common.{ℕ, ◌+◌, ◌≡◌, inl, inr, List, [], ◌∷◌, ◌++◌, map, Option, None, Some, refl, sym, subst, ap, ◌∙◌, arith, append_assoc, append-nil}
use Rattle.std.specs.Prelude.{true, if◌then◌else◌}
use Rattle.std.proofs.lemmas.List.Sums.{sum_by-append}
use Rattle.std.specs.Prelude.{Ok}
use Rattle.std.specs.Io.KnownBytes.{Appends, Keeps}
use Rattle.ch11_clock.specs.declared.origin.Origin.{Origin as ClockOrigin}
use Rattle.ch11_file.specs.declared.setup.FileSetup.{FileSetup}
use Rattle.ch11_file.specs.FileBlocks.{FileBlock, file_bytes}
use Rattle.rec_reader.specs.Reading.{Reads}
use Rattle.rec_reader.specs.Readers.{HasRead, ReaderState, Tells}
use Rattle.rec_whole.specs.declared.names.FileNames.{FileNames}
use Rattle.rec_stream.specs.declared.counts.StreamCounts.{StreamCounts}
use Rattle.rec_reader.specs.Channels.{capped}
use Rattle.rec_reader.specs.Packets.{PacketData}
use Rattle.rec_pieces.specs.declared.entry.PieceKind.{PieceKind}
use Rattle.rec_pieces.specs.declared.hand.InHand.{InHand}
use Rattle.ch11_packet.specs.Classes.{data_in}
use Rattle.rec_pieces.specs.Entries.{packet_names, pieces_of}
use Rattle.rec_pieces.specs.Listings.{least_of, packet_counters}
use Rattle.rec_pieces.specs.Sources.{pieces_held}
use Rattle.rec_stream.specs.declared.end.StreamEnd.{StreamEnd}
use Rattle.rec_stream.specs.declared.end.StreamEnd.TheVariants.{Refused, Reading, Output, Memory}
use Rattle.rec_stream.specs.declared.end.StreamRefusal.TheVariants.{Other, Origin, Year, Full}
use Rattle.rec_stream.specs.declared.named.Named.{Named}
use Rattle.rec_stream.specs.declared.stage.Stage.{Stage}
use Rattle.rec_stream.specs.declared.stage.Stage.TheVariants.{Begun as HasCourse}
use Rattle.rec_stream.specs.declared.waiting.WaitingEnd.{WaitingEnd}
use Rattle.rec_stream.specs.StreamChannels.{IsStreamSetup, is_said}
use Rattle.rec_stream.specs.StreamPieces.{StreamPiece, AreNewEnds, is_end, pieces_naming, stream_piece, stream_pieces}
use Rattle.rec_stream.specs.StreamBlocks.{StreamFacts, StreamState, StreamGoesOut, stream_begun}
use Rattle.rec_stream.specs.Streams.{IsAllOut, StreamStage, AreStream, NamedGoes, PacketGoes, PacketsGo, PiecesGo, Waits, begun_by, is_other_packet, others_in}
use Rattle.rec_stream.specs.Streams.StreamStage.{Waiting, Begun}
use Rattle.rec_stream.specs.StreamEnds.{Anything, CantGo, FailsAt, FailsInside, GoingFails, HoldsSome, HoldsStream, NextFails, PacketFails, PacketsFail}
use Rattle.rec_stream.specs.StreamEnds.{StreamFails, WritesPackets, past_of, stream_facts}
use Rattle.rec_stream.specs.SentStates.{StreamSent, other_more, stream_sent}
use Rattle.rec_stream.specs.Courses.{Course}
use Rattle.rec_stream.specs.Sending.{HasCome, StreamHasSent, IsFreshStream, NamesPacket, IsStage, StreamStands, greatest_of, origin_pieces}
use Rattle.rec_stream.specs.Sending.{waiting_piece}

-- ---- a packet more

pub packets_more : (facts : StreamFacts) (old mid new : StreamStage) (packets : List PacketData) (packet : PacketData) (blocks more : List FileBlock)
    → PacketsGo facts old packets blocks mid → PacketGoes facts mid packet more new → PacketsGo facts old (packets ++ packet ∷ []) (blocks ++ more) new
packets_more facts old mid new [] packet blocks more go goes = (
  new,
  more,
  [],
  ap (λ l. l ++ more) go.0 ∙ sym (append-nil more),
  subst (λ (s : StreamStage). PacketGoes facts s packet more new) go.1 goes,
  (refl, refl),
)
packets_more facts old mid new (p ∷ packets) packet blocks more (next, ahead, behind, is, first, rest) goes = (
  next,
  ahead,
  behind ++ more,
  ap (λ l. l ++ more) is ∙ append_assoc ahead behind more,
  first,
  packets_more facts next mid new packets packet behind more rest goes,
)

others_more : (packets : List PacketData) (packet : PacketData)
    → others_in (packets ++ packet ∷ []) ≡ others_in packets + (if is_other_packet (packet_names packet) then 1 else 0)
others_more packets packet =
    sum_by-append (λ (p : PacketData). if is_other_packet (packet_names p) then 1 else 0) packets (packet ∷ []) ∙ omega arith

none_other : (packets : List PacketData) (packet : PacketData) → packet_names packet ≡ None → others_in (packets ++ packet ∷ []) ≡ others_in packets + 1
none_other packets packet none = others_more packets packet ∙ ap (λ n. others_in packets + (if is_other_packet n then 1 else 0)) none

some_other : (packets : List PacketData) (packet : PacketData) (named : ℕ × PieceKind) → packet_names packet ≡ Some named
    → others_in (packets ++ packet ∷ []) ≡ others_in packets
some_other packets packet named names =
    others_more packets packet ∙ ap (λ n. others_in packets + (if is_other_packet n then 1 else 0)) names ∙ omega arith

capped_more : (a n : ℕ) → a ≡ capped n → capped (a + 1) ≡ capped (n + 1)
capped_more a n is = omega (arith, is)

-- ---- one of another kind

other_sent : (before held : Option (List ℕ)) (sent : StreamSent) (blocks : List FileBlock) → StreamHasSent before held sent blocks
    → StreamHasSent before held (stream_sent sent.numbers sent.greatest (other_more sent.counts)) blocks
other_sent before held sent blocks has = record {
  numbered = has.numbered;
  grows = has.grows;
  next = has.next;
  greatest = has.greatest;
  packets = has.packets;
  records = has.records;
  times = has.times;
  late = has.late;
}

pub other_stands : (facts : StreamFacts) (before held : Option (List ℕ)) (old new : StreamSent) (stage : Stage) (packets : List PacketData)
    (packet : PacketData) → packet_names packet ≡ None → new ≡ stream_sent old.numbers old.greatest (other_more old.counts)
    → StreamStands facts before held old stage packets → StreamStands facts before held new stage (packets ++ packet ∷ [])
other_stands facts before held old new stage packets packet none noted stands =
    subst (λ (s : StreamSent). StreamStands facts before held s stage (packets ++ packet ∷ [])) (sym noted) (record {
      blocks = stands.blocks;
      now = stands.now;
      are = subst (λ l. AreStream facts (packets ++ packet ∷ []) l stands.now) (append-nil stands.blocks)
          (packets_more facts (Waiting []) stands.now stands.now packets packet stands.blocks [] stands.are
          (subst (λ (n : Option (ℕ × PieceKind)). NamedGoes facts n stands.now packet [] stands.now) (sym none) (refl, refl)));
      has_sent = other_sent before held old stands.blocks stands.has_sent;
      other = capped_more old.counts.other (others_in packets) stands.other ∙ ap capped (sym (none_other packets packet none));
      is_stage = stands.is_stage;
    })

-- ---- one that names a channel

-- the stream of the packets ahead, and what this packet brings
pub record IsAhead (facts : StreamFacts) (before held : Option (List ℕ)) (sent : StreamSent) (packets : List PacketData) (packet : PacketData)
    (named : Named) (blocks : List FileBlock) (now : StreamStage) (start : StreamState) : Type 0 where
  pub are : AreStream facts packets blocks now
  pub is_named : NamesPacket packet named
  pub said : is_said facts.setup.channels.now named.origin.channel ≡ true
  pub begun : begun_by now (least_of (packet_counters packet)) (stream_pieces packet) ≡ Some start
  pub other : sent.counts.other ≡ capped (others_in packets)

goes_named : (facts : StreamFacts) (before held : Option (List ℕ)) (sent : StreamSent) (packets : List PacketData) (packet : PacketData)
    (named : Named) (blocks more : List FileBlock) (now : StreamStage) (start end : StreamState)
    → IsAhead facts before held sent packets packet named blocks now start → StreamGoesOut facts start more end → IsAllOut end
    → PacketGoes facts now packet more (Begun end)
goes_named facts before held sent packets packet named blocks more now start end is go over =
    subst (λ (n : Option (ℕ × PieceKind)). NamedGoes facts n now packet more (Begun end)) (sym is.is_named.names)
    (is.said, subst (λ (o : Option StreamState). PiecesGo facts now o (stream_pieces packet) more (Begun end)) (sym is.begun) (end, go, over, refl))

pub named_stands : (facts : StreamFacts) (before held after : Option (List ℕ)) (old new : StreamSent) (course : Course) (packets : List PacketData)
    (packet : PacketData) (named : Named) (blocks : List FileBlock) (now : StreamStage) (start : StreamState)
    → IsAhead facts before held old packets packet named blocks now start
    → HasCome (past_of facts before blocks start) after new course [] → new.counts.other ≡ old.counts.other
    → StreamStands facts before after new (HasCourse course) (packets ++ packet ∷ [])
named_stands facts before held after old new course packets packet named blocks now start is come other = record {
  blocks = blocks ++ come.has_gone.blocks;
  now = Begun come.now;
  are = packets_more facts (Waiting []) now (Begun come.now) packets packet blocks come.has_gone.blocks is.are
      (goes_named facts before held old packets packet named blocks come.has_gone.blocks now start come.now is come.has_gone.go
      (record { left = come.left_is; time = come.is_course.time; time_is = come.is_course.time_is }));
  has_sent = come.has_gone.has_sent;
  other = other ∙ is.other ∙ ap capped (sym (some_other packets packet _ is.is_named.names));
  is_stage = (come.now, refl, come.is_course, come.left_is, come.has_gone.greatest ∙ come.has_gone.has_sent.greatest);
}

inside : (facts : StreamFacts) (packets : List PacketData) (packet : PacketData) (before held : Option (List ℕ)) (end : StreamEnd)
    → FailsInside facts packets packet before held end → PacketFails facts packets packet before held end
inside facts packets packet before held (Refused (Other at)) fails = absurd fails.fails
inside facts packets packet before held (Refused Origin) fails = fails
inside facts packets packet before held (Refused Year) fails = fails
inside facts packets packet before held (Refused Full) fails = absurd fails.fails
inside facts packets packet before held (Reading end) fails = absurd fails.fails
inside facts packets packet before held Output fails = inr fails
inside facts packets packet before held Memory fails = inr fails

pub named_fails : (facts : StreamFacts) (before held after : Option (List ℕ)) (old : StreamSent) (packets : List PacketData) (packet : PacketData)
    (named : Named) (blocks : List FileBlock) (now : StreamStage) (start : StreamState) (end : StreamEnd)
    → IsAhead facts before held old packets packet named blocks now start → GoingFails (past_of facts before blocks start) after end
    → PacketFails facts packets packet before after end
named_fails facts before held after old packets packet named blocks now start end is fails =
    inside facts packets packet before after end (record {
      ahead = blocks;
      stage = now;
      are = is.are;
      start = start;
      starts = record {
        channel = named.origin.channel;
        kind = named.kind;
        names = is.is_named.names;
        said = is.said;
        begun = is.begun;
      };
      fails = fails;
    })

-- ---- a stream that has begun

pub begun_ahead : (facts : StreamFacts) (before held : Option (List ℕ)) (sent : StreamSent) (course : Course) (packets : List PacketData)
    (packet : PacketData) (named : Named) (stands : StreamStands facts before held sent (HasCourse course) packets) → NamesPacket packet named
    → is_said facts.setup.channels.now named.origin.channel ≡ true
    → IsAhead facts before held sent packets packet named stands.blocks stands.now (record stands.is_stage.0 { left = stream_pieces packet })
begun_ahead facts before held sent course packets packet named stands is said = record {
  are = stands.are;
  is_named = is;
  said = said;
  begun = ap (λ (s : StreamStage). begun_by s (least_of (packet_counters packet)) (stream_pieces packet)) stands.is_stage.1;
  other = stands.other;
}

pub begun_come : (facts : StreamFacts) (before held : Option (List ℕ)) (sent : StreamSent) (course : Course) (packets : List PacketData)
    (packet : PacketData) (named : Named) (hand : Option InHand) (stands : StreamStands facts before held sent (HasCourse course) packets)
    → origin_pieces named.origin (pieces_held hand) ≡ stream_pieces packet
    → HasCome (past_of facts before stands.blocks (record stands.is_stage.0 { left = stream_pieces packet })) held sent course
    (origin_pieces named.origin (pieces_held hand) ++ [])
begun_come facts before held sent course packets packet named hand stands is =
    let (state, now_is, is_course, none, greatest) = stands.is_stage in
    record {
      now = record state { left = stream_pieces packet };
      has_gone = record {
        blocks = [];
        go = refl;
        has_sent = subst (StreamHasSent before held sent) (sym (append-nil stands.blocks)) stands.has_sent;
        greatest = greatest ∙ sym stands.has_sent.greatest;
      };
      is_course = record {
        time = is_course.time;
        time_is = is_course.time_is;
        walking = is_course.walking;
        setup = is_course.setup;
        first = is_course.first;
        tick = is_course.tick;
        is_first = is_course.is_first;
        tells = is_course.tells;
      };
      left_is = sym is ∙ sym (append-nil (origin_pieces named.origin (pieces_held hand)));
    }

-- ---- one that begins

pub waiting_ahead : (facts : StreamFacts) (before held : Option (List ℕ)) (sent : StreamSent) (ends : List WaitingEnd) (packets : List PacketData)
    (packet : PacketData) (named : Named) (hand : Option InHand) (least : ℕ) (blocks : List FileBlock) (now : StreamStage)
    → AreStream facts packets blocks now → now ≡ Waiting (map waiting_piece ends) → sent.counts.other ≡ capped (others_in packets)
    → NamesPacket packet named → is_said facts.setup.channels.now named.origin.channel ≡ true → named.least ≡ Some least
    → origin_pieces named.origin (pieces_held hand) ≡ stream_pieces packet
    → IsAhead facts before held sent packets packet named blocks now
    (stream_begun least (origin_pieces named.origin (pieces_held hand) ++ map waiting_piece ends))
waiting_ahead facts before held sent ends packets packet named hand least blocks now are now_is other is said has pieces = record {
  are = are;
  is_named = is;
  said = said;
  begun = ap (λ (s : StreamStage). begun_by s (least_of (packet_counters packet)) (stream_pieces packet)) now_is
      ∙ ap (λ o. begun_by (Waiting (map waiting_piece ends)) o (stream_pieces packet)) (sym is.least ∙ has)
      ∙ ap (λ l. Some (stream_begun least (l ++ map waiting_piece ends))) (sym pieces);
  other = other;
}

pub waiting_fresh : (facts : StreamFacts) (before held : Option (List ℕ)) (sent : StreamSent) (blocks : List FileBlock) (least : ℕ)
    (left : List StreamPiece) → StreamHasSent before held sent blocks → blocks ≡ []
    → IsFreshStream (past_of facts before blocks (stream_begun least left)) least left held sent
waiting_fresh facts before held sent blocks least left has none = record {
  begun = refl;
  has_sent = has;
  greatest = has.greatest ∙ ap (greatest_of 0) none;
}

-- ---- an end that waits

pub waits_stands : (facts : StreamFacts) (before held : Option (List ℕ)) (sent : StreamSent) (old : List WaitingEnd) (stage : Stage)
    (pieces : List StreamPiece) (packets : List PacketData) (packet : PacketData) (named : Named) (blocks : List FileBlock) (now new : StreamStage)
    → AreStream facts packets blocks now → StreamHasSent before held sent blocks → now ≡ Waiting (map waiting_piece old) → blocks ≡ []
    → sent.counts.other ≡ capped (others_in packets) → NamesPacket packet named → is_said facts.setup.channels.now named.origin.channel ≡ true
    → named.least ≡ None → pieces ≡ stream_pieces packet → AreNewEnds (map waiting_piece old) pieces
    → new ≡ Waiting (map waiting_piece old ++ pieces) → IsStage facts stage new []
    → StreamStands facts before held sent stage (packets ++ packet ∷ [])
waits_stands facts before held sent old stage pieces packets packet named blocks now new are has now_is none other is said least all apart new_is at =
    let begun : begun_by now (least_of (packet_counters packet)) (stream_pieces packet) ≡ None =
    ap (λ (s : StreamStage). begun_by s (least_of (packet_counters packet)) (stream_pieces packet)) now_is
    ∙ ap (λ o. begun_by (Waiting (map waiting_piece old)) o (stream_pieces packet)) (sym is.least ∙ least) in
    let goes : PacketGoes facts now packet [] new =
    subst (λ (n : Option (ℕ × PieceKind)). NamedGoes facts n now packet [] new) (sym is.names) (
      said,
      subst (λ (o : Option StreamState). PiecesGo facts now o (stream_pieces packet) [] new) (sym begun) (
        refl,
        subst (λ (s : StreamStage). Waits s (stream_pieces packet) new) (sym now_is) (
          subst (AreNewEnds (map waiting_piece old)) all apart,
          new_is ∙ ap (λ l. Waiting (map waiting_piece old ++ l)) all,
        ),
      ),
    ) in
    record {
      blocks = blocks;
      now = new;
      are = subst (λ l. AreStream facts (packets ++ packet ∷ []) l new) (append-nil blocks)
          (packets_more facts (Waiting []) now new packets packet blocks [] are goes);
      has_sent = has;
      other = other ∙ ap capped (sym (some_other packets packet _ is.names));
      is_stage = subst (IsStage facts stage new) (sym none) at;
    }

pub held_stream : (facts : StreamFacts) (before held : Option (List ℕ)) (sent : StreamSent) (stage : Stage) (packets : List PacketData)
    → StreamStands facts before held sent stage packets → HoldsStream facts packets before held Anything
held_stream facts before held sent stage packets stands = record {
  blocks = stands.blocks;
  stage = stands.now;
  are = stands.are;
  numbered = stands.has_sent.numbered;
  grows = stands.has_sent.grows;
  stands = tt;
}

pub cant_go : (facts : StreamFacts) (before held : Option (List ℕ)) (sent : StreamSent) (stage : Stage) (packets : List PacketData)
    (packet : PacketData) (at : ℕ) → at ≡ packet.at → (stands : StreamStands facts before held sent stage packets) → CantGo facts stands.now packet
    → PacketFails facts packets packet before held (Refused (Other at))
cant_go facts before held sent stage packets packet at is stands wrong = (
  is,
  record {
    blocks = stands.blocks;
    stage = stands.now;
    are = stands.are;
    numbered = stands.has_sent.numbered;
    grows = stands.has_sent.grows;
    stands = wrong;
  },
)

-- ---- an output that is flushed

appends_kept : (before held now : Option (List ℕ)) (bytes : List ℕ) → Appends before held bytes → Keeps held now → Appends before now bytes
appends_kept None held now bytes grows keeps = tt
appends_kept (Some xs) None now bytes grows keeps = absurd grows
appends_kept (Some xs) (Some ys) None bytes grows keeps = absurd keeps
appends_kept (Some xs) (Some ys) (Some zs) bytes grows keeps = keeps ∙ grows

pub stands_kept : (facts : StreamFacts) (before held now : Option (List ℕ)) (sent : StreamSent) (stage : Stage) (packets : List PacketData)
    → StreamStands facts before held sent stage packets → Keeps held now → StreamStands facts before now sent stage packets
stands_kept facts before held now sent stage packets stands keeps = record {
  blocks = stands.blocks;
  now = stands.now;
  are = stands.are;
  has_sent = record {
    numbered = stands.has_sent.numbered;
    grows = appends_kept before held now (file_bytes stands.blocks) stands.has_sent.grows keeps;
    next = stands.has_sent.next;
    greatest = stands.has_sent.greatest;
    packets = stands.has_sent.packets;
    records = stands.has_sent.records;
    times = stands.has_sent.times;
    late = stands.has_sent.late;
  };
  other = stands.other;
  is_stage = stands.is_stage;
}

-- ---- before the first packet, and behind the last

pub none_stands : (facts : StreamFacts) (before : Option (List ℕ)) (sent : StreamSent) (stage : Stage)
    → StreamHasSent before before sent [] → sent.counts.other ≡ 0 → IsStage facts stage (Waiting []) [] → StreamStands facts before before sent stage []
none_stands facts before sent stage has other is = record {
  blocks = [];
  now = Waiting [];
  are = (refl, refl);
  has_sent = has;
  other = other;
  is_stage = is;
}

counts_are : (c : StreamCounts) (p r t l o : ℕ) → c.packets ≡ p → c.records ≡ r → c.times ≡ t → c.late ≡ l → c.other ≡ o
    → c ≡ record { packets = p; records = r; times = t; late = l; other = o }
counts_are c p r t l o ep er et el eo = rw (← ep, ← er, ← et, ← el, ← eo) refl

pub all_written : (facts : StreamFacts) (recording : List ℕ) (before held : Option (List ℕ)) (sent : StreamSent) (stage : Stage)
    (packets : List PacketData) → StreamStands facts before held sent stage packets → Reads recording packets None
    → WritesPackets facts recording before held sent.counts
all_written facts recording before held sent stage packets stands reads = record {
  packets = packets;
  reads = reads;
  holds = record {
    blocks = stands.blocks;
    stage = stands.now;
    are = stands.are;
    numbered = stands.has_sent.numbered;
    grows = stands.has_sent.grows;
    stands = counts_are sent.counts _ _ _ _ _ stands.has_sent.packets stands.has_sent.records stands.has_sent.times stands.has_sent.late stands.other;
  };
}

-- ---- why a stream ended early

pub some_hold : (facts : StreamFacts) (recording : List ℕ) (before held : Option (List ℕ)) (sent : StreamSent) (stage : Stage)
    (packets : List PacketData) (reader : ReaderState) → HasRead recording packets reader → StreamStands facts before held sent stage packets
    → HoldsSome facts recording before held
some_hold facts recording before held sent stage packets reader has stands = record {
  packets = packets;
  rest = has.rest;
  begins = has.held;
  holds = held_stream facts before held sent stage packets stands;
}

pub next_fails : (facts : StreamFacts) (recording : List ℕ) (before held : Option (List ℕ)) (sent : StreamSent) (stage : Stage)
    (packets : List PacketData) (reader : ReaderState) (end : StreamEnd) → HasRead recording packets reader
    → StreamStands facts before held sent stage packets → NextFails recording packets end → PacketsFail facts recording before held end
next_fails facts recording before held sent stage packets reader (Refused refusal) has stands fails = absurd fails
next_fails facts recording before held sent stage packets reader (Reading end) has stands fails =
    (packets, fails, held_stream facts before held sent stage packets stands)
next_fails facts recording before held sent stage packets reader Output has stands fails =
    inl (some_hold facts recording before held sent stage packets reader has stands)
next_fails facts recording before held sent stage packets reader Memory has stands fails = absurd fails

at_packet : (facts : StreamFacts) (recording : List ℕ) (before held : Option (List ℕ)) (packets : List PacketData) (packet : PacketData)
    (end : StreamEnd) → Tells recording packets (Ok (Some packet)) → PacketFails facts packets packet before held end
    → FailsAt facts recording before held end
at_packet facts recording before held packets packet end tells fails =
    record { packets = packets; packet = packet; follows = tells; fails = fails }

pub packet_fails : (facts : StreamFacts) (recording : List ℕ) (before held : Option (List ℕ)) (packets : List PacketData) (packet : PacketData)
    (end : StreamEnd) → Tells recording packets (Ok (Some packet)) → PacketFails facts packets packet before held end
    → PacketsFail facts recording before held end
packet_fails facts recording before held packets packet (Refused refusal) tells fails =
    at_packet facts recording before held packets packet (Refused refusal) tells fails
packet_fails facts recording before held packets packet (Reading end) tells fails = absurd fails
packet_fails facts recording before held packets packet Output tells fails =
    inr (at_packet facts recording before held packets packet Output tells fails)
packet_fails facts recording before held packets packet Memory tells fails =
    inr (at_packet facts recording before held packets packet Memory tells fails)

pub setup_fails : (names : FileNames) (rules : List ClockOrigin) (recording : List ℕ) (before held : Option (List ℕ)) (setup : FileSetup)
    (end : StreamEnd) → IsStreamSetup names setup → PacketsFail (stream_facts setup rules) recording before held end
    → StreamFails names rules recording before held end
setup_fails names rules recording before held setup (Refused (Other at)) is fails = (setup, is, fails)
setup_fails names rules recording before held setup (Refused Origin) is fails = (setup, is, fails)
setup_fails names rules recording before held setup (Refused Year) is fails = (setup, is, fails)
setup_fails names rules recording before held setup (Refused Full) is fails = absurd fails.fails
setup_fails names rules recording before held setup (Reading end) is fails = (setup, is, fails)
setup_fails names rules recording before held setup Output is fails = inr (setup, is, fails)
setup_fails names rules recording before held setup Memory is fails = inr (setup, is, fails)

-- ---- the pieces of a packet in hand

pub named_pieces : (packet : PacketData) (named : Named) (hand : Option InHand) → NamesPacket packet named
    → pieces_held hand ≡ pieces_of named.kind named.at packet.header.counter (data_in packet.header packet.body)
    → origin_pieces named.origin (pieces_held hand) ≡ stream_pieces packet
named_pieces packet named hand is held =
    let held_data = data_in packet.header packet.body in
    let pieces = pieces_of named.kind packet.at packet.header.counter held_data in
    ap (origin_pieces named.origin) (held ∙ ap (λ at. pieces_of named.kind at packet.header.counter held_data) is.at)
    ∙ ap (λ e. map (stream_piece named.origin.channel e) pieces) is.is_end
    ∙ ap (λ n. pieces_naming n (is_end packet.what) packet.at packet.header.counter held_data) (sym is.names)
