-- The bytes of a stream are read back: its frames are those of the recording.
use Rattle.std.proofs.Common.{ℕ, ◌^◌, ◌≡◌, ◌<◌, inl, inr, List, [], ◌∷◌, ◌++◌, map, Option, None, Some, refl, sym, subst, ap, ◌∙◌, arith}
use Rattle.std.specs.Prelude.{Bool, true, false, ◌==◌, if◌then◌else◌}
use Rattle.std.specs.List.{AllByRecursion, flat_map}
use Rattle.std.proofs.lemmas.Bool.{eq-eqb, leb-false, lt-leb, lt-ltb}
use Rattle.std.proofs.lemmas.List.{map-append}
use Rattle.std.proofs.Math.Nat.{le-max_right}
use Rattle.std.proofs.lemmas.Option.{none-some}
use Rattle.std.proofs.lemmas.Grind.{flat_map-append}
use Rattle.ch11_packet.specs.declared.class.What.{What}
use Rattle.ch11_packet.specs.declared.class.What.TheVariants.{Frames as HoldsFrames, Program, End, Other}
use Rattle.ch11_packet.specs.Header.{IsHeader}
use Rattle.ch11_packet.specs.FramesRead.{ReadFrameData}
use Rattle.ch11_packet.specs.RecordsRead.{RecordData}
use Rattle.ch11_packet.specs.RecordsRead.RecordData.{OfProgram, OfEnd}
use Rattle.ch11_packet.specs.Classes.{data_in}
use Rattle.ch11_merge.specs.declared.source.Head.{Head}
use Rattle.ch11_merge.specs.declared.source.Head.TheVariants.{At, Uncounted, End as NoPiece}
use Rattle.ch11_merge.specs.Merging.{FilePiece, frames_from, head_of_piece, is_due, part_before, part_from, piece_of}
use Rattle.ch11_merge.specs.Merging.FilePiece.{OfFrames, OfRecord}
use Rattle.ch11_merge.specs.Kept.{held_in, held_of}
use Rattle.ch11_file.specs.declared.setup.FileSetup.{FileSetup}
use Rattle.ch11_file.specs.FileBlocks.{BlockContent, FileBlock, block_body, block_header, block_packet, file_bytes, kind_of, merged_in, merged_with}
use Rattle.ch11_file.specs.FileBlocks.BlockContent.{SetupBlock, TimeBlock, PieceBlock, NodeBlock, RootBlock}
use Rattle.ch11_file.specs.FileTimes.{IsNextTick}
use Rattle.ch11_file.specs.WholeFile.{block_channel}
use Rattle.rec_reader.specs.Packets.{PacketData}
use Rattle.rec_pieces.specs.declared.entry.PieceKind.{PieceKind}
use Rattle.rec_pieces.specs.declared.entry.PieceKind.TheVariants.{Frames, Record, Uncounted as NoCounter}
use Rattle.rec_pieces.specs.Entries.{named_by, packet_names, pieces_named, pieces_of, pieces_of_channel, pieces_of_packet}
use Rattle.rec_whole.specs.WholeFrames.{file_frames, frame_held}
use Rattle.rec_whole.proofs.PiecesOut.{ContentHas, HasHead, IsOut, all_append}
use Rattle.rec_whole.proofs.ReadPieces.{IsReadPiece, all_back, all_front, parts_read, record_counter}
use Rattle.rec_stream.specs.StreamPieces.{StreamPiece, head_counter, is_end, pieces_naming, pieces_on, stream_piece, stream_pieces}
use Rattle.rec_stream.specs.StreamBlocks.{StreamFacts, StreamState, NoneIsDue, StreamContentGoes, StreamGoesOut}
use Rattle.rec_stream.specs.Streams.{StreamStage, AreStream, NamedGoes, PacketsGo, PiecesGo, begun_by}
use Rattle.rec_stream.specs.Streams.StreamStage.{Waiting, Begun}

-- ---- as a reader finds it: a record with the counter of its packet, which of an end may be another one

abbrev counted_piece : (counter : ℕ) → FilePiece → FilePiece
counted_piece counter (OfFrames place frames) = OfFrames place frames
counted_piece counter (OfRecord place (Some own) body) = OfRecord place (Some counter) body
counted_piece counter (OfRecord place None body) = OfRecord place None body

abbrev counted_content : (counter : ℕ) → BlockContent → BlockContent
counted_content counter (SetupBlock text) = SetupBlock text
counted_content counter (TimeBlock e time) = TimeBlock e time
counted_content counter (PieceBlock channel piece) = PieceBlock channel (counted_piece counter piece)
counted_content counter (NodeBlock entries) = NodeBlock entries
counted_content counter (RootBlock nodes last) = RootBlock nodes last

abbrev pub as_read : FileBlock → FileBlock
as_read b = record b { content = counted_content b.counter b.content }

same_kind : (counter : ℕ) (content : BlockContent) → kind_of (counted_content counter content) ≡ kind_of content
same_kind counter (SetupBlock text) = refl
same_kind counter (TimeBlock e time) = refl
same_kind counter (PieceBlock channel (OfFrames place frames)) = refl
same_kind counter (PieceBlock channel (OfRecord place (Some own) body)) = refl
same_kind counter (PieceBlock channel (OfRecord place None body)) = refl
same_kind counter (NodeBlock entries) = refl
same_kind counter (RootBlock nodes last) = refl

same_body : (counter : ℕ) (content : BlockContent) → block_body (counted_content counter content) ≡ block_body content
same_body counter (SetupBlock text) = refl
same_body counter (TimeBlock e time) = refl
same_body counter (PieceBlock channel (OfFrames place frames)) = refl
same_body counter (PieceBlock channel (OfRecord place (Some own) body)) = refl
same_body counter (PieceBlock channel (OfRecord place None body)) = refl
same_body counter (NodeBlock entries) = refl
same_body counter (RootBlock nodes last) = refl

same_channel : (setup : FileSetup) (counter : ℕ) (content : BlockContent) → block_channel setup (counted_content counter content) ≡ block_channel setup content
same_channel setup counter (SetupBlock text) = refl
same_channel setup counter (TimeBlock e time) = refl
same_channel setup counter (PieceBlock channel (OfFrames place frames)) = refl
same_channel setup counter (PieceBlock channel (OfRecord place (Some own) body)) = refl
same_channel setup counter (PieceBlock channel (OfRecord place None body)) = refl
same_channel setup counter (NodeBlock entries) = refl
same_channel setup counter (RootBlock nodes last) = refl

same_header : (b : FileBlock) → block_header (as_read b) ≡ block_header b
unfolding block_header
same_header b = rw (same_kind b.counter b.content, same_body b.counter b.content) refl

same_packet : (b : FileBlock) → block_packet (as_read b) ≡ block_packet b
unfolding block_packet
same_packet b = rw (same_header b, same_body b.counter b.content) refl

pub same_bytes : (blocks : List FileBlock) → file_bytes (map as_read blocks) ≡ file_bytes blocks
same_bytes [] = refl
same_bytes (b ∷ blocks) = rw (same_packet b, same_bytes blocks) refl

same_told : (channel own counter : ℕ) (piece : FilePiece) → flat_map frame_held (if own == channel then held_in (counted_piece counter piece) else [])
    ≡ flat_map frame_held (if own == channel then held_in piece else [])
same_told channel own counter piece = here (own == channel) piece
  where
    here : (is : Bool) (p : FilePiece) → flat_map frame_held (if is then held_in (counted_piece counter p) else [])
        ≡ flat_map frame_held (if is then held_in p else [])
    here true (OfFrames place frames) = refl
    here true (OfRecord place (Some own) body) = refl
    here true (OfRecord place None body) = refl
    here false p = refl

pub same_frames : (channel : ℕ) (blocks : List FileBlock) → file_frames channel (map as_read blocks) ≡ file_frames channel blocks
same_frames channel [] = refl
same_frames channel (b ∷ blocks) = here b.content (same_frames channel blocks)
  where
    here : (content : BlockContent) → file_frames channel (map as_read blocks) ≡ file_frames channel blocks
        → flat_map frame_held (held_of channel (merged_with (counted_content b.counter content) b.counter (merged_in (map as_read blocks))))
        ≡ flat_map frame_held (held_of channel (merged_with content b.counter (merged_in blocks)))
    here (SetupBlock text) rest = rest
    here (TimeBlock e time) rest = rest
    here (PieceBlock own piece) rest =
        let found = if own == channel then held_in (counted_piece b.counter piece) else [] in
        let held = if own == channel then held_in piece else [] in
        flat_map-append frame_held found (held_of channel (merged_in (map as_read blocks)))
        ∙ ap (λ l. l ++ file_frames channel (map as_read blocks)) (same_told channel own b.counter piece)
        ∙ ap (λ l. flat_map frame_held held ++ l) rest
        ∙ sym (flat_map-append frame_held held (held_of channel (merged_in blocks)))
    here (NodeBlock entries) rest = rest
    here (RootBlock nodes last) rest = rest

-- ---- pieces that are read

-- the piece of an end holds no frames
abbrev NoFrames : (end : Bool) → FilePiece → Type 0
NoFrames end (OfFrames place frames) = end ≡ false
NoFrames end (OfRecord place counter body) = Unit {0}

abbrev IsReadOn : StreamPiece → Type 0
IsReadOn p = IsReadPiece p.channel p.piece × NoFrames p.is_end p.piece

none_from : (end : Bool) (tick : ℕ) (piece : FilePiece) → NoFrames end piece → AllByRecursion (NoFrames end) (part_from tick piece)
none_from end tick (OfFrames place frames) none = here (frames_from tick frames)
  where
    here : (fs : List ReadFrameData) → AllByRecursion (NoFrames end) (piece_of place fs)
    here [] = tt
    here (f ∷ fs) = (none, tt)
none_from end tick (OfRecord place counter body) none = tt

all_on : (channel : ℕ) (end : Bool) (pieces : List FilePiece) → AllByRecursion (IsReadPiece channel) pieces → AllByRecursion (NoFrames end) pieces
    → AllByRecursion IsReadOn (map (stream_piece channel end) pieces)
all_on channel end [] read none = tt
all_on channel end (p ∷ ps) read none = ((read.0, none.0), all_on channel end ps read.1 none.1)

-- ---- counters

head_early : (greatest next : ℕ) (end : Bool) (head : Head) → head_counter greatest end head < next → is_due next head ≡ false
head_early greatest next true (At own) less = let most = le-max_right greatest own in lt-leb next own (omega (arith, less, most))
head_early greatest next false (At own) less = lt-leb next own less
head_early greatest next end Uncounted less = refl
head_early greatest next end NoPiece less = refl

is_early : (facts : StreamFacts) (least time next counter : ℕ) → NoneIsDue facts.rules least time counter → IsNextTick least facts.rules time next
    → counter < 2 ^ 48 → counter < next
is_early facts least time next counter none (inl behind) fits = none behind.moment next behind.is behind.behind
is_early facts least time next counter none (inr past) fits = subst (λ n. counter < n) (sym past.2) fits

head_before : (next : ℕ) (piece : FilePiece) → is_due next (head_of_piece piece) ≡ false → head_of_piece (part_before next piece) ≡ head_of_piece piece
head_before next (OfFrames place []) early = refl
head_before next (OfFrames place (f ∷ fs)) early = rw (lt-ltb f.counter next (leb-false next f.counter early)) refl
head_before next (OfRecord place counter body) early = refl

recounted : (said : RecordData) (own counter other : ℕ) → Some own ≡ record_counter said other → Some counter ≡ record_counter said counter
recounted (OfProgram channel version first insns) own counter other is = refl
recounted (OfEnd end) own counter other is = here (end.offered == 0) is
  where
    here : (none : Bool) → Some own ≡ (if none then None else Some other) → Some counter ≡ (if none then None else Some counter)
    here true e = absurd (none-some own (sym e))
    here false e = refl

-- a piece that goes out is read with the counter of its packet
piece_read : (channel greatest counter : ℕ) (end : Bool) (piece : FilePiece) → IsReadPiece channel piece → NoFrames end piece
    → counter ≡ head_counter greatest end (head_of_piece piece)
    → IsReadPiece channel (counted_piece counter piece) × HasHead (head_of_piece (counted_piece counter piece)) counter
piece_read channel greatest counter end (OfFrames place []) read none is = (read, tt)
piece_read channel greatest counter end (OfFrames place (f ∷ fs)) read none is =
    (read, is ∙ ap (λ e. head_counter greatest e (At f.counter)) none)
piece_read channel greatest counter end (OfRecord place (Some own) body) read none is = (
  record {
    said = read.said;
    spells = read.spells;
    named = read.named;
    own = counter;
    counted = λ shown. recounted read.said own counter read.own (read.counted shown);
  },
  refl,
)
piece_read channel greatest counter end (OfRecord place None body) read none is = (read, tt)

-- ---- what goes out

counter_fits : (b : FileBlock) → IsHeader (block_header b) → b.counter < 2 ^ 48
unfolding block_header
counter_fits b header = header.counter

none_before : (end : Bool) (tick : ℕ) (piece : FilePiece) → NoFrames end piece → NoFrames end (part_before tick piece)
none_before end tick (OfFrames place frames) none = none
none_before end tick (OfRecord place counter body) none = tt

module _ (facts : StreamFacts) where
  content_read : (old new : StreamState) (content : BlockContent) (counter : ℕ) → StreamContentGoes facts old content counter new → counter < 2 ^ 48
      → AllByRecursion IsReadOn old.left
      → ContentHas IsReadPiece (counted_content counter content) counter × AllByRecursion IsReadOn new.left
  content_read old new (SetupBlock text) counter goes fits all =
      (tt, subst (λ (s : StreamState). AllByRecursion IsReadOn s.left) (sym goes.new_is) all)
  content_read old new (TimeBlock e time) counter goes fits all =
      (tt, subst (λ (s : StreamState). AllByRecursion IsReadOn s.left) (sym goes.new_is) all)
  content_read old new (PieceBlock channel piece) counter goes fits all =
      let first = goes.first in
      let left = subst (AllByRecursion IsReadOn) goes.left_is all in
      let less = is_early facts old.least goes.time goes.next counter goes.none_due goes.follows fits in
      let early = head_early old.greatest goes.next first.is_end (head_of_piece first.piece) (subst (λ n. n < goes.next) goes.counter_is less) in
      let read = parts_read.before first.channel goes.next first.piece early left.0.0 in
      let found = piece_read first.channel old.greatest counter first.is_end (part_before goes.next first.piece) read
      (none_before first.is_end goes.next first.piece left.0.1)
      (goes.counter_is ∙ ap (head_counter old.greatest first.is_end) (sym (head_before goes.next first.piece early))) in (
        subst (λ (n : ℕ). ContentHas IsReadPiece (PieceBlock n (counted_piece counter piece)) counter) (sym goes.channel_is)
            (subst (λ (p : FilePiece). ContentHas IsReadPiece (PieceBlock first.channel (counted_piece counter p)) counter) (sym goes.piece_is) found),
        subst (λ (s : StreamState). AllByRecursion IsReadOn s.left) (sym goes.new_is)
            (all_append IsReadOn (pieces_on first (part_from goes.next first.piece)) goes.others
            (all_on first.channel first.is_end (part_from goes.next first.piece)
            (parts_read.behind first.channel goes.next first.piece left.0.0) (none_from first.is_end goes.next first.piece left.0.1)) left.1),
      )
  content_read old new (NodeBlock entries) counter goes fits all = absurd goes
  content_read old new (RootBlock nodes last) counter goes fits all = absurd goes

  out_read : (old new : StreamState) (blocks : List FileBlock) → StreamGoesOut facts old blocks new → AllByRecursion IsReadOn old.left
      → AllByRecursion (IsOut facts.setup IsReadPiece) (map as_read blocks)
  out_read old new [] go all = tt
  out_read old new (b ∷ blocks) go all =
      let goes = go.1 in
      let found = content_read old go.0 b.content b.counter goes.goes (counter_fits b goes.header) all in (
        record {
          header = subst IsHeader (sym (same_header b)) goes.header;
          channel = goes.channel ∙ sym (same_channel facts.setup b.counter b.content);
          content = found.0;
        },
        out_read go.0 new blocks go.2 found.1,
      )

-- ---- the pieces of a packet

all_frames : (channel : ℕ) (pieces : List FilePiece) → AllByRecursion (NoFrames false) pieces
all_frames channel [] = tt
all_frames channel (OfFrames place frames ∷ ps) = (refl, all_frames channel ps)
all_frames channel (OfRecord place counter body ∷ ps) = (tt, all_frames channel ps)

abbrev AllNoFrames : (end : Bool) → Option (ℕ × PieceKind) → (place counter : ℕ) → List ℕ → Type 0
AllNoFrames end None place counter bytes = Unit {0}
AllNoFrames end (Some (own, kind)) place counter bytes = AllByRecursion (NoFrames end) (pieces_of kind place counter bytes)

what_has : (channel : ℕ) (what : What) (place counter : ℕ) (bytes : List ℕ) → AllNoFrames (is_end what) (named_by channel what) place counter bytes
what_has channel (HoldsFrames count) place counter bytes = here (channel == 0)
  where
    here : (none : Bool) → AllNoFrames false (if none then None else Some (channel, Frames)) place counter bytes
    here true = tt
    here false = all_frames channel (pieces_of Frames place counter bytes)
what_has channel (Program named version first count) place counter bytes = (tt, tt)
what_has channel (End named offered kept) place counter bytes = here (offered == 0)
  where
    here : (none : Bool) → AllByRecursion (NoFrames true) (pieces_of (if none then NoCounter else Record) place counter bytes)
    here true = (tt, tt)
    here false = (tt, tt)
what_has channel Other place counter bytes = tt

named_read : (names : Option (ℕ × PieceKind)) (end : Bool) (place counter : ℕ) (bytes : List ℕ)
    → ((channel : ℕ) → AllByRecursion (IsReadPiece channel) (pieces_named channel names place counter bytes)) → AllNoFrames end names place counter bytes
    → AllByRecursion IsReadOn (pieces_naming names end place counter bytes)
named_read None end place counter bytes read none = tt
named_read (Some (own, kind)) end place counter bytes read none =
    all_on own end (pieces_of kind place counter bytes)
    (subst (λ (is : Bool). AllByRecursion (IsReadPiece own) (if is then pieces_of kind place counter bytes else [])) (eq-eqb own own refl) (read own)) none

packet_read : (packet : PacketData) → ((channel : ℕ) → AllByRecursion (IsReadPiece channel) (pieces_of_packet channel packet))
    → AllByRecursion IsReadOn (stream_pieces packet)
packet_read packet read =
    named_read (packet_names packet) (is_end packet.what) packet.at packet.header.counter (data_in packet.header packet.body) read
    (what_has packet.header.channel packet.what packet.at packet.header.counter (data_in packet.header packet.body))

-- ---- all packets

abbrev StageIsRead : StreamStage → Type 0
StageIsRead (Waiting ends) = AllByRecursion IsReadOn ends
StageIsRead (Begun state) = AllByRecursion IsReadOn state.left

module _ (facts : StreamFacts) where
  abbrev AreOut : List FileBlock → Type 0
  AreOut blocks = AllByRecursion (IsOut facts.setup IsReadPiece) (map as_read blocks)

  whole_read : (old new : StreamStage) (start : StreamState) (pieces : List StreamPiece) (blocks : List FileBlock) → AllByRecursion IsReadOn start.left
      → PiecesGo facts old (Some start) pieces blocks new → AreOut blocks × StageIsRead new
  whole_read old new start pieces blocks all go = (
    out_read facts start go.0 blocks go.1 all,
    subst StageIsRead (sym go.3) (subst (AllByRecursion IsReadOn) (sym go.2.left) tt),
  )

  pieces_read : (old new : StreamStage) (least : Option ℕ) (pieces : List StreamPiece) (blocks : List FileBlock) → StageIsRead old
      → AllByRecursion IsReadOn pieces → PiecesGo facts old (begun_by old least pieces) pieces blocks new → AreOut blocks × StageIsRead new
  pieces_read (Waiting ends) new None pieces blocks stage all go =
      (subst AreOut (sym go.0) tt, subst StageIsRead (sym go.1.1) (all_append IsReadOn ends pieces stage all))
  pieces_read (Waiting ends) new (Some least) pieces blocks stage all go =
      whole_read (Waiting ends) new _ pieces blocks (all_append IsReadOn pieces ends all stage) go
  pieces_read (Begun state) new least pieces blocks stage all go = whole_read (Begun state) new _ pieces blocks all go

  names_read : (names : Option (ℕ × PieceKind)) (old new : StreamStage) (packet : PacketData) (blocks : List FileBlock) → StageIsRead old
      → AllByRecursion IsReadOn (stream_pieces packet) → NamedGoes facts names old packet blocks new → AreOut blocks × StageIsRead new
  names_read None old new packet blocks stage all go = (subst AreOut (sym go.0) tt, subst StageIsRead (sym go.1) stage)
  names_read (Some (own, kind)) old new packet blocks stage all go = pieces_read old new _ (stream_pieces packet) blocks stage all go.1

  packets_out : (old new : StreamStage) (packets : List PacketData) (blocks : List FileBlock) → StageIsRead old
      → ((channel : ℕ) → AllByRecursion (IsReadPiece channel) (pieces_of_channel channel packets)) → PacketsGo facts old packets blocks new → AreOut blocks
  packets_out old new [] blocks stage read go = subst AreOut (sym go.0) tt
  packets_out old new (p ∷ packets) blocks stage read (mid, ahead, behind, is, first, rest) =
      let own = packet_read p (λ channel. all_front (IsReadPiece channel) (pieces_of_packet channel p) (pieces_of_channel channel packets) (read channel)) in
      let one = names_read (packet_names p) old mid p ahead stage own first in
      let more = packets_out mid new packets behind one.1
      (λ channel. all_back (IsReadPiece channel) (pieces_of_packet channel p) (pieces_of_channel channel packets) (read channel)) rest in
      subst AreOut (sym is) (subst (AllByRecursion (IsOut facts.setup IsReadPiece)) (sym (map-append as_read ahead behind))
      (all_append (IsOut facts.setup IsReadPiece) (map as_read ahead) (map as_read behind) one.0 more))

  pub stream_out : (packets : List PacketData) (blocks : List FileBlock) (stage : StreamStage)
      → ((channel : ℕ) → AllByRecursion (IsReadPiece channel) (pieces_of_channel channel packets)) → AreStream facts packets blocks stage
      → AllByRecursion (IsOut facts.setup IsReadPiece) (map as_read blocks)
  stream_out packets blocks stage read go = packets_out (Waiting []) stage packets blocks tt read go
