-- A stream keeps of each channel what its recording holds.
use Rattle.std.proofs.Common.{ℕ, ◌≡◌, ◌⊎◌, inl, inr, List, [], ◌∷◌, ◌++◌, map, Option, None, Some, refl, sym, subst, ap, ◌∙◌, append-nil}
use Rattle.std.specs.Prelude.{Bool, true, false, ◌==◌, if◌then◌else◌}
use Rattle.std.specs.List.{AllByRecursion, flat_map}
use Rattle.std.proofs.lemmas.List.{append_assoc}
use Rattle.std.proofs.lemmas.Bool.{true≢false}
use Rattle.std.proofs.lemmas.Option.{none-some}
use Rattle.std.proofs.lemmas.Grind.{flat_map-append}
use Rattle.ch11_packet.specs.FramesRead.{ReadFrameData}
use Rattle.ch11_packet.specs.Classes.{data_in, said_frames}
use Rattle.ch11_merge.specs.Merging.{FilePiece, part_before, part_from}
use Rattle.ch11_merge.specs.Kept.{Held, held_in, held_of}
use Rattle.ch11_merge.specs.Kept.Held.{HeldFrame, HeldRecord}
use Rattle.ch11_merge.specs.Parts.{frames_pieces}
use Rattle.ch11_merge.proofs.Merged.{takes_held}
use Rattle.ch11_file.specs.FileBlocks.{BlockContent, FileBlock, merged_in, merged_with}
use Rattle.ch11_file.specs.FileBlocks.BlockContent.{SetupBlock, TimeBlock, PieceBlock, NodeBlock, RootBlock}
use Rattle.rec_reader.specs.Packets.{PacketData}
use Rattle.rec_pieces.specs.declared.entry.PieceKind.{PieceKind}
use Rattle.rec_pieces.specs.declared.entry.PieceKind.TheVariants.{Frames, Record, Uncounted}
use Rattle.rec_pieces.specs.Entries.{packet_names, pieces_named, pieces_of, pieces_of_channel, pieces_of_packet}
use Rattle.rec_pieces.specs.Listings.{counters_in, frame_counter, least_of, lesser, packet_counters}
use Rattle.rec_whole.specs.WholeFrames.{frame_held, held_in_packets}
use Rattle.rec_whole.proofs.FilesReadBack.{held_pieces}
use Rattle.rec_whole.proofs.PiecesOut.{all_append}
use Rattle.rec_stream.specs.StreamPieces.{StreamPiece, is_end, pieces_naming, pieces_on, stream_piece, stream_pieces}
use Rattle.rec_stream.specs.StreamBlocks.{StreamFacts, StreamState, StreamContentGoes, StreamGoesOut}
use Rattle.rec_stream.specs.Streams.{StreamStage, AreStream, NamedGoes, PacketsGo, PiecesGo, begun_by}
use Rattle.rec_stream.specs.Streams.StreamStage.{Waiting, Begun}
use Rattle.rec_stream.specs.StreamsRead.{has_counter, if_counted, if_uncounted}

-- ---- pieces on their way

-- what pieces on their way hold of a channel
abbrev held_left : (channel : ℕ) → List StreamPiece → List Held
held_left channel [] = []
held_left channel (p ∷ ps) = (if p.channel == channel then held_in p.piece else []) ++ held_left channel ps

left_append : (channel : ℕ) (xs ys : List StreamPiece) → held_left channel (xs ++ ys) ≡ held_left channel xs ++ held_left channel ys
left_append channel [] ys = refl
left_append channel (x ∷ xs) ys =
    let first = if x.channel == channel then held_in x.piece else [] in
    ap (λ l. first ++ l) (left_append channel xs ys) ∙ sym (append_assoc first (held_left channel xs) (held_left channel ys))

-- those of one packet
left_of : (channel own : ℕ) (end : Bool) (pieces : List FilePiece)
    → held_left channel (map (stream_piece own end) pieces) ≡ (if own == channel then flat_map held_in pieces else [])
left_of channel own end pieces = here (own == channel) refl pieces
  where
    here : (is : Bool) → (own == channel) ≡ is → (ps : List FilePiece)
        → held_left channel (map (stream_piece own end) ps) ≡ (if is then flat_map held_in ps else [])
    here true same [] = refl
    here false same [] = refl
    here true same (p ∷ ps) =
        ap (λ (b : Bool). (if b then held_in p else []) ++ held_left channel (map (stream_piece own end) ps)) same
        ∙ ap (λ l. held_in p ++ l) (here true same ps)
    here false same (p ∷ ps) =
        ap (λ (b : Bool). (if b then held_in p else []) ++ held_left channel (map (stream_piece own end) ps)) same ∙ here false same ps

-- what goes out of a piece, and what stays
pub part_held : (tick : ℕ) (piece : FilePiece) → held_in (part_before tick piece) ++ flat_map held_in (part_from tick piece) ≡ held_in piece
part_held tick piece =
    ap (λ l. held_in (part_before tick piece) ++ flat_map held_in l) (sym (append-nil (part_from tick piece)))
    ∙ takes_held tick (piece ∷ []) (part_before tick piece) (part_from tick piece ++ []) (refl, refl)
    ∙ append-nil (held_in piece)

part_left : (channel tick : ℕ) (first : StreamPiece)
    → (if first.channel == channel then held_in (part_before tick first.piece) else []) ++ held_left channel (pieces_on first (part_from tick first.piece))
    ≡ (if first.channel == channel then held_in first.piece else [])
part_left channel tick first =
    ap (λ l. (if first.channel == channel then held_in (part_before tick first.piece) else []) ++ l)
    (left_of channel first.channel first.is_end (part_from tick first.piece))
    ∙ here (first.channel == channel)
  where
    here : (is : Bool) → (if is then held_in (part_before tick first.piece) else []) ++ (if is then flat_map held_in (part_from tick first.piece) else [])
        ≡ (if is then held_in first.piece else [])
    here true = part_held tick first.piece
    here false = refl

-- ---- what goes out

module _ (facts : StreamFacts) (channel : ℕ) where
  goes_held : (old next new : StreamState) (content : BlockContent) (counter : ℕ) (blocks : List FileBlock)
      → StreamContentGoes facts old content counter next
      → held_of channel (merged_in blocks) ++ held_left channel new.left ≡ held_left channel next.left
      → held_of channel (merged_with content counter (merged_in blocks)) ++ held_left channel new.left ≡ held_left channel old.left
  goes_held old next new (SetupBlock text) counter blocks goes rest = rest ∙ ap (λ (s : StreamState). held_left channel s.left) goes.new_is
  goes_held old next new (TimeBlock e time) counter blocks goes rest = rest ∙ ap (λ (s : StreamState). held_left channel s.left) goes.new_is
  goes_held old next new (PieceBlock own piece) counter blocks goes rest =
      let first = goes.first in
      let others = goes.others in
      let out = if own == channel then held_in piece else [] in
      let part = if first.channel == channel then held_in (part_before goes.next first.piece) else [] in
      let stays = held_left channel (pieces_on first (part_from goes.next first.piece)) in
      append_assoc out (held_of channel (merged_in blocks)) (held_left channel new.left)
      ∙ ap (λ l. out ++ l) (rest ∙ ap (λ (s : StreamState). held_left channel s.left) goes.new_is
      ∙ left_append channel (pieces_on first (part_from goes.next first.piece)) others)
      ∙ ap (λ (n : ℕ). (if n == channel then held_in piece else []) ++ (stays ++ held_left channel others)) goes.channel_is
      ∙ ap (λ (p : FilePiece). (if first.channel == channel then held_in p else []) ++ (stays ++ held_left channel others)) goes.piece_is
      ∙ sym (append_assoc part stays (held_left channel others))
      ∙ ap (λ l. l ++ held_left channel others) (part_left channel goes.next first)
      ∙ ap (held_left channel) (sym goes.left_is)
  goes_held old next new (NodeBlock entries) counter blocks goes rest = absurd goes
  goes_held old next new (RootBlock nodes last) counter blocks goes rest = absurd goes

  out_held : (old new : StreamState) (blocks : List FileBlock) → StreamGoesOut facts old blocks new
      → held_of channel (merged_in blocks) ++ held_left channel new.left ≡ held_left channel old.left
  out_held old new [] go = ap (λ (s : StreamState). held_left channel s.left) go
  out_held old new (b ∷ blocks) go = goes_held old go.0 new b.content b.counter blocks go.1.goes (out_held go.0 new blocks go.2)

-- ---- what a packet holds

abbrev IsCounted : Held → Type 0
IsCounted held = has_counter held ≡ true

abbrev IsUncounted : Held → Type 0
IsUncounted held = has_counter held ≡ false

named_held : (channel : ℕ) (names : Option (ℕ × PieceKind)) (end : Bool) (place counter : ℕ) (bytes : List ℕ)
    → held_left channel (pieces_naming names end place counter bytes) ≡ flat_map held_in (pieces_named channel names place counter bytes)
named_held channel None end place counter bytes = refl
named_held channel (Some (own, kind)) end place counter bytes = left_of channel own end (pieces_of kind place counter bytes) ∙ here (own == channel)
  where
    here : (is : Bool) → (if is then flat_map held_in (pieces_of kind place counter bytes) else [])
        ≡ flat_map held_in (if is then pieces_of kind place counter bytes else [])
    here true = refl
    here false = refl

packet_held : (channel : ℕ) (packet : PacketData) → held_left channel (stream_pieces packet) ≡ flat_map held_in (pieces_of_packet channel packet)
packet_held channel packet =
    named_held channel (packet_names packet) (is_end packet.what) packet.at packet.header.counter (data_in packet.header packet.body)

frames_counted : (frames : List ReadFrameData) → AllByRecursion IsCounted (map HeldFrame frames)
frames_counted [] = tt
frames_counted (f ∷ fs) = (refl, frames_counted fs)

pieces_counted : (kind : PieceKind) (own place counter least : ℕ) (bytes : List ℕ) → least_of (counters_in (Some (own, kind)) counter bytes) ≡ Some least
    → AllByRecursion IsCounted (flat_map held_in (pieces_of kind place counter bytes))
pieces_counted Frames own place counter least bytes is =
    subst (AllByRecursion IsCounted) (sym (held_pieces place (said_frames bytes))) (frames_counted (said_frames bytes))
pieces_counted Record own place counter least bytes is = (refl, tt)
pieces_counted Uncounted own place counter least bytes is = absurd (none-some least is)

counted_packet : (channel : ℕ) (names : Option (ℕ × PieceKind)) (place counter least : ℕ) (bytes : List ℕ)
    → least_of (counters_in names counter bytes) ≡ Some least
    → AllByRecursion IsCounted (flat_map held_in (pieces_named channel names place counter bytes))
counted_packet channel None place counter least bytes is = tt
counted_packet channel (Some (own, kind)) place counter least bytes is = here (own == channel)
  where
    here : (same : Bool) → AllByRecursion IsCounted (flat_map held_in (if same then pieces_of kind place counter bytes else []))
    here true = pieces_counted kind own place counter least bytes is
    here false = tt

pub lesser_some : (counter : ℕ) (other : Option ℕ) → lesser (Some counter) other ≡ None → ⊥
lesser_some counter None is = none-some counter (sym is)
lesser_some counter (Some other) is = none-some _ (sym is)

no_frames : (place : ℕ) (frames : List ReadFrameData) → least_of (map frame_counter frames) ≡ None
    → AllByRecursion IsUncounted (flat_map held_in (frames_pieces place frames))
no_frames place [] is = tt
no_frames place (f ∷ fs) is = absurd (lesser_some f.counter (least_of (map frame_counter fs)) is)

pieces_uncounted : (kind : PieceKind) (own place counter : ℕ) (bytes : List ℕ) → least_of (counters_in (Some (own, kind)) counter bytes) ≡ None
    → AllByRecursion IsUncounted (flat_map held_in (pieces_of kind place counter bytes))
pieces_uncounted Frames own place counter bytes is = no_frames place (said_frames bytes) is
pieces_uncounted Record own place counter bytes is = absurd (none-some counter (sym is))
pieces_uncounted Uncounted own place counter bytes is = (refl, tt)

uncounted_packet : (channel : ℕ) (names : Option (ℕ × PieceKind)) (place counter : ℕ) (bytes : List ℕ) → least_of (counters_in names counter bytes) ≡ None
    → AllByRecursion IsUncounted (flat_map held_in (pieces_named channel names place counter bytes))
uncounted_packet channel None place counter bytes is = tt
uncounted_packet channel (Some (own, kind)) place counter bytes is = here (own == channel)
  where
    here : (same : Bool) → AllByRecursion IsUncounted (flat_map held_in (if same then pieces_of kind place counter bytes else []))
    here true = pieces_uncounted kind own place counter bytes is
    here false = tt

-- ---- all packets

merged_append : (channel : ℕ) (xs ys : List FileBlock)
    → held_of channel (merged_in (xs ++ ys)) ≡ held_of channel (merged_in xs) ++ held_of channel (merged_in ys)
merged_append channel [] ys = refl
merged_append channel (x ∷ xs) ys = here x.content (merged_append channel xs ys)
  where
    here : (content : BlockContent)
        → held_of channel (merged_in (xs ++ ys)) ≡ held_of channel (merged_in xs) ++ held_of channel (merged_in ys)
        → held_of channel (merged_with content x.counter (merged_in (xs ++ ys)))
        ≡ held_of channel (merged_with content x.counter (merged_in xs)) ++ held_of channel (merged_in ys)
    here (SetupBlock text) rest = rest
    here (TimeBlock e time) rest = rest
    here (PieceBlock own piece) rest =
        let first = if own == channel then held_in piece else [] in
        ap (λ l. first ++ l) rest ∙ sym (append_assoc first (held_of channel (merged_in xs)) (held_of channel (merged_in ys)))
    here (NodeBlock entries) rest = rest
    here (RootBlock nodes last) rest = rest

-- of what has a counter nothing is told, or of what has none
abbrev pub TellsHalf : {X : Type 0} → (Held → List X) → Type 0
TellsHalf f = ((held : Held) → has_counter held ≡ false → f held ≡ []) ⊎ ((held : Held) → has_counter held ≡ true → f held ≡ [])

module _ (channel : ℕ) {X : Type 0} (f : Held → List X) where
  abbrev told : List Held → List X
  told held = flat_map f held

  none_told : (is : Bool) → ((held : Held) → has_counter held ≡ is → f held ≡ []) → (held : List Held)
      → AllByRecursion (λ h. has_counter h ≡ is) held → told held ≡ []
  none_told is none [] all = refl
  none_told is none (h ∷ hs) all = ap (λ l. l ++ told hs) (none h all.0) ∙ none_told is none hs all.1

  -- ends that wait stand behind a packet's pieces
  exchanged : TellsHalf f → (ends pieces : List Held) → AllByRecursion IsUncounted ends → AllByRecursion IsCounted pieces
      → told (pieces ++ ends) ≡ told ends ++ told pieces
  exchanged (inl none) ends pieces without with =
      let nothing = none_told false none ends without in
      flat_map-append f pieces ends ∙ ap (λ l. told pieces ++ l) nothing ∙ append-nil (told pieces) ∙ ap (λ l. l ++ told pieces) (sym nothing)
  exchanged (inr none) ends pieces without with =
      let nothing = none_told true none pieces with in
      flat_map-append f pieces ends ∙ ap (λ l. l ++ told ends) nothing ∙ sym (append-nil (told ends)) ∙ ap (λ l. told ends ++ l) (sym nothing)

  abbrev stage_left : StreamStage → List Held
  stage_left (Waiting ends) = held_left channel ends
  stage_left (Begun state) = held_left channel state.left

  -- what waits has no counter; of a stream that has begun nothing is left
  abbrev IsBetween : StreamStage → Type 0
  IsBetween (Waiting ends) = AllByRecursion IsUncounted (held_left channel ends)
  IsBetween (Begun state) = state.left ≡ []

  record Keeps (old new : StreamStage) (blocks : List FileBlock) (held : List Held) : Type 0 where
    same : told (held_of channel (merged_in blocks)) ++ told (stage_left new) ≡ told (stage_left old) ++ told held
    between : IsBetween new

  module _ (facts : StreamFacts) (half : TellsHalf f) where
    whole_keeps : (old new : StreamStage) (start : StreamState) (blocks : List FileBlock) (held : List Held)
        → told (held_left channel start.left) ≡ told (stage_left old) ++ told held
        → PiecesGo facts old (Some start) [] blocks new → Keeps old new blocks held
    whole_keeps old new start blocks held is go =
        let end = go.0 in
        subst (λ (n : StreamStage). Keeps old n blocks held) (sym go.3) (record {
          same = sym (flat_map-append f (held_of channel (merged_in blocks)) (held_left channel end.left))
              ∙ ap told (out_held facts channel start end blocks go.1) ∙ is;
          between = go.2.left;
        })

    pieces_keep : (old new : StreamStage) (least : Option ℕ) (pieces : List StreamPiece) (blocks : List FileBlock) → IsBetween old
        → ((it : ℕ) → least ≡ Some it → AllByRecursion IsCounted (held_left channel pieces))
        → (least ≡ None → AllByRecursion IsUncounted (held_left channel pieces))
        → PiecesGo facts old (begun_by old least pieces) pieces blocks new → Keeps old new blocks (held_left channel pieces)
    pieces_keep (Waiting ends) new None pieces blocks between with without go =
        subst (λ (n : StreamStage). Keeps (Waiting ends) n blocks (held_left channel pieces)) (sym go.1.1) (
        subst (λ l. Keeps (Waiting ends) (Waiting (ends ++ pieces)) l (held_left channel pieces)) (sym go.0) (record {
          same = ap told (left_append channel ends pieces) ∙ flat_map-append f (held_left channel ends) (held_left channel pieces);
          between = subst (AllByRecursion IsUncounted) (sym (left_append channel ends pieces))
              (all_append IsUncounted (held_left channel ends) (held_left channel pieces) between (without refl));
        })
        )
    pieces_keep (Waiting ends) new (Some least) pieces blocks between with without go =
        whole_keeps (Waiting ends) new _ blocks (held_left channel pieces)
        (ap told (left_append channel pieces ends) ∙ exchanged half (held_left channel ends) (held_left channel pieces) between (with least refl)) go
    pieces_keep (Begun state) new least pieces blocks between with without go =
        whole_keeps (Begun state) new _ blocks (held_left channel pieces)
        (ap (λ l. told (held_left channel l) ++ told (held_left channel pieces)) (sym between)) go

    named_keeps : (names : Option (ℕ × PieceKind)) (old new : StreamStage) (packet : PacketData) (blocks : List FileBlock)
        → packet_names packet ≡ names → IsBetween old → NamedGoes facts names old packet blocks new
        → Keeps old new blocks (held_left channel (stream_pieces packet))
    named_keeps None old new packet blocks is between go =
        subst (λ (n : StreamStage). Keeps old n blocks (held_left channel (stream_pieces packet))) (sym go.1) (
        subst (λ l. Keeps old old l (held_left channel (stream_pieces packet))) (sym go.0) (record {
          same = sym (append-nil (told (stage_left old)))
              ∙ ap (λ (n : Option (ℕ × PieceKind)). told (stage_left old) ++ told (held_left channel (pieces_naming n (is_end packet.what) packet.at
              packet.header.counter (data_in packet.header packet.body)))) (sym is);
          between = between;
        })
        )
    named_keeps (Some (own, kind)) old new packet blocks is between go =
        let bytes = data_in packet.header packet.body in
        let same = packet_held channel packet in
        pieces_keep old new (least_of (packet_counters packet)) (stream_pieces packet) blocks between
        (λ it has. subst (AllByRecursion IsCounted) (sym same) (counted_packet channel (packet_names packet) packet.at packet.header.counter it bytes has))
        (λ none. subst (AllByRecursion IsUncounted) (sym same) (uncounted_packet channel (packet_names packet) packet.at packet.header.counter bytes none))
        go.1

    packets_keep : (old new : StreamStage) (packets : List PacketData) (blocks : List FileBlock) → IsBetween old → PacketsGo facts old packets blocks new
        → Keeps old new blocks (held_in_packets channel packets)
    packets_keep old new [] blocks between go =
        subst (λ (n : StreamStage). Keeps old n blocks []) (sym go.1) (
        subst (λ l. Keeps old old l []) (sym go.0) (record { same = sym (append-nil (told (stage_left old))); between = between })
        )
    packets_keep old new (p ∷ packets) blocks between (mid, ahead, behind, is, first, rest) =
        let one = named_keeps (packet_names p) old mid p ahead refl between first in
        let more = packets_keep mid new packets behind one.between rest in
        let out = told (held_of channel (merged_in ahead)) in
        let later = told (held_of channel (merged_in behind)) in
        let own = told (held_left channel (stream_pieces p)) in
        let others = told (held_in_packets channel packets) in
        record {
          same =
              ap (λ l. told (held_of channel (merged_in l)) ++ told (stage_left new)) is
              ∙ ap (λ l. told l ++ told (stage_left new)) (merged_append channel ahead behind)
              ∙ ap (λ l. l ++ told (stage_left new)) (flat_map-append f (held_of channel (merged_in ahead)) (held_of channel (merged_in behind)))
              ∙ append_assoc out later (told (stage_left new))
              ∙ ap (λ l. out ++ l) more.same
              ∙ sym (append_assoc out (told (stage_left mid)) others)
              ∙ ap (λ l. l ++ others) one.same
              ∙ append_assoc (told (stage_left old)) own others
              ∙ ap (λ l. told (stage_left old) ++ (told l ++ others)) (packet_held channel p)
              ∙ ap (λ l. told (stage_left old) ++ l)
              (sym (flat_map-append f (flat_map held_in (pieces_of_packet channel p)) (held_in_packets channel packets)))
              ∙ ap (λ l. told (stage_left old) ++ told l)
              (sym (flat_map-append held_in (pieces_of_packet channel p) (pieces_of_channel channel packets)));
          between = more.between;
        }

    pub stream_keeps : (packets : List PacketData) (blocks : List FileBlock) (stage : StreamStage) → AreStream facts packets blocks stage
        → told (held_of channel (merged_in blocks)) ++ told (stage_left stage) ≡ told (held_in_packets channel packets)
    stream_keeps packets blocks stage go = (packets_keep (Waiting []) stage packets blocks tt go).same

    -- nothing waits of a stream that has begun
    pub begun_keeps : (packets : List PacketData) (blocks : List FileBlock) (state : StreamState) → AreStream facts packets blocks (Begun state)
        → told (held_of channel (merged_in blocks)) ≡ told (held_in_packets channel packets)
    begun_keeps packets blocks state go =
        let all = packets_keep (Waiting []) (Begun state) packets blocks tt go in
        sym (append-nil (told (held_of channel (merged_in blocks))))
        ∙ ap (λ l. told (held_of channel (merged_in blocks)) ++ told (held_left channel l)) (sym all.between) ∙ all.same

  -- what has a counter never waits
  pub counted_keeps : (facts : StreamFacts) → ((held : Held) → has_counter held ≡ false → f held ≡ []) → (packets : List PacketData)
      (blocks : List FileBlock) (stage : StreamStage) → AreStream facts packets blocks stage
      → told (held_of channel (merged_in blocks)) ≡ told (held_in_packets channel packets)
  counted_keeps facts none packets blocks (Waiting ends) go =
      let all = packets_keep facts (inl none) (Waiting []) (Waiting ends) packets blocks tt go in
      sym (append-nil (told (held_of channel (merged_in blocks))))
      ∙ ap (λ l. told (held_of channel (merged_in blocks)) ++ l) (sym (none_told false none (held_left channel ends) all.between)) ∙ all.same
  counted_keeps facts none packets blocks (Begun state) go = begun_keeps facts (inl none) packets blocks state go

-- ---- halves

pub no_frame : (held : Held) → has_counter held ≡ false → frame_held held ≡ []
no_frame (HeldFrame frame) none = absurd (true≢false none)
no_frame (HeldRecord counter body) none = refl

pub no_uncounted : (held : Held) → has_counter held ≡ false → if_counted held ≡ []
no_uncounted held none = ap (λ (is : Bool). if is then held ∷ [] else []) none

pub no_counted : (held : Held) → has_counter held ≡ true → if_uncounted held ≡ []
no_counted held has = ap (λ (is : Bool). if is then [] else held ∷ []) has
