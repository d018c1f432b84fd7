-- The stream of a recording's packets: the packets of a whole file that go out of them, packet by
-- packet.
use Rattle.std.specs.Prelude.{ℕ, ◌+◌, ◌≡◌, Bool, true, false, max, List, [], ◌∷◌, ◌++◌, Option}
use Rattle.std.specs.Prelude.{None, Some, count_by}
use Rattle.ch11_file.specs.FileBlocks.{BlockContent, FileBlock, blocks_of}
use Rattle.ch11_file.specs.FileBlocks.BlockContent.{SetupBlock, TimeBlock, PieceBlock, NodeBlock}
use Rattle.ch11_file.specs.FileBlocks.BlockContent.{RootBlock}
use Rattle.rec_reader.specs.Channels.{capped}
use Rattle.rec_reader.specs.Packets.{PacketData}
use Rattle.rec_pieces.specs.declared.entry.PieceKind.{PieceKind}
use Rattle.rec_pieces.specs.Entries.{packet_names}
use Rattle.rec_pieces.specs.Listings.{least_of, packet_counters}
use Rattle.rec_stream.specs.declared.counts.StreamCounts.{StreamCounts}
use Rattle.rec_stream.specs.LatePieces.{late_one}
use Rattle.rec_stream.specs.StreamChannels.{is_said}
use Rattle.rec_stream.specs.StreamPieces.{StreamPiece, AreNewEnds, stream_pieces}
use Rattle.rec_stream.specs.StreamBlocks.{StreamFacts, StreamState, StreamGoesOut, stream_begun}

-- ---- packet by packet

-- how far a stream has come behind some packets: nothing went out, and these ends wait; or it has
-- begun
pub data StreamStage : Type 0 where
  Waiting : List StreamPiece → StreamStage
  Begun : StreamState → StreamStage

-- the pieces of a packet on their way, where something goes out: with the first packet that has a
-- counter the stream begins, and the ends that waited stand behind its pieces
abbrev pub begun_by : StreamStage → (least : Option ℕ) → List StreamPiece → Option StreamState
begun_by (Waiting ends) None pieces = None
begun_by (Waiting ends) (Some least) pieces = Some (stream_begun least (pieces ++ ends))
begun_by (Begun state) least pieces = Some (record state { left = pieces })

-- nothing goes out: an end without a counter waits, at most one of a channel
abbrev pub Waits : StreamStage → List StreamPiece → (new : StreamStage) → Type 0
Waits (Waiting ends) pieces new = AreNewEnds ends pieces × (new ≡ Waiting (ends ++ pieces))
Waits (Begun state) pieces new = ⊥

-- all pieces went out, behind a time packet
pub record IsAllOut (state : StreamState) : Type 0 where
  pub left : state.left ≡ []
  pub time : ℕ
  pub time_is : state.time ≡ Some time

-- all that goes out of pieces on their way
abbrev pub GoOutWhole : StreamFacts → StreamState → List FileBlock → (new : StreamStage) → Type 0
GoOutWhole facts start blocks new =
    (end : StreamState) × StreamGoesOut facts start blocks end × IsAllOut end × (new ≡ Begun end)

abbrev pub PiecesGo : StreamFacts → (old : StreamStage) → Option StreamState → List StreamPiece
    → List FileBlock
    → (new : StreamStage) → Type 0
PiecesGo facts old None pieces blocks new = (blocks ≡ []) × Waits old pieces new
PiecesGo facts old (Some start) pieces blocks new = GoOutWhole facts start blocks new

-- a packet that names nothing is left out; of any other the setup record says the channel
abbrev pub NamedGoes : StreamFacts → Option (ℕ × PieceKind) → (old : StreamStage) → PacketData
    → List FileBlock
    → (new : StreamStage) → Type 0
NamedGoes facts None old packet blocks new = (blocks ≡ []) × (new ≡ old)
NamedGoes facts (Some (channel, kind)) old packet blocks new =
    (is_said facts.setup.channels.now channel ≡ true)
    × PiecesGo facts old (begun_by old (least_of (packet_counters packet)) (stream_pieces packet))
    (stream_pieces packet) blocks new

abbrev pub PacketGoes : StreamFacts → (old : StreamStage) → PacketData → List FileBlock
    → (new : StreamStage)
    → Type 0
PacketGoes facts old packet blocks new = NamedGoes facts (packet_names packet) old packet blocks new

abbrev pub PacketsGo : StreamFacts → (old : StreamStage) → List PacketData → List FileBlock
    → (new : StreamStage)
    → Type 0
PacketsGo facts old [] blocks new = (blocks ≡ []) × (new ≡ old)
PacketsGo facts old (packet ∷ packets) blocks new =
    (mid : StreamStage) × (ahead : List FileBlock) × (behind : List FileBlock)
    × (blocks ≡ ahead ++ behind)
    × PacketGoes facts old packet ahead mid × PacketsGo facts mid packets behind new

-- these blocks are the stream of the packets
abbrev pub AreStream : StreamFacts → List PacketData → List FileBlock → (stage : StreamStage)
    → Type 0
AreStream facts packets blocks stage = PacketsGo facts (Waiting []) packets blocks stage

-- ---- counts

-- 1 for a packet that is such a piece, else 0
abbrev pub late_of : (greatest : ℕ) → BlockContent → (counter : ℕ) → ℕ
late_of greatest (SetupBlock text) counter = 0
late_of greatest (TimeBlock is_external time) counter = 0
late_of greatest (PieceBlock channel piece) counter = late_one greatest counter
late_of greatest (NodeBlock entries) counter = 0
late_of greatest (RootBlock nodes last) counter = 0

-- how many pieces are late, behind headers of which this is the greatest counter
abbrev pub late_behind : (greatest : ℕ) → List FileBlock → ℕ
late_behind greatest [] = 0
late_behind greatest (b ∷ blocks) =
    late_of greatest b.content b.counter + late_behind (max greatest b.counter) blocks

-- the least counter of the first packet that has one
abbrev pub first_some : (first rest : Option ℕ) → Option ℕ
first_some None rest = rest
first_some (Some least) rest = Some least

abbrev pub first_least : List PacketData → Option ℕ
first_least [] = None
first_least (packet ∷ packets) =
    first_some (least_of (packet_counters packet)) (first_least packets)

-- whether a packet is of another kind
abbrev pub is_other_packet : Option (ℕ × PieceKind) → Bool
is_other_packet None = true
is_other_packet (Some named) = false

abbrev pub others_in : List PacketData → ℕ
others_in packets =
    count_by (λ (packet : PacketData). is_other_packet (packet_names packet)) packets

-- the counts of a stream; at 2^64 - 1 they stay
abbrev pub stream_counts_of : List PacketData → List FileBlock → StreamCounts
stream_counts_of packets blocks = record {
  packets = capped (blocks_of 104 blocks);
  records = capped (blocks_of 0 blocks);
  times = capped (blocks_of 17 blocks);
  late = capped (late_behind 0 blocks);
  other = capped (others_in packets);
}
