-- What holds of each packet of a stream.
use Rattle.std.proofs.Common.{ℕ, List, [], ◌∷◌, ◌++◌, Option, None, Some, refl, sym, subst}
use Rattle.std.specs.List.{AllByRecursion}
use Rattle.ch11_packet.specs.Header.{IsHeader}
use Rattle.ch11_packet.specs.Packet.{packet_trailer}
use Rattle.ch11_packet.specs.Profiles.Profile.{WithSum}
use Rattle.ch11_packet.proofs.Lengths.{length-packet}
use Rattle.ch11_packet.proofs.Summed.{written_sum}
use Rattle.ch11_clock.specs.Clock.{IsClock}
use Rattle.ch11_clock.proofs.PointTimes.{point_agrees}
use Rattle.ch11_file.specs.FileBlocks.{BlockContent, FileBlock, block_body, block_header, block_packet}
use Rattle.ch11_file.specs.FileBlocks.BlockContent.{SetupBlock, TimeBlock, PieceBlock, NodeBlock, RootBlock}
use Rattle.ch11_file.specs.FilesRead.{IsValidPacket, TellsClock}
use Rattle.rec_reader.specs.Packets.{PacketData}
use Rattle.rec_pieces.specs.declared.entry.PieceKind.{PieceKind}
use Rattle.rec_pieces.specs.Entries.{packet_names}
use Rattle.rec_whole.proofs.PiecesOut.{all_append}
use Rattle.rec_stream.specs.StreamPieces.{StreamPiece}
use Rattle.rec_stream.specs.StreamBlocks.{StreamFacts, StreamState, StreamContentGoes, StreamGoesOut, StreamGoesNext}
use Rattle.rec_stream.specs.Streams.{StreamStage, AreStream, NamedGoes, PacketsGo, PiecesGo}
use Rattle.rec_stream.specs.Streams.StreamStage.{Waiting}
use Rattle.rec_stream.specs.StreamsRead.{HasSetupText}
use Rattle.rec_stream.proofs.OneStream.{next_point}

module _ (facts : StreamFacts) (P : FileBlock → Type 0) (each : (old new : StreamState) (b : FileBlock) → StreamGoesNext facts old b new → P b) where
  all_out : (old new : StreamState) (blocks : List FileBlock) → StreamGoesOut facts old blocks new → AllByRecursion P blocks
  all_out old new [] go = tt
  all_out old new (b ∷ blocks) go = (each old go.0 b go.1, all_out go.0 new blocks go.2)

  all_pieces : (old new : StreamStage) (start : Option StreamState) (pieces : List StreamPiece) (blocks : List FileBlock)
      → PiecesGo facts old start pieces blocks new → AllByRecursion P blocks
  all_pieces old new None pieces blocks go = subst (AllByRecursion P) (sym go.0) tt
  all_pieces old new (Some start) pieces blocks go = all_out start go.0 blocks go.1

  all_named : (names : Option (ℕ × PieceKind)) (old new : StreamStage) (packet : PacketData) (blocks : List FileBlock)
      → NamedGoes facts names old packet blocks new → AllByRecursion P blocks
  all_named None old new packet blocks go = subst (AllByRecursion P) (sym go.0) tt
  all_named (Some (channel, kind)) old new packet blocks go = all_pieces old new _ _ blocks go.1

  all_packets : (old new : StreamStage) (packets : List PacketData) (blocks : List FileBlock) → PacketsGo facts old packets blocks new
      → AllByRecursion P blocks
  all_packets old new [] blocks go = subst (AllByRecursion P) (sym go.0) tt
  all_packets old new (p ∷ packets) blocks (mid, ahead, behind, is, first, rest) =
      subst (AllByRecursion P) (sym is) (all_append P ahead behind (all_named (packet_names p) old mid p ahead first) (all_packets mid new packets behind rest))

-- ---- form

formed : (b : FileBlock) → IsHeader (block_header b) → IsValidPacket b
unfolding block_packet block_header
formed b header = record {
  header = header;
  len = length-packet WithSum (block_header b) (block_body b.content);
  body = block_body b.content ++ packet_trailer WithSum (block_body b.content);
  whole = refl;
  sum = written_sum (block_body b.content);
}

pub stream_formed : (facts : StreamFacts) (packets : List PacketData) (blocks : List FileBlock) (stage : StreamStage)
    → AreStream facts packets blocks stage → AllByRecursion IsValidPacket blocks
stream_formed facts packets blocks stage go =
    all_packets facts IsValidPacket (λ old new b goes. formed b goes.header) (Waiting []) stage packets blocks go

-- ---- times

tells : (facts : StreamFacts) → IsClock facts.rules → (old new : StreamState) (content : BlockContent) (counter : ℕ)
    → StreamContentGoes facts old content counter new → TellsClock facts.rules content counter
tells facts clock old new (SetupBlock text) counter goes = tt
tells facts clock old new (TimeBlock e time) counter goes = (
  goes.moment,
  goes.tells,
  point_agrees old.least facts.rules goes.moment counter clock (next_point facts.rules old old.time old.left goes.moment counter goes.is_next),
)
tells facts clock old new (PieceBlock channel piece) counter goes = tt
tells facts clock old new (NodeBlock entries) counter goes = tt
tells facts clock old new (RootBlock nodes last) counter goes = tt

pub stream_tells : (facts : StreamFacts) (packets : List PacketData) (blocks : List FileBlock) (stage : StreamStage) → IsClock facts.rules
    → AreStream facts packets blocks stage → AllByRecursion (λ (b : FileBlock). TellsClock facts.rules b.content b.counter) blocks
stream_tells facts packets blocks stage clock go =
    all_packets facts (λ (b : FileBlock). TellsClock facts.rules b.content b.counter)
    (λ old new b goes. tells facts clock old new b.content b.counter goes.goes) (Waiting []) stage packets blocks go

-- ---- setup records

says : (facts : StreamFacts) (old new : StreamState) (content : BlockContent) (counter : ℕ) → StreamContentGoes facts old content counter new
    → HasSetupText facts.setup content
says facts old new (SetupBlock text) counter goes = (goes.time, goes.text_is)
says facts old new (TimeBlock e time) counter goes = tt
says facts old new (PieceBlock channel piece) counter goes = tt
says facts old new (NodeBlock entries) counter goes = tt
says facts old new (RootBlock nodes last) counter goes = tt

pub stream_says : (facts : StreamFacts) (packets : List PacketData) (blocks : List FileBlock) (stage : StreamStage)
    → AreStream facts packets blocks stage → AllByRecursion (λ (b : FileBlock). HasSetupText facts.setup b.content) blocks
stream_says facts packets blocks stage go =
    all_packets facts (λ (b : FileBlock). HasSetupText facts.setup b.content)
    (λ old new b goes. says facts old new b.content b.counter goes.goes) (Waiting []) stage packets blocks go
