-- What went out of a stream, as the code keeps it.
use Rattle.std.specs.Prelude.{ℕ, ◌+◌, ◌≡◌, ◌<◌, ◌%◌, ◌^◌, ◌==◌, Bool, max, suc, ⊤, List, [], ◌∷◌}
use Rattle.std.specs.Prelude.{◌++◌, length, map, take, slice_index, slice_set, ℤ, Option, Some}
use Rattle.std.specs.Prelude.{IfSome}
use Rattle.std.specs.List.{list_any}
use Rattle.std.specs.Io.KnownBytes.{Appends}
use Rattle.ch11_clock.specs.declared.origin.Origin.{Origin}
use Rattle.ch11_clock.specs.CivilTime.{IsTimeOf}
use Rattle.ch11_file.specs.declared.kind.BlockKind.{BlockKind}
use Rattle.ch11_file.specs.declared.times.FileTimes.{FileTimes}
use Rattle.ch11_packet.specs.Header.{IsHeader}
use Rattle.ch11_packet.specs.Packet.{packet_bytes}
use Rattle.ch11_packet.specs.Profiles.Profile.{WithSum}
use Rattle.ch11_file.specs.FileBlocks.{FileBlock, blocks_of, file_bytes, head_with}
use Rattle.ch11_file.specs.FileTimes.{IsFirstTime, IsNextTick, WalksTimes, tick_of}
use Rattle.ch11_file.specs.Sending.{AreNextNumbers}
use Rattle.ch11_file.specs.WholeFile.{AreNumbered}
use Rattle.ch11_file.specs.OwnedPieces.{owned_data}
use Rattle.ch11_merge.specs.Merging.{FilePiece}
use Rattle.ch11_merge.specs.Parts.{frames_of_piece}
use Rattle.rec_reader.specs.Channels.{capped}
use Rattle.rec_reader.specs.Packets.{PacketData}
use Rattle.rec_pieces.specs.Entries.{packet_names}
use Rattle.rec_pieces.specs.Listings.{least_of, packet_counters}
use Rattle.rec_stream.specs.declared.made.Made.{Made}
use Rattle.rec_stream.specs.declared.named.Named.{Named}
use Rattle.rec_stream.specs.declared.origin.PieceOrigin.{PieceOrigin}
use Rattle.rec_stream.specs.declared.stage.Stage.{Stage}
use Rattle.rec_stream.specs.declared.stage.Stage.TheVariants.{Waiting as WaitsFor}
use Rattle.rec_stream.specs.declared.stage.Stage.TheVariants.{Begun as HasCourse}
use Rattle.rec_stream.specs.declared.waiting.WaitingEnd.{WaitingEnd}
use Rattle.rec_stream.specs.Courses.{Course}
use Rattle.rec_stream.specs.SentStates.{StreamSent, stream_sent}
use Rattle.rec_stream.specs.StreamPieces.{StreamPiece, AreNewEnds, is_end, stream_counter}
use Rattle.rec_stream.specs.StreamPieces.{stream_piece}
use Rattle.rec_stream.specs.declared.end.StreamEnd.{StreamEnd}
use Rattle.rec_stream.specs.declared.end.StreamEnd.TheVariants.{Refused, Reading, Output, Memory}
use Rattle.rec_stream.specs.declared.end.StreamRefusal.TheVariants.{Other, Origin as NoOrigin, Year}
use Rattle.rec_stream.specs.declared.end.StreamRefusal.TheVariants.{Full}
use Rattle.rec_stream.specs.StreamBlocks.{StreamFacts, StreamState, StreamGoesOut, stream_begun}
use Rattle.rec_stream.specs.Streams.{StreamStage, AreStream, late_behind, others_in}
use Rattle.rec_stream.specs.Streams.StreamStage.{Waiting, Begun}
use Rattle.rec_stream.specs.StreamEnds.{StreamPast}

-- the greatest counter of packets, from one on
abbrev pub greatest_of : (greatest : ℕ) → List FileBlock → ℕ
greatest_of greatest [] = greatest
greatest_of greatest (b ∷ blocks) = greatest_of (max greatest b.counter) blocks

-- ---- a packet

-- a packet went out whole, and only the number of its channel counts on
pub record StreamWritesWhole (old : StreamSent) (kind : BlockKind) (channel counter : ℕ)
    (body : List ℕ)
    (held now : Option (List ℕ)) (new : StreamSent) : Type 0 where
  pub header : IsHeader (head_with channel (slice_index old.numbers channel) counter kind body)
  pub grows : Appends held now
      (packet_bytes WithSum
      (head_with channel (slice_index old.numbers channel) counter kind body) body)
  pub new_is : new ≡ stream_sent
      (slice_set old.numbers channel
      ((slice_index old.numbers channel + 1) % 256)) old.greatest old.counts

-- a part of it went out, or nothing
pub record StreamWritesPart (old : StreamSent) (kind : BlockKind) (channel counter : ℕ)
    (body : List ℕ)
    (held now : Option (List ℕ)) : Type 0 where
  pub header : IsHeader (head_with channel (slice_index old.numbers channel) counter kind body)
  pub len : ℕ
  pub grows : Appends held now (take len
      (packet_bytes WithSum
      (head_with channel (slice_index old.numbers channel) counter kind body) body))

-- ---- all packets

-- these packets went out, and this is known of them
pub record StreamHasSent (before held : Option (List ℕ)) (sent : StreamSent)
    (blocks : List FileBlock) : Type 0 where
  pub numbered : AreNumbered [] blocks
  pub grows : Appends before held (file_bytes blocks)
  pub next : AreNextNumbers sent.numbers blocks
  pub greatest : sent.greatest ≡ greatest_of 0 blocks
  pub packets : sent.counts.packets ≡ capped (blocks_of 104 blocks)
  pub records : sent.counts.records ≡ capped (blocks_of 0 blocks)
  pub times : sent.counts.times ≡ capped (blocks_of 17 blocks)
  pub late : sent.counts.late ≡ capped (late_behind 0 blocks)

-- ---- what goes out of one packet of the recording

-- packets went out behind those ahead, and the stream stands here
pub record HasGone (past : StreamPast) (held : Option (List ℕ)) (sent : StreamSent)
    (now : StreamState) : Type 0 where
  pub blocks : List FileBlock
  pub go : StreamGoesOut past.facts past.start blocks now
  pub has_sent : StreamHasSent past.before held sent (past.ahead ++ blocks)
  pub greatest : now.greatest ≡ sent.greatest

-- ---- its times

-- the time packets that are still to come are those behind this one
pub record IsWalking (rules : List Origin) (least time : ℕ) (times : FileTimes) : Type 0 where
  pub walks : WalksTimes least rules times.next times.points
  pub follows : IsNextTick least rules time (tick_of times.next)

-- the times of a stream that stands here
pub record IsCourse (facts : StreamFacts) (course : Course) (state : StreamState) : Type 0 where
  pub time : ℕ
  pub time_is : state.time ≡ Some time
  pub walking : IsWalking facts.rules state.least time course.times
  pub setup : state.setup ≡ Some course.setup
  pub first : ℤ
  pub tick : ℕ
  pub is_first : IsFirstTime state.least facts.rules first tick
  pub tells : IsTimeOf course.time first

-- nothing went out of a stream that begins with pieces of this least counter
pub record IsFreshStream (past : StreamPast) (least : ℕ) (left : List StreamPiece)
    (held : Option (List ℕ)) (sent : StreamSent)
    : Type 0 where
  pub begun : past.start ≡ stream_begun least left
  pub has_sent : StreamHasSent past.before held sent past.ahead
  pub greatest : sent.greatest ≡ 0

-- packets went out, the times of the stream are these, and this is left
pub record HasCome (past : StreamPast) (held : Option (List ℕ)) (sent : StreamSent)
    (course : Course)
    (left : List StreamPiece) : Type 0 where
  pub now : StreamState
  pub has_gone : HasGone past held sent now
  pub is_course : IsCourse past.facts course now
  pub left_is : now.left ≡ left

-- besides, no time packet is due ahead of the first piece, which has this counter
pub record IsReady (past : StreamPast) (held : Option (List ℕ)) (sent : StreamSent)
    (course : Course)
    (piece : StreamPiece) (others : List StreamPiece) (counter : ℕ) : Type 0 where
  pub now : StreamState
  pub has_gone : HasGone past held sent now
  pub is_course : IsCourse past.facts course now
  pub left_is : now.left ≡ piece ∷ others
  pub counter_is : counter ≡ stream_counter sent.greatest piece
  pub early : counter < tick_of course.times.next

-- ---- pieces

-- a piece that comes from such a packet, and pieces
abbrev pub origin_piece : PieceOrigin → FilePiece → StreamPiece
origin_piece origin piece = stream_piece origin.channel origin.is_end piece

abbrev pub origin_pieces : PieceOrigin → List FilePiece → List StreamPiece
origin_pieces origin pieces = map (origin_piece origin) pieces

-- how many pieces these are, and frames in them
abbrev pub pieces_size : List FilePiece → ℕ
pieces_size [] = 0
pieces_size (piece ∷ pieces) = suc (length (frames_of_piece piece)) + pieces_size pieces

-- ---- a stream behind packets

-- what a packet names, whether it is an end, and its least counter
pub record NamesPacket (packet : PacketData) (named : Named) : Type 0 where
  pub at : named.at ≡ packet.at
  pub names : packet_names packet ≡ Some (named.origin.channel, named.kind)
  pub is_end : named.origin.is_end ≡ is_end packet.what
  pub least : named.least ≡ least_of (packet_counters packet)
  pub fits : IfSome named.least (λ least. least < 2 ^ 48)

-- the stream is made of this
pub record IsMade (facts : StreamFacts) (made : Made) : Type 0 where
  pub setup : facts.setup ≡ made.setup.now
  pub rules : facts.rules ≡ made.clock.now

abbrev pub waiting_piece : WaitingEnd → StreamPiece
waiting_piece end = origin_piece end.origin (owned_data end.piece)

-- whether an end of this channel waits
abbrev pub waits_in : List WaitingEnd → (channel : ℕ) → Bool
waits_in ends channel = list_any (λ (end : WaitingEnd). end.origin.channel == channel) ends

-- the pieces wait behind the ends, none of which is of their channels
abbrev pub MayWait : (ends : List WaitingEnd) → (pieces : List StreamPiece)
    → (new : List WaitingEnd) → Type 0
MayWait ends pieces new =
    (map waiting_piece new ≡ map waiting_piece ends ++ pieces)
    × AreNewEnds (map waiting_piece ends) pieces

-- why they don't: one of their channels waits already, or memory is out
abbrev pub WaitFails : (ends : List WaitingEnd) → Named → (pieces : List FilePiece) → StreamEnd
    → Type 0
WaitFails ends named pieces (Refused (Other at)) =
    (at ≡ named.at) × (¬ AreNewEnds (map waiting_piece ends) (origin_pieces named.origin pieces))
WaitFails ends named pieces (Refused NoOrigin) = ⊥
WaitFails ends named pieces (Refused Year) = ⊥
WaitFails ends named pieces (Refused Full) = ⊥
WaitFails ends named pieces (Reading end) = ⊥
WaitFails ends named pieces Output = ⊥
WaitFails ends named pieces Memory = ⊤

-- how far the code is with it
abbrev pub IsStage : StreamFacts → Stage → StreamStage → List FileBlock → Type 0
IsStage facts (WaitsFor ends) stage blocks =
    (stage ≡ Waiting (map waiting_piece ends.items)) × (blocks ≡ [])
IsStage facts (HasCourse course) stage blocks =
    (state : StreamState) × (stage ≡ Begun state) × IsCourse facts course state × (state.left ≡ [])
    × (state.greatest ≡ greatest_of 0 blocks)

-- the stream of these packets went out
pub record StreamStands (facts : StreamFacts) (before held : Option (List ℕ)) (sent : StreamSent)
    (stage : Stage)
    (packets : List PacketData) : Type 0 where
  pub blocks : List FileBlock
  pub now : StreamStage
  pub are : AreStream facts packets blocks now
  pub has_sent : StreamHasSent before held sent blocks
  pub other : sent.counts.other ≡ capped (others_in packets)
  pub is_stage : IsStage facts stage now blocks
