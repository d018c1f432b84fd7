-- What is written of a stream, and why it ended early.
use Rattle.std.specs.Prelude.{ℕ, ◌≡◌, ◌⊎◌, false, true, List, [], ◌++◌, ℤ, Option, None, Some, Ok}
use Rattle.std.specs.Prelude.{Err, take}
use Rattle.std.specs.Io.KnownBytes.{Appends}
use Rattle.ch11_clock.specs.declared.origin.Origin.{Origin as ClockOrigin}
use Rattle.ch11_file.specs.declared.end.FileFault.{FileFault}
use Rattle.ch11_file.specs.declared.end.FileFault.TheVariants.{Memory as LacksMemory}
use Rattle.ch11_file.specs.declared.end.FileFault.TheVariants.{Output as OutputFails, Long}
use Rattle.ch11_file.specs.declared.setup.FileSetup.{FileSetup}
use Rattle.ch11_file.specs.FileBlocks.{FileBlock, file_bytes}
use Rattle.ch11_file.specs.FileEnds.{HasNoDate}
use Rattle.ch11_file.specs.FileTimes.{HasNoTime}
use Rattle.ch11_file.specs.WholeFile.{AreNumbered}
use Rattle.rec_reader.specs.Packets.{PacketData, BeginsPackets}
use Rattle.rec_reader.specs.Reading.{Reads}
use Rattle.rec_reader.specs.Readers.{Tells}
use Rattle.rec_pieces.specs.declared.entry.PieceKind.{PieceKind}
use Rattle.rec_pieces.specs.Entries.{packet_names}
use Rattle.rec_pieces.specs.Listings.{least_of, packet_counters}
use Rattle.rec_whole.specs.declared.names.FileNames.{FileNames}
use Rattle.ch11_channels.specs.FreeIds.{AreAllTaken}
use Rattle.rec_stream.specs.declared.counts.StreamCounts.{StreamCounts}
use Rattle.rec_stream.specs.declared.end.StreamRefusal.TheVariants.{Other, Origin, Year, Full}
use Rattle.rec_stream.specs.declared.end.StreamEnd.{StreamEnd}
use Rattle.rec_stream.specs.declared.end.StreamEnd.TheVariants.{Refused, Reading, Output, Memory}
use Rattle.rec_stream.specs.StreamChannels.{IsStreamSetup, is_said}
use Rattle.rec_stream.specs.StreamPieces.{AreNewEnds, stream_pieces}
use Rattle.rec_stream.specs.StreamBlocks.{StreamFacts, StreamState, StreamGoesOut, StreamTimeIsNext}
use Rattle.rec_stream.specs.Streams.{StreamStage, AreStream, begun_by, stream_counts_of}
use Rattle.rec_stream.specs.Streams.StreamStage.{Waiting, Begun}

-- what a fault of the output comes to
abbrev pub stream_end_of : FileFault → StreamEnd
stream_end_of LacksMemory = Memory
stream_end_of OutputFails = Output
stream_end_of Long = Output

-- ---- of whole packets of the recording

-- the output grew by the stream of these packets, behind which this holds
pub record HoldsStream (facts : StreamFacts) (packets : List PacketData)
    (before held : Option (List ℕ))
    (StreamStands : List FileBlock → StreamStage → Type 0) : Type 0 where
  pub blocks : List FileBlock
  pub stage : StreamStage
  pub are : AreStream facts packets blocks stage
  pub numbered : AreNumbered [] blocks
  pub grows : Appends before held (file_bytes blocks)
  pub stands : StreamStands blocks stage

-- an end of a channel of which another one waits
abbrev pub IsSecondEnd : StreamStage → PacketData → Type 0
IsSecondEnd (Waiting ends) packet =
    (least_of (packet_counters packet) ≡ None) × (¬ AreNewEnds ends (stream_pieces packet))
IsSecondEnd (Begun state) packet = ⊥

-- the packet names a channel that the setup record doesn't say, or is the second end of one that
-- waits
pub record CantGo (facts : StreamFacts) (stage : StreamStage) (packet : PacketData) : Type 0 where
  pub channel : ℕ
  pub kind : PieceKind
  pub names : packet_names packet ≡ Some (channel, kind)
  pub wrong : (is_said facts.setup.channels.now channel ≡ false) ⊎ IsSecondEnd stage packet

-- ---- of a part of what goes out of a packet

-- what is so before: what the stream is made of, what the output held, the packets that went out
-- ahead, and the pieces on their way
pub record StreamPast : Type 0 where
  pub facts : StreamFacts
  pub before : Option (List ℕ)
  pub ahead : List FileBlock
  pub start : StreamState

abbrev pub past_of : StreamFacts → Option (List ℕ) → List FileBlock → StreamState → StreamPast
past_of facts before ahead start =
    record { facts = facts; before = before; ahead = ahead; start = start }

-- the first bytes of packets went out that go out next
pub record HoldsStreamFront (past : StreamPast) (held : Option (List ℕ)) : Type 0 where
  pub blocks : List FileBlock
  pub now : StreamState
  pub go : StreamGoesOut past.facts past.start blocks now
  pub numbered : AreNumbered [] (past.ahead ++ blocks)
  pub len : ℕ
  pub grows : Appends past.before held (take len (file_bytes (past.ahead ++ blocks)))

-- some went out whole, and the next time packet has no date in the years 1 to 3999
pub record HasNoYear (past : StreamPast) (held : Option (List ℕ)) : Type 0 where
  pub blocks : List FileBlock
  pub now : StreamState
  pub go : StreamGoesOut past.facts past.start blocks now
  pub numbered : AreNumbered [] (past.ahead ++ blocks)
  pub grows : Appends past.before held (file_bytes (past.ahead ++ blocks))
  pub moment : ℤ
  pub tick : ℕ
  pub is_next : StreamTimeIsNext past.facts.rules now now.time now.left moment tick
  pub no_date : HasNoDate moment

-- nothing more went out, since no time packet has a tick
pub record HasNoOrigin (past : StreamPast) (held : Option (List ℕ)) : Type 0 where
  pub none : HasNoTime past.start.least past.facts.rules
  pub numbered : AreNumbered [] past.ahead
  pub grows : Appends past.before held (file_bytes past.ahead)

-- why not all went out
abbrev pub GoingFails : StreamPast → (held : Option (List ℕ)) → StreamEnd → Type 0
GoingFails past held (Refused (Other at)) = ⊥
GoingFails past held (Refused Origin) = HasNoOrigin past held
GoingFails past held (Refused Year) = HasNoYear past held
GoingFails past held (Refused Full) = ⊥
GoingFails past held (Reading end) = ⊥
GoingFails past held Output = HoldsStreamFront past held
GoingFails past held Memory = HoldsStreamFront past held

-- pieces of the packet are on their way with this start, behind such a stage
pub record Starts (facts : StreamFacts) (stage : StreamStage) (packet : PacketData)
    (start : StreamState) : Type 0 where
  pub channel : ℕ
  pub kind : PieceKind
  pub names : packet_names packet ≡ Some (channel, kind)
  pub said : is_said facts.setup.channels.now channel ≡ true
  pub begun : begun_by stage (least_of (packet_counters packet)) (stream_pieces packet) ≡ Some start

-- behind the stream of these packets not all went out of a further one
pub record FailsInside (facts : StreamFacts) (packets : List PacketData) (packet : PacketData)
    (before held : Option (List ℕ)) (end : StreamEnd) : Type 0 where
  pub ahead : List FileBlock
  pub stage : StreamStage
  pub are : AreStream facts packets ahead stage
  pub start : StreamState
  pub starts : Starts facts stage packet start
  pub fails : GoingFails (past_of facts before ahead start) held end

abbrev pub Anything : List FileBlock → StreamStage → Type 0
Anything blocks stage = Unit {0}

-- why the stream of these packets doesn't go on with a further one
abbrev pub PacketFails : StreamFacts → List PacketData → PacketData
    → (before held : Option (List ℕ)) → StreamEnd → Type 0
PacketFails facts packets packet before held (Refused (Other at)) =
    (at ≡ packet.at) × HoldsStream facts packets before held
    (λ blocks stage. CantGo facts stage packet)
PacketFails facts packets packet before held (Refused Origin) =
    FailsInside facts packets packet before held (Refused Origin)
PacketFails facts packets packet before held (Refused Year) =
    FailsInside facts packets packet before held (Refused Year)
PacketFails facts packets packet before held (Refused Full) = ⊥
PacketFails facts packets packet before held (Reading end) = ⊥
PacketFails facts packets packet before held Output =
    HoldsStream facts packets before held Anything
    ⊎ FailsInside facts packets packet before held Output
PacketFails facts packets packet before held Memory =
    HoldsStream facts packets before held Anything
    ⊎ FailsInside facts packets packet before held Memory

-- ---- of a recording

-- the recording is read to its end, and the output grew by the stream of its packets, of which
-- these are the counts
pub record WritesPackets (facts : StreamFacts) (recording : List ℕ) (before held : Option (List ℕ))
    (counts : StreamCounts) : Type 0 where
  pub packets : List PacketData
  pub reads : Reads recording packets None
  pub holds : HoldsStream facts packets before held
      (λ blocks stage. counts ≡ stream_counts_of packets blocks)

-- the recording begins with these packets, of which the stream went out
pub record HoldsSome (facts : StreamFacts) (recording : List ℕ)
    (before held : Option (List ℕ)) : Type 0 where
  pub packets : List PacketData
  pub rest : List ℕ
  pub begins : BeginsPackets 0 packets recording rest
  pub holds : HoldsStream facts packets before held Anything

-- it goes on with a further packet, with which the stream doesn't go on
pub record FailsAt (facts : StreamFacts) (recording : List ℕ) (before held : Option (List ℕ))
    (end : StreamEnd)
    : Type 0 where
  pub packets : List PacketData
  pub packet : PacketData
  pub follows : Tells recording packets (Ok (Some packet))
  pub fails : PacketFails facts packets packet before held end

-- why the stream of a recording ended early
abbrev pub PacketsFail : StreamFacts → (recording : List ℕ) → (before held : Option (List ℕ))
    → StreamEnd → Type 0
PacketsFail facts recording before held (Refused refusal) =
    FailsAt facts recording before held (Refused refusal)
PacketsFail facts recording before held (Reading end) =
    (packets : List PacketData) × Tells recording packets (Err end)
    × HoldsStream facts packets before held Anything
PacketsFail facts recording before held Output =
    HoldsSome facts recording before held ⊎ FailsAt facts recording before held Output
PacketsFail facts recording before held Memory =
    HoldsSome facts recording before held ⊎ FailsAt facts recording before held Memory

-- why there is no next packet: the recording isn't read behind these packets, or the output failed
abbrev pub NextFails : (recording : List ℕ) → List PacketData → StreamEnd → Type 0
NextFails recording packets (Refused refusal) = ⊥
NextFails recording packets (Reading end) = Tells recording packets (Err end)
NextFails recording packets Output = Unit {0}
NextFails recording packets Memory = ⊥

abbrev pub stream_facts : FileSetup → List ClockOrigin → StreamFacts
stream_facts setup rules = record { setup = setup; rules = rules }

-- with the setup record that these names make
abbrev pub WritesStream : FileNames → List ClockOrigin → (recording : List ℕ)
    → (before held : Option (List ℕ))
    → StreamCounts → Type 0
WritesStream names rules recording before held counts =
    (setup : FileSetup) × IsStreamSetup names setup
    × WritesPackets (stream_facts setup rules) recording before held counts

abbrev pub FailsWithSetup : FileNames → List ClockOrigin → (recording : List ℕ)
    → (before held : Option (List ℕ))
    → StreamEnd → Type 0
FailsWithSetup names rules recording before held end =
    (setup : FileSetup) × IsStreamSetup names setup
    × PacketsFail (stream_facts setup rules) recording before held end

-- nothing goes out where no channel ID is free for the times; memory may be out before there is a
-- setup record
abbrev pub StreamFails : FileNames → List ClockOrigin → (recording : List ℕ)
    → (before held : Option (List ℕ))
    → StreamEnd → Type 0
StreamFails names rules recording before held (Refused (Other at)) =
    FailsWithSetup names rules recording before held (Refused (Other at))
StreamFails names rules recording before held (Refused Origin) =
    FailsWithSetup names rules recording before held (Refused Origin)
StreamFails names rules recording before held (Refused Year) =
    FailsWithSetup names rules recording before held (Refused Year)
StreamFails names rules recording before held (Refused Full) =
    AreAllTaken (is_said names.channels.now) × Appends before held []
StreamFails names rules recording before held (Reading end) =
    FailsWithSetup names rules recording before held (Reading end)
StreamFails names rules recording before held Output =
    Appends before held [] ⊎ FailsWithSetup names rules recording before held Output
StreamFails names rules recording before held Memory =
    Appends before held [] ⊎ FailsWithSetup names rules recording before held Memory
