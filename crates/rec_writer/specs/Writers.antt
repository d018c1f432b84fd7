-- What a writer holds, and the pieces that it stands for.
use Rattle.std.specs.Prelude.{ℕ, ◌≡◌, ◌≢◌, ◌+◌, ◌-◌, ◌^◌, ◌<◌, Bool, true, false, min, List, []}
use Rattle.std.specs.Prelude.{◌∷◌, ◌++◌, length, Contains, Option, slice_get, Some, take}
use Rattle.std.specs.Io.KnownBytes.{Appends}
use Rattle.rec_lane.specs.Pieces.{PieceData}
use Rattle.rec_writer.specs.Recording.{RecordedChannel, IsRecording}
use Rattle.rec_writer.specs.Encoding.{writer_output, piece_packet, packet_channel, next_sequence}
use Rattle.rec_writer.specs.Numbers.{AreNext, numbered_channels, AreDistinctChannels, number_at}
use Rattle.rec_writer.specs.Numbers.{with_packet}
use Rattle.rec_writer.specs.declared.numbers.Numbered.{Numbered}
use Rattle.rec_writer.specs.declared.fault.WriteFault.{WriteFault}
use Rattle.rec_writer.specs.declared.fault.WriteFault.TheVariants.{Output, Failed}

-- a writer: what its output holds, if that is known, the data type version of its packets, the
-- numbers of the packets to come, how many pieces went out whole, how many bytes of the next one
-- did, and whether the output failed
pub record WriterState : Type 0 where
  pub held : Option (List ℕ)
  pub version : ℕ
  pub numbers : List Numbered
  pub whole : ℕ
  pub bytes : ℕ
  pub failed : Bool

-- it is a writer of this channel
abbrev pub Knows : WriterState → ℕ → Type 0
Knows writer channel = (channel ≢ 0) × Contains (numbered_channels writer.numbers) channel

-- ---- what a writer stands for

-- since its output held `first`, the pieces went out whole, and then these bytes
pub record HasWritten
    (first : Option (List ℕ)) (pieces : List PieceData) (cut : List ℕ) (writer : WriterState)
    : Type 0 where
  pub whole_is : writer.whole ≡ min (length pieces) (2 ^ 64 - 1)
  pub bytes_is : writer.bytes ≡ length cut
  pub held_is : Appends first writer.held (writer_output writer.version pieces ++ cut)
  pub numbers_are : AreNext pieces writer.numbers

-- the bytes are the beginning of the piece's packet after these pieces, and not all of it
pub record IsCutPiece (version : ℕ) (pieces : List PieceData) (piece : PieceData) (cut : List ℕ)
    : Type 0 where
  pub rest : List ℕ
  pub some : rest ≢ []
  pub front : cut ++ rest
      ≡ piece_packet piece version (next_sequence pieces (packet_channel piece))

-- the output holds these bytes and then a recording of the channels
abbrev pub HoldsRecording : List ℕ → WriterState → List RecordedChannel → Type 0
HoldsRecording before writer channels =
    (bytes : List ℕ)
    × (writer.held ≡ Some (before ++ bytes)) × IsRecording writer.version channels bytes

-- ---- what a call did

-- the piece went out whole, whatever the writer stood for
pub record PutsWhole (old new : WriterState) (piece : PieceData) : Type 0 where
  pub worked : old.failed ≡ false
  pub works : new.failed ≡ false
  pub stands : (first : Option (List ℕ)) (pieces : List PieceData)
      → HasWritten first pieces [] old → HasWritten first (pieces ++ piece ∷ []) [] new

-- the output failed in this call, and a part of the piece's packet went out
pub record PutsPart (old new : WriterState) (piece : PieceData) : Type 0 where
  pub worked : old.failed ≡ false
  pub fails : new.failed ≡ true
  pub stands : (first : Option (List ℕ)) (pieces : List PieceData)
      → HasWritten first pieces [] old
      → (cut : List ℕ) × IsCutPiece old.version pieces piece cut × HasWritten first pieces cut new

-- why a piece did not go out
abbrev pub PutFails : WriterState → WriterState → PieceData → WriteFault → Type 0
PutFails old new piece (Output whole bytes) =
    PutsPart old new piece × (whole ≡ new.whole) × (bytes ≡ new.bytes)
PutFails old new piece (Failed whole bytes) =
    (old.failed ≡ true) × (new ≡ old) × (whole ≡ new.whole) × (bytes ≡ new.bytes)

-- why a writer did not finish: the flush failed, or the output had failed before
abbrev pub FinishFails : WriterState → WriteFault → Type 0
FinishFails writer (Output whole bytes) =
    (writer.failed ≡ false) × (whole ≡ writer.whole) × (bytes ≡ 0)
FinishFails writer (Failed whole bytes) =
    (writer.failed ≡ true) × (whole ≡ writer.whole) × (bytes ≡ writer.bytes)

-- ---- what a packet does to it

-- the piece's packet with the sequence number that stands at an index
abbrev pub packet_at : WriterState → (at : ℕ) → PieceData → List ℕ
packet_at writer at piece = piece_packet piece writer.version (number_at writer.numbers at).next

-- the packet went out whole, and is counted
pub record SendsWhole (old new : WriterState) (at : ℕ) (piece : PieceData) : Type 0 where
  pub counted : new ≡ record old {
    held = new.held;
    numbers = with_packet old.numbers at;
    whole = min (old.whole + 1) (2 ^ 64 - 1);
  }
  pub sent : Appends old.held new.held (packet_at old at piece)

-- the output failed, and only a part of the packet went out
pub record SendsPart (old new : WriterState) (at : ℕ) (piece : PieceData) (fault : WriteFault)
    : Type 0 where
  pub failed : new ≡ record old { held = new.held; bytes = new.bytes; failed = true }
  pub part : new.bytes < length (packet_at old at piece)
  pub sent : Appends old.held new.held (take new.bytes (packet_at old at piece))
  pub fault_is : fault ≡ Output new.whole new.bytes

-- ---- what its fields hold

-- the first number is that of records, no channel ID stands twice, and a part of a packet went
-- out only where the output failed
pub record IsWriter (numbers : List Numbered) (bytes : ℕ) (failed : Bool) : Type 0 where
  pub records : slice_get (numbered_channels numbers) 0 ≡ Some 0
  pub distinct : AreDistinctChannels (numbered_channels numbers)
  pub none_cut : failed ≡ false → bytes ≡ 0
