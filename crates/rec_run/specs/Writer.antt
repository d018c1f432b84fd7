-- What is written of what the workers sent, and the count of its bytes.
use Rattle.std.specs.Prelude.{ℕ, ◌≡◌, ◌+◌, ◌-◌, ◌^◌, min, List, length, Bool, true, false}
use Rattle.std.specs.Prelude.{if◌then◌else◌, [], ◌∷◌, ◌++◌, map, count_by, All, Contains, Option}
use Rattle.rec_lane.specs.Pieces.{PieceData, channel_of}
use Rattle.rec_writer.specs.Encoding.{piece_packet, writer_output}
use Rattle.std.specs.List.{filter}
use Rattle.std.specs.declared.thread.PromisedHandle.{PromisedHandle}
use Rattle.rtrb.specs.Ring.{received, sent}
use Rattle.rec_lane.specs.declared.piece.Piece.{Piece}
use Rattle.rec_lane.specs.declared.piece.Piece.TheVariants as piece
use Rattle.rec_lane.specs.Views.{piece_data, pieces_data}
use Rattle.rec_writer.specs.Numbers.{numbered_channels, AreDistinctChannels}
use Rattle.rec_writer.specs.Recording.{is_of}
use Rattle.rec_writer.specs.Writers.{WriterState, HasWritten, IsCutPiece, PutsWhole, PutFails}
use Rattle.rec_writer.specs.declared.fault.WriteFault.{WriteFault}
use Rattle.rec_writer.specs.declared.fault.WriteFault.TheVariants.{Output}
use Rattle.rec_run.specs.declared.worker.thread.WorkerDone.{WorkerDone}
use Rattle.rec_run.specs.declared.writer.line.WriterLine.{WriterLine}
use Rattle.rec_run.specs.declared.worker.thread.Works.{Works}
use Rattle.rec_run.specs.declared.writer.Wrote.{Wrote}
use Rattle.rec_run.specs.declared.writer.Wrote.TheVariants.{Nothing, Piece as PieceWent, Failed}
use Rattle.rec_run.specs.declared.writer.Wrote.TheVariants.{Link}

-- a count that stays at the greatest number which it can show
abbrev pub shown : ℕ → ℕ
shown count = min count (2 ^ 64 - 1)

-- the bytes of the packets of these pieces
abbrev pub bytes_of : (version : ℕ) → List PieceData → ℕ
bytes_of version pieces = shown (length (writer_output version pieces))

-- the packet of this piece is counted
abbrev pub CountsPacket : (old new : ℕ) → PieceData → Type 0
CountsPacket old new piece =
    (version sequence : ℕ) → new ≡ shown (old + length (piece_packet piece version sequence))

-- ---- the writing

-- ---- buffers

-- whether a piece has a buffer, which comes back
abbrev pub has_buffer : Piece → Bool
has_buffer (piece.Program p) = false
has_buffer (piece.Data p) = true
has_buffer (piece.End p) = false

abbrev pub buffers_in : Piece → ℕ
buffers_in p = if has_buffer p then 1 else 0

-- ---- lines

module _ {S : Type 0} where
  abbrev pub channel_at : WriterLine S → ℕ
  channel_at l = l.channel

  abbrev pub channels : List (WriterLine S) → List ℕ
  channels ls = map channel_at ls

  abbrev pub handle_at : WriterLine S → PromisedHandle (WorkerDone S) (Works S)
  handle_at l = l.handle

  abbrev pub handles : List (WriterLine S) → List (PromisedHandle (WorkerDone S) (Works S))
  handles ls = map handle_at ls

  -- no two lines have the same channel, and the writer knows all
  pub record IsReady (ls : List (WriterLine S)) (writer : WriterState) : Type 0 where
    pub distinct : AreDistinctChannels (channels ls)
    pub known : numbered_channels writer.numbers ≡ 0 ∷ channels ls

  -- those of the pieces that are of the line's channel are what was taken from its ring
  abbrev pub CameFrom : List PieceData → WriterLine S → Type 0
  CameFrom pieces l = filter (is_of l.channel) pieces ≡ pieces_data (received l.pieces)

  abbrev pub AllCame : List PieceData → List (WriterLine S) → Type 0
  AllCame pieces ls = All (CameFrom pieces) ls

  -- as many buffers went back as there were at the start and packets of frames came since
  abbrev pub GaveBack : WriterLine S → Type 0
  GaveBack l = length (sent l.returns) ≡ l.buffers + count_by has_buffer (received l.pieces)

  -- the piece is of the channel of some line
  abbrev pub IsOfLines : List (WriterLine S) → PieceData → Type 0
  IsOfLines ls p = Contains (channels ls) (channel_of p)

  -- since its output held `first`, the writer wrote what was taken from the rings, and its bytes
  -- are counted
  pub record Writes
      (first : Option (List ℕ)) (writer : WriterState) (bytes : ℕ) (ls : List (WriterLine S))
      : Type 0 where
    pub pieces : List PieceData
    pub works : writer.failed ≡ false
    pub written : HasWritten first pieces [] writer
    pub counted : bytes ≡ bytes_of writer.version pieces
    pub named : All (IsOfLines ls) pieces
    pub came : AllCame pieces ls
    pub gave : All GaveBack ls

  -- the writer wrote what was taken from the rings as far as the output went: the last piece is cut
  pub record WritesPart
      (first : Option (List ℕ)) (writer : WriterState) (bytes : ℕ) (fault : WriteFault)
      (ls : List (WriterLine S)) : Type 0 where
    pub pieces : List PieceData
    pub piece : PieceData
    pub cut : List ℕ
    pub cut_is : IsCutPiece writer.version pieces piece cut
    pub written : HasWritten first pieces cut writer
    pub fault_is : fault ≡ Output writer.whole writer.bytes
    pub counted : bytes ≡ bytes_of writer.version pieces
    pub named : All (IsOfLines ls) (pieces ++ piece ∷ [])
    pub came : AllCame (pieces ++ piece ∷ []) ls

  -- what was done is so
  abbrev pub WroteSo :
      Wrote → Option (List ℕ) → WriterState → ℕ → List (WriterLine S) → Type 0
  WroteSo Nothing first writer bytes ls = Writes first writer bytes ls
  WroteSo PieceWent first writer bytes ls = Writes first writer bytes ls
  WroteSo (Failed fault) first writer bytes ls = WritesPart first writer bytes fault ls
  WroteSo Link first writer bytes ls = Unit {0}

  -- ---- one piece of one line

  -- this piece was taken from the line's ring
  pub record TakesPiece (old new : WriterLine S) (p : Piece) : Type 0 where
    pub channel_is : channel_of (piece_data p) ≡ old.channel
    pub received_is : received new.pieces ≡ received old.pieces ++ p ∷ []
    pub buffers_same : new.buffers ≡ old.buffers

  pub record WritesOne (old new : WriterLine S) (writer after : WriterState) (bytes bytes_after : ℕ)
      : Type 0 where
    pub p : Piece
    pub takes : TakesPiece old new p
    pub puts : PutsWhole writer after (piece_data p)
    pub counts : CountsPacket bytes bytes_after (piece_data p)
    pub gave : length (sent new.returns) ≡ length (sent old.returns) + buffers_in p

  pub record FailsAtOne (old new : WriterLine S) (writer after : WriterState) (fault : WriteFault)
      : Type 0 where
    pub p : Piece
    pub takes : TakesPiece old new p
    pub fails : PutFails writer after (piece_data p) fault

  pub record WritesNone (old new : WriterLine S) (writer after : WriterState) : Type 0 where
    pub received_is : received new.pieces ≡ received old.pieces
    pub returns_same : new.returns ≡ old.returns
    pub buffers_same : new.buffers ≡ old.buffers
    pub writer_same : after ≡ writer

  abbrev pub WroteOne :
      Wrote → (old new : WriterLine S) → (writer after : WriterState) → (bytes bytes_after : ℕ)
      → Type 0
  WroteOne Nothing old new writer after bytes bytes_after =
      WritesNone old new writer after × (bytes_after ≡ bytes)
  WroteOne PieceWent old new writer after bytes bytes_after =
      WritesOne old new writer after bytes bytes_after
  WroteOne (Failed fault) old new writer after bytes bytes_after =
      FailsAtOne old new writer after fault × (bytes_after ≡ bytes)
  WroteOne Link old new writer after bytes bytes_after = Unit {0}
