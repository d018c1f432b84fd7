-- Pieces that own their bytes: records, and what the fields of bodies hold.
use Rattle.std.specs.Prelude.{ℕ, ◌≡◌, ◌<◌, ◌≤◌, ◌^◌, List, ◌++◌, length, drop, All, Option, Some}
use Rattle.std.specs.Int.{w32, to_le_bytes}
use Rattle.std.specs.List.{flat_map}
use Rattle.ch11_packet.specs.declared.header.TheConstants.{MAX_ETHERNET_PACKET_LEN}
use Rattle.ch11_packet.specs.FramesRead.{ReadFrameData, IsReadFrame, first_reads}
use Rattle.ch11_packet.specs.PacketLen.{written_len}
use Rattle.ch11_packet.specs.Profiles.Profile.{WithSum}
use Rattle.ch11_file.specs.CopiedFrames.{copied_frame}

-- a record: its counter, if it has one, and its data
pub record PieceRecord : Type 0 where
  pub counter : Option ℕ
  pub body : List ℕ

abbrev pub piece_record : Option ℕ → List ℕ → PieceRecord
piece_record counter body = record { counter = counter; body = body }

-- the frames in the bytes of a body of this many
unfoldable pub copies_held : (count : ℕ) → List ℕ → List ReadFrameData
copies_held count bytes = first_reads count (drop 4 bytes)

-- the bytes are a word of this number and these frames, and their packet isn't too long
pub record HoldsCopies (word : ℕ) (frames : List ReadFrameData) (bytes : List ℕ) : Type 0 where
  pub bytes_are : bytes ≡ to_le_bytes w32 word ++ flat_map copied_frame frames
  pub in_range : All IsReadFrame frames
  pub fits : written_len WithSum (length bytes) ≤ MAX_ETHERNET_PACKET_LEN

-- the bytes are the body of `count` frames, at least one
pub record IsFramesBody (count : ℕ) (bytes : List ℕ) : Type 0 where
  pub holds : HoldsCopies count (copies_held count bytes) bytes
  pub some : 0 < count

-- a packet has room for the record, and its counter has 48 bits
pub record IsPieceRecord (piece : PieceRecord) : Type 0 where
  pub fits : length piece.body < 2 ^ 31
  pub counter : (counter : ℕ) → piece.counter ≡ Some counter → counter < 2 ^ 48
