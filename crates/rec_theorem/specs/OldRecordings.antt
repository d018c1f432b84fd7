-- Recordings of the first profile, whose packets have no data checksum.
use Rattle.std.specs.Prelude.{ℕ, ◌<◌, ◌≤◌, ◌^◌, List, [], length}
use Rattle.ch11_packet.specs.declared.limit.TheConstants.{MAX_LIMIT}
use Rattle.ch11_packet.specs.Profiles.Profile.{WithoutSum}
use Rattle.ch11_packet.specs.PacketLen.{written_len}
use Rattle.ch11_packet.specs.Building.{IsEthernetBody}
use Rattle.ch11_packet.specs.Records.{IsEndRecord}
use Rattle.ch11_packet.specs.RecordsRead.{IsProgramRecord}
use Rattle.rec_lane.specs.Pieces.{PieceData}
use Rattle.rec_lane.specs.Pieces.PieceData.{OfProgram, OfFrames, OfEnd}
use Rattle.rec_writer.specs.Encoding.{piece_bytes, output_in}

-- the piece is of a channel over 0, and its numbers have their widths
abbrev pub IsInRange : PieceData → Type 0
IsInRange (OfProgram channel counter version first program) =
    IsProgramRecord channel version first program × (counter < 2 ^ 48)
IsInRange (OfFrames channel body) = IsEthernetBody body × (0 < channel) × (channel < 2 ^ 16)
IsInRange (OfEnd channel counter offered kept) =
    IsEndRecord (record { channel = channel; offered = offered; kept = kept }) × (counter < 2 ^ 48)

-- and its packet in the first profile isn't longer than the greatest limit
pub record IsOldPiece (piece : PieceData) : Type 0 where
  pub in_range : IsInRange piece
  pub fits : written_len WithoutSum (length (piece_bytes piece)) ≤ MAX_LIMIT

-- what was written of these pieces in the first profile
abbrev pub old_output : (version : ℕ) → List PieceData → List ℕ
old_output version pieces = output_in WithoutSum version [] pieces
