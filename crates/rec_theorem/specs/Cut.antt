-- A recording that was cut short.
use Rattle.std.specs.Prelude.{ℕ, ◌≡◌, List, ◌++◌, All}
use Rattle.std.specs.List.{Any}
use Rattle.rec_lane.specs.Pieces.{PieceData, channel_of}
use Rattle.rec_writer.specs.Encoding.{writer_output}
use Rattle.rec_writer.specs.Recording.{RecordedChannel}
use Rattle.rec_run.specs.Recorded.{IsCutOf, BeginsChannel}

-- the bytes are the packets of some pieces and then the beginning of the packet of one more, if one
-- was begun, and not all of it; each piece is of one of the channels, and those of each channel, in
-- order, begin its pieces
pub record IsCutRecording (version : ℕ) (channels : List RecordedChannel) (bytes : List ℕ)
    : Type 0 where
  pub pieces : List PieceData
  pub begun : List PieceData
  pub cut : List ℕ
  pub cut_is : IsCutOf version pieces begun cut
  pub bytes_are : bytes ≡ writer_output version pieces ++ cut
  pub named : All (λ (piece : PieceData).
      Any (λ (c : RecordedChannel). c.settings.channel ≡ channel_of piece) channels)
      (pieces ++ begun)
  pub begin : All (BeginsChannel (pieces ++ begun)) channels
