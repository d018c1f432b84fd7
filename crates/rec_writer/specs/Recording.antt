-- What a recording of some channels is.
use Rattle.std.specs.Prelude.{ℕ, ◌≡◌, ◌==◌, Bool, List, All}
use Rattle.std.specs.List.{filter, Any}
use Rattle.eth_frame.specs.Frame.{FrameData}
use Rattle.rec_channel.specs.History.{Version}
use Rattle.rec_lane.specs.Pieces.{LaneSettings, PieceData, channel_of, ArePieces}
use Rattle.rec_writer.specs.Encoding.{writer_output}

-- a channel as it was recorded: what its lane was set to, the frames that were offered, the time
-- marks after each, and the history of its filter
pub record RecordedChannel : Type 0 where
  pub settings : LaneSettings
  pub frames : List FrameData
  pub times : List (List ℕ)
  pub history : List Version

-- a piece is of this channel
abbrev pub is_of : ℕ → PieceData → Bool
is_of channel piece = channel_of piece == channel

-- each piece is of one of the channels, and those of each channel, in order, are its pieces
pub record AreOfChannels (channels : List RecordedChannel) (pieces : List PieceData) : Type 0 where
  pub named : All (λ (piece : PieceData).
      Any (λ (c : RecordedChannel). c.settings.channel ≡ channel_of piece) channels) pieces
  pub each : All (λ (c : RecordedChannel).
      ArePieces c.settings c.frames c.times c.history
      (filter (is_of c.settings.channel) pieces)) channels

-- the bytes are a recording of these channels
abbrev pub IsRecording : (version : ℕ) → List RecordedChannel → List ℕ → Type 0
IsRecording version channels bytes =
    (pieces : List PieceData)
    × (bytes ≡ writer_output version pieces) × AreOfChannels channels pieces

-- the bytes are what is written of all pieces of this channel alone
abbrev pub IsOutputOf : (version : ℕ) → RecordedChannel → List ℕ → Type 0
IsOutputOf version channel bytes =
    (pieces : List PieceData)
    × ArePieces channel.settings channel.frames channel.times channel.history pieces
    × (bytes ≡ writer_output version pieces)
