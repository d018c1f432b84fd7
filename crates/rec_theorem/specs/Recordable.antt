-- Which channels a recorder may have recorded: their numbers are those of their types, their frames
-- are frames, and their history is one.
use Rattle.std.specs.Prelude.{◌≡◌, ◌<◌, ◌≤◌, ◌^◌, List, length, All}
use Rattle.eth_frame.specs.Frame.{IsFrame}
use Rattle.rec_channel.specs.declared.limits.TheConstants.{MAX_VERSIONS}
use Rattle.rec_channel.specs.History.{IsHistory}
use Rattle.rec_writer.specs.Recording.{RecordedChannel}
use Rattle.rec_run.specs.Jobs.{AreLaneSettings}

-- the channel can be recorded: its settings are in range, its frames are frames, fewer than 2^64 of
-- them, each with its time marks, and its history is one of at most 1,024 versions
pub record IsRecordable (c : RecordedChannel) : Type 0 where
  pub settings : AreLaneSettings c.settings
  pub framed : All IsFrame c.frames
  pub few_frames : length c.frames < 2 ^ 64
  pub timed : length c.times ≡ length c.frames
  pub history : IsHistory (length c.frames) c.history
  pub few_versions : length c.history ≤ MAX_VERSIONS

-- each of the channels can be recorded
abbrev pub AreRecordable : List RecordedChannel → Type 0
AreRecordable channels = All IsRecordable channels
