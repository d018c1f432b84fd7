-- What jobs a recording may have, and the ranges of their numbers, which are those of their types.
use Rattle.std.specs.Prelude.{ℕ, ◌<◌, ◌≤◌, List, length, map, ◌^◌, All}
use Rattle.std.specs.Arc.{arc_value}
use Rattle.rec_channel.specs.declared.limits.TheConstants.{MAX_CHANNELS}
use Rattle.rec_core.specs.Openings.{SpecData}
use Rattle.rec_lane.specs.Settings.{spec_data}
use Rattle.rec_writer.specs.Numbers.{AreDistinctChannels}
use Rattle.rec_run.specs.declared.job.Job.{Job}
use Rattle.ch11_packet.specs.declared.frames.word.TheConstants.{MAX_SPEED}
use Rattle.ch11_packet.specs.declared.limit.TheConstants.{MIN_LIMIT, MAX_LIMIT}
use Rattle.rec_lane.specs.Pieces.{LaneSettings}

module _ {S : Type 0} where
  abbrev pub channel_of_job : Job S → ℕ
  channel_of_job job = job.spec.channel

  abbrev pub channels_of_jobs : List (Job S) → List ℕ
  channels_of_jobs jobs = map channel_of_job jobs

  -- there are as many as a recording may have, and no two of the same channel
  pub record AreJobs (jobs : List (Job S)) : Type 0 where
    pub some : 0 < length jobs
    pub few : length jobs ≤ MAX_CHANNELS
    pub distinct : AreDistinctChannels (channels_of_jobs jobs)

  -- what the core's channel of a job would be set to
  abbrev pub core_spec : Job S → SpecData
  core_spec job =
      record { settings = spec_data job.spec; program = arc_value job.program; max = job.max }

  abbrev pub core_specs : List (Job S) → List SpecData
  core_specs jobs = map core_spec jobs

-- ---- ranges

-- the settings are in the ranges of a `LaneSpec`: a channel ID of 16 bits that is not 0, a network
-- identifier of 8 bits, a speed of 4, and a packet limit between the least and the greatest
pub record AreLaneSettings (settings : LaneSettings) : Type 0 where
  pub named : 0 < settings.channel
  pub channel_fits : settings.channel < 2 ^ 16
  pub net_fits : settings.net < 2 ^ 8
  pub speed_fits : settings.speed ≤ MAX_SPEED
  pub least : MIN_LIMIT ≤ settings.limit
  pub most : settings.limit ≤ MAX_LIMIT

module _ {S : Type 0} where
  -- the job's numbers are those of its types: its settings are in range, and fewer than 2^64 frames
  -- may be taken
  pub record IsJob (job : Job S) : Type 0 where
    pub settings : AreLaneSettings (spec_data job.spec)
    pub most : job.max < 2 ^ 64

  -- so are those of all jobs, and the data type version is a byte
  pub record AreInRange (jobs : List (Job S)) (version : ℕ) : Type 0 where
    pub jobs_fit : All IsJob jobs
    pub version_fits : version < 2 ^ 8
