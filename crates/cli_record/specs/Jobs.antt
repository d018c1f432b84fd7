-- What is to be recorded of channels, by their settings.
use Rattle.std.specs.Prelude.{ℕ, ◌≡◌, ◌==◌, not, Bool, if◌then◌else◌, List, map, Option, None, Some}
use Rattle.std.specs.Prelude.{IfSome, string_bytes}
use Rattle.std.specs.Arc.{arc_value}
use Rattle.bpf_insn.specs.declared.insn.Insn.{Insn}
use Rattle.eth_frame.specs.Source.{Left}
use Rattle.rec_lane.specs.Pieces.{LaneSettings}
use Rattle.rec_lane.specs.Settings.{settings_of, spec_data}
use Rattle.rec_run.specs.declared.job.Job.{Job}
use Rattle.rec_words.specs.declared.settings.ChannelSettings.{ChannelSettings}

-- what a lane is set to, and how many frames may be taken
pub record JobNumbers : Type 0 where
  pub lane : LaneSettings
  pub max : ℕ

-- a span of 0 is none
abbrev pub span_of : ℕ → Option ℕ
span_of span = if span == 0 then None else Some span

-- those that the settings of a channel ask for, with the limit of the recording
abbrev pub asked_numbers : (limit : ℕ) → ChannelSettings → JobNumbers
asked_numbers limit channel =
    record {
      lane = record (settings_of channel.id channel.net channel.speed limit) {
        span = span_of channel.span;
      };
      max = channel.max;
    }

module _ {S : Type 0} where
  abbrev pub job_numbers : Job S → JobNumbers
  job_numbers job = record { lane = spec_data job.spec; max = job.max }

  abbrev pub numbers_of_jobs : List (Job S) → List JobNumbers
  numbers_of_jobs jobs = map job_numbers jobs

-- the program of a job is that of the filter which the channel's settings name, and its source has
-- what their feed has, where this is said
module _ {C S : Type 0} (listed : C → (name : List ℕ) → Option (List Insn))
    (fed : C → (name : List ℕ) → (max : ℕ) → (timed : Bool) → Option Left) (left : S
    → Option Left) where
  pub record IsJobOf (files : C) (channel : ChannelSettings) (job : Job S) : Type 0 where
    pub program : IfSome (listed files (string_bytes channel.filter))
        (λ (insns : List Insn). arc_value job.program ≡ insns)
    pub source : IfSome (fed files (string_bytes channel.feed) channel.max
        (not (channel.span == 0)))
        (λ (it : Left). left job.source ≡ Some it)
