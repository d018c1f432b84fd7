-- What the channels of a core are set to when it is made.
use Rattle.std.specs.Prelude.{ℕ, ◌≢◌, ◌<◌, ◌≤◌, List, length, map, slice_index, All}
use Rattle.bpf_insn.specs.declared.insn.Insn.{Insn}
use Rattle.bpf_insn.specs.Bytes.{AreInRange}
use Rattle.bpf_verify.specs.Validity.{Valid}
use Rattle.rec_channel.specs.declared.limits.TheConstants.{MAX_CHANNELS}
use Rattle.rec_lane.specs.Pieces.{LaneSettings}
use Rattle.rec_writer.specs.Numbers.{AreDistinctChannels}

-- a channel's lane, its first program, and how many frames it may have
pub record SpecData : Type 0 where
  pub settings : LaneSettings
  pub program : List Insn
  pub max : ℕ

-- the channel IDs
abbrev pub channels_of_specs : List SpecData → List ℕ
channels_of_specs specs = map (λ (s : SpecData). s.settings.channel) specs

-- no channel ID before this one is the same
abbrev pub IsNew : List ℕ → ℕ → Type 0
IsNew channels k = (i : ℕ) → i < k → slice_index channels i ≢ slice_index channels k

-- there are as many as a recording may have, and no two of the same channel
pub record AreSpecs (specs : List SpecData) : Type 0 where
  pub some : 0 < length specs
  pub few : length specs ≤ MAX_CHANNELS
  pub distinct : AreDistinctChannels (channels_of_specs specs)

-- a filter: a valid program, its fields in range
pub record IsFilter (program : List Insn) : Type 0 where
  pub valid : Valid program
  pub in_range : AreInRange program

-- each first program is a filter
abbrev pub HaveFilters : List SpecData → Type 0
HaveFilters specs = All (λ (s : SpecData). IsFilter s.program) specs
