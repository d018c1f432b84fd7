use Rattle.std.proofs.Common.{◌≡◌, ◌≤◌, map, take, length, vec_len}
use Rattle.std.specs.Prelude.{vec_capacity}
use Rattle.std.specs.List.{AllZip}
use Rattle.rec_core.specs.Openings.{HaveFilters, channels_of_specs}
use Rattle.rec_core.specs.World.{opening_channel}
use Rattle.rec_core.specs.Worlds.{HoldsChannel, channels_of_parts}
use Rattle.rec_core.specs.Views.{specs_data, all_parts}
use Rattle.rec_core.proofs.world.open_channels.Given as goal

abbrev pub invariant-specs : goal.invariant-specs
invariant-specs l =
    AllZip (HoldsChannel l.ring) (all_parts l.channels.items) (map opening_channel (specs_data (take l.spec-index l.specs)))
    × (channels_of_parts (all_parts l.channels.items) ≡ channels_of_specs (specs_data (take l.spec-index l.specs)))
    × HaveFilters (specs_data (take l.spec-index l.specs))
    × (vec_len l.channels ≡ l.spec-index)
    × (length l.specs ≤ vec_capacity l.channels)
