use Rattle.std.proofs.Common.{ℕ, ◌≢◌, ◌<◌, get_or}
use Rattle.rec_core.specs.Worlds.{channels_of_parts}
use Rattle.rec_core.specs.Views.{all_parts}
use Rattle.rec_core.proofs.world.position_of.Given as goal

abbrev pub invariant-channels : goal.invariant-channels
invariant-channels l = (j : ℕ) → j < l.at → get_or (channels_of_parts (all_parts l.channels)) j 0 ≢ l.channel
