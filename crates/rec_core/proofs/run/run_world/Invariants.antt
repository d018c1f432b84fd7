use Rattle.std.proofs.Common.{◌≡◌, ◌≤◌, true, take, length, vec_len}
use Rattle.std.specs.Prelude.{vec_capacity}
use Rattle.rec_core.specs.Worlds.{RunsCut}
use Rattle.rec_core.specs.Views.{events_data}
use Rattle.rec_core.proofs.run.run_world.Given as goal

abbrev pub invariant-events : goal.invariant-events
invariant-events g l =
    RunsCut l.fn.world l.world (events_data (take l.event-index l.events)) l.answers.items
    × (l.fn.world.writer.failed ≡ true → l.world.writer ≡ l.fn.world.writer)
    × (l.world.writer.version ≡ l.fn.world.writer.version)
    × (vec_len l.answers ≡ l.event-index)
    × (length l.events ≤ vec_capacity l.answers)
