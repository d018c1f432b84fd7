use Rattle.std.proofs.Common.{◌≡◌, take}
use Rattle.std.specs.List.{filter}
use Rattle.cli_chapter11.specs.Joining.{is_of_run}
use Rattle.cli_chapter11.proofs.joining.moves_of.Given as goal

-- those of the run so far
abbrev pub invariant-channels : goal.invariant-channels
invariant-channels l = l.own.items ≡ filter (is_of_run l.listed.run) (take l.channel-index l.channels)
