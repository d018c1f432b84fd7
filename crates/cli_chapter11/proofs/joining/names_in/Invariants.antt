use Rattle.std.proofs.Common.{◌≡◌, map, take}
use Rattle.std.specs.List.{flat_map}
use Rattle.cli_chapter11.specs.Joining.{name_by_table}
use Rattle.cli_chapter11.specs.WholeFiles.{channel_said}
use Rattle.cli_chapter11.proofs.joining.names_in.Given as goal

-- the names so far
abbrev pub invariant-channels : goal.invariant-channels
invariant-channels l = map channel_said l.names.items ≡ flat_map (name_by_table l.fn.recordings l.fn.all) (take l.channel-index l.channels)
