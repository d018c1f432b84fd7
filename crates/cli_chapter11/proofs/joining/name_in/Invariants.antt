use Rattle.std.proofs.Common.{◌≡◌, drop}
use Rattle.cli_chapter11.specs.Joining.{name_by_table}
use Rattle.cli_chapter11.proofs.joining.name_in.Given as goal

-- those so far don't name the channel
abbrev pub invariant-recordings : goal.invariant-recordings
invariant-recordings l = name_by_table l.recordings l.all l.channel ≡ name_by_table (drop l.place l.recordings) (drop l.place l.all) l.channel
