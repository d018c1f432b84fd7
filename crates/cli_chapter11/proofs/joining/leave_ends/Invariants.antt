use Rattle.std.proofs.Common.{◌≡◌, map, take}
use Rattle.cli_chapter11.specs.RecordsInRuns.{left_by}
use Rattle.cli_chapter11.proofs.joining.leave_ends.Given as goal

-- those that the recordings so far name are left out
abbrev pub invariant-later : goal.invariant-later
invariant-later l = l.records ≡ map (left_by l.run (take l.listed-index l.later)) l.initial.records
