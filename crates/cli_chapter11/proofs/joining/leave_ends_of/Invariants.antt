use Rattle.std.proofs.Common.{◌≡◌, map, take}
use Rattle.cli_chapter11.specs.RecordsInRuns.{left_by_ids}
use Rattle.cli_chapter11.proofs.joining.leave_ends_of.Given as goal

-- those of the channels so far are left out
abbrev pub invariant-ids : goal.invariant-ids
invariant-ids l = l.records ≡ map (left_by_ids (take l.id-index l.ids)) l.initial.records
