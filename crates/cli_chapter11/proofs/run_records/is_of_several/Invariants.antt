use Rattle.std.proofs.Common.{◌≡◌, take}
use Rattle.std.specs.List.{count_by}
use Rattle.cli_chapter11.specs.RecordsInRuns.{is_run}
use Rattle.cli_chapter11.proofs.run_records.is_of_several.Given as goal

-- those of the run so far
abbrev pub invariant-recordings : goal.invariant-recordings
invariant-recordings l = l.count ≡ count_by (is_run l.run) (take l.other-index l.runs)
