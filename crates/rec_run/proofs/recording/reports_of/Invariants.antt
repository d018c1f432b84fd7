use Rattle.std.proofs.Common.{◌≡◌, ◌+◌, ◌≤◌, List, ◌++◌, vec_len}
use Rattle.std.specs.Prelude.{vec_capacity}
use Rattle.std.specs.List.{AllZip}
use Rattle.std.specs.Vec.Iter.{into_iter_items, into_iter_len}
use Rattle.rec_run.specs.Verdicts.{TellsOf}
use Rattle.rec_run.specs.declared.threads.joins.Joined.{Joined}
use Rattle.rec_run.proofs.recording.reports_of.Given as goal

abbrev pub invariant-workers : goal.invariant-workers
invariant-workers g l =
    (vec_len l.reports + into_iter_len l.one-iterator ≤ vec_capacity l.reports)
    × ((done : List (Joined _)) × (l.fn.joined.items ≡ done ++ into_iter_items l.one-iterator) × AllZip (TellsOf l.log) done l.reports.items)
