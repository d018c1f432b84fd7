use Rattle.std.proofs.Common.{◌≡◌, ◌+◌, ◌≤◌, ◌++◌, vec_len}
use Rattle.std.specs.Prelude.{vec_capacity}
use Rattle.std.specs.Vec.Iter.{into_iter_items, into_iter_len}
use Rattle.rec_run.specs.Threads.{jobs_in, jobs_of, AreUnread}
use Rattle.rec_run.proofs.threads.setup.start_all.Given as goal

abbrev pub invariant-workers : goal.invariant-workers
invariant-workers g l =
    (jobs_in l.fn.prepared.items ≡ jobs_of l.lines.items ++ jobs_in (into_iter_items l.one-iterator))
    × (vec_len l.lines + into_iter_len l.one-iterator ≡ vec_len l.fn.prepared)
    × (vec_len l.fn.prepared ≤ vec_capacity l.lines)
    × AreUnread l.lines.items
