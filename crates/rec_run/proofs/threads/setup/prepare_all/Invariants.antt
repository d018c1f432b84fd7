use Rattle.std.proofs.Common.{◌≡◌, ◌+◌, ◌++◌, vec_len}
use Rattle.std.specs.Vec.Iter.{into_iter_items, into_iter_len}
use Rattle.rec_run.specs.Threads.{jobs_in, AreSized}
use Rattle.rec_run.proofs.threads.setup.prepare_all.Given as goal

abbrev pub invariant-jobs : goal.invariant-jobs
invariant-jobs g l =
    (l.fn.jobs.items ≡ jobs_in l.all.items ++ into_iter_items l.job-iterator)
    × AreSized l.fn.ring l.all.items
    × (vec_len l.all + into_iter_len l.job-iterator ≡ vec_len l.fn.jobs)
