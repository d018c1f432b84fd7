use Rattle.std.proofs.Common.{◌≡◌, vec_len}
use Rattle.rec_run.proofs.threads.setup.slots_of.Given as goal

abbrev pub invariant-jobs : goal.invariant-jobs
invariant-jobs g l = vec_len l.all ≡ l.job-index
