use Rattle.std.proofs.Common.{◌≡◌, ◌≢◌, ℕ, take}
use Rattle.std.specs.Prelude.{All}
use Rattle.arrayvec.specs.ArrayVec.{array_vec_len}
use Rattle.rec_run.specs.Jobs.{channels_of_jobs}
use Rattle.rec_run.proofs.job.channels_of.Given as goal

abbrev pub invariant-jobs : goal.invariant-jobs
invariant-jobs g l =
    (l.channels.items ≡ take l.k (channels_of_jobs l.jobs))
    × (array_vec_len l.channels ≡ l.k)
    × All (λ (channel : ℕ). channel ≢ 0) l.channels.items
