use Rattle.std.proofs.Common.{arith, ◌++◌, ◌∷◌, []}
use Rattle.rec_run.specs.Threads.{job_at}
use Rattle.rec_run.proofs.JoinSteps.{came_rest, came_head, jobs_step, joined_push}
use Rattle.rec_run.proofs.threads.joins.join_all.Goals as goal

pub workers-preserved : goal.workers-preserved
workers-preserved g c =
    let s = c.in-Some.ensures.steps in
    let inv = c.workers.invariant in
    let l = c.in-Some.line in (
      omega (arith, inv.0, s.1, c.push_reserved.ensures.len, c.push_reserved.ensures.capacity),
      (λ pieces all. came_rest l _ _ s.0 pieces (inv.1 pieces all)),
      (
        inv.2.0 ++ job_at l ∷ [],
        jobs_step l _ _ s.0 _ inv.2.0 inv.2.1,
        λ pieces all. joined_push g.S.FrameSource.left g.S.FrameSource.failures g.S.FrameSource.ending pieces inv.2.0 _ _ (job_at l) _
            c.push_reserved.ensures.items (inv.2.2 pieces all) (c.join_one.ensures pieces (came_head l _ _ s.0 pieces (inv.1 pieces all))),
      ),
    )
