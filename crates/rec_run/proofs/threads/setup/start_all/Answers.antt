use Rattle.std.proofs.Common.{arith}
use Rattle.rec_run.proofs.Starts.{started, unread_more}
use Rattle.rec_run.proofs.threads.setup.start_all.Goals as goal

pub workers-preserved : goal.workers-preserved
workers-preserved g c =
    let s = c.in-Some.ensures.steps in
    let inv = c.workers.invariant in
    let push = c.push_reserved.ensures in
    let l = c.in_ok-line.line in (
      started _ _ l push.items c.in-Some.one _ _ _ s.0 c.in_ok-line.ensures.job inv.0,
      omega (arith, inv.1, s.1, push.len),
      omega (arith, inv.2, push.capacity),
      unread_more _ _ l push.items inv.3 c.in_ok-line.ensures.unread,
    )
