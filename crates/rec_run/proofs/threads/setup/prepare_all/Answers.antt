use Rattle.std.proofs.Common.{arith}
use Rattle.rec_run.proofs.Starts.{prepared, sized_more}
use Rattle.rec_run.proofs.threads.setup.prepare_all.Goals as goal

pub jobs-preserved : goal.jobs-preserved
jobs-preserved g c =
    let s = c.in-Some.ensures.steps in
    let inv = c.jobs.invariant in
    let push = c.in_ok-push.ensures in
    let p = c.in_ok-prepare_one.field-0 in (
      prepared _ _ p push.items c.in-Some.job _ _ _ s.0 c.in_ok-prepare_one.ensures.job inv.0,
      sized_more _ _ p push.items c.args.ring inv.1 c.in_ok-prepare_one.ensures.sized,
      omega (arith, inv.2, s.1, push.len),
    )
