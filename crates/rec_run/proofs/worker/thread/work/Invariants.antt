use Rattle.std.proofs.Common.{◌≡◌}
use Rattle.rtrb.specs.Ring.{SameProducer}
use Rattle.rec_lane.specs.Settings.{spec_data}
use Rattle.rec_run.specs.WorkerSteps.{GoesOn}
use Rattle.rec_run.proofs.worker.thread.work.Given as goal

abbrev pub invariant-frames : goal.invariant-frames
invariant-frames g l =
    SameProducer l.fn.tools.ring l.worker.ring
    × (l.worker.max ≡ l.fn.job.max)
    × (l.worker.lane.settings ≡ spec_data l.fn.job.spec)
    × GoesOn g.S.FrameSource.left g.S.FrameSource.failures g.S.FrameSource.ending l.fn.job.source l.worker
