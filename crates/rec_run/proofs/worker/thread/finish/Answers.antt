use Rattle.rec_run.proofs.Finishes.{finished_as}
use Rattle.rec_run.proofs.worker.thread.finish.Goals as goal

pub returns-clause-ran : goal.returns-clause-ran
returns-clause-ran g c = λ before stops.
    finished_as g.S.FrameSource.left g.S.FrameSource.failures g.S.FrameSource.ending before c.args.worker.source c.args.worker.max c.args.worker.lane _ _ _
    c.args.end _ _ _ c.offered-offered.ensures.offered c.kept-kept.ensures.kept c.last_pieces-end.ensures.last stops
