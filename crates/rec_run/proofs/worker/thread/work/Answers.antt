use Rattle.std.proofs.Common.{refl, ap}
use Rattle.rec_lane.specs.Views.{pieces_data}
use Rattle.rec_lane.specs.Lanes.{LaneState}
use Rattle.rec_run.specs.WorkerRuns.{versions_met}
use Rattle.rec_run.proofs.Finishes.{starts}
use Rattle.rec_run.proofs.worker.thread.work.Goals as goal

pub frames-init : goal.frames-init
frames-init g c =
    let r = c.requires in (
      ((refl, refl, refl, refl), refl),
      refl,
      ap (λ (l : LaneState). l.settings) r.lane_is,
      starts g.S.FrameSource.left g.S.FrameSource.failures g.S.FrameSource.ending c.args.job.source c.args.job.max c.args.tools.lane _ _ _ r.lane_is
          (ap (λ ms. versions_met ms) r.none_met) (ap (λ ps. pieces_data ps) r.none_sent),
    )
