use Rattle.std.proofs.Common.{◌∙◌}
use Rattle.rec_export.proofs.Showing.{shows_next, frame_fails}
use Rattle.rec_export.proofs.frame.write_frames.Goals as goal

pub returns-in_err-write_frame-clause-part : goal.returns-in_err-write_frame-clause-part
returns-in_err-write_frame-clause-part g c =
    frame_fails c.from_residual.result _ _ _ _ _ _ _ _ _ _ c.args.frames.now c.frames.invariant.0 c.in-Some.ensures.steps c.in_err-write_frame.ensures.part
    (c.into_iter-frame-iterator.ensures.into_iter_gives ∙ c.walk-frame-items.ensures.all)

pub frames-preserved : goal.frames-preserved
frames-preserved g c = (
  shows_next _ _ _ _ _ _ _ _ _ _ c.frames.invariant.0 c.in-Some.ensures.steps c.in_ok-write_frame.ensures.whole,
  tt,
)
