use Rattle.std.proofs.Common.{refl, ◌∙◌}
use Rattle.rec_export.proofs.Parts.{both_taken, first_blocks_fail, second_blocks_fail, whole_start, same_blocks, same_frames}
use Rattle.rec_export.proofs.exporter.export_frames.Goals as goal

pub returns-in_err-describe-clause-part : goal.returns-in_err-describe-clause-part
returns-in_err-describe-clause-part g c =
    first_blocks_fail _ _ _ _ _ _ (same_blocks c.args.origin c.args.channel _ c.args.frames.now _ refl)
    c.in_err-describe.ensures.part

pub returns-in_err-put-clause-part : goal.returns-in_err-put-clause-part
returns-in_err-put-clause-part g c =
    first_blocks_fail _ _ _ _ _ _ (same_blocks c.args.origin c.args.channel _ c.args.frames.now _ refl)
    (whole_start _ _ _ c.in_ok-describe.ensures.whole)

pub returns-in_err-write_frames-clause-part : goal.returns-in_err-write_frames-clause-part
returns-in_err-write_frames-clause-part g c =
    second_blocks_fail _ _ _ _ _ _ _ (same_blocks c.args.origin c.args.channel _ c.args.frames.now _
    (same_frames c.args.channel _ _ _ _ c.args.frames.now (c.in-Ok.ensures.1 ∙ c.number_of-number.ensures)
    (c.text_in.ensures ∙ c.in_ok-comment.ensures.text) c.later_of-later.ensures))
    c.in_ok-describe.ensures.whole c.in_err-write_frames.ensures.part

pub returns-clause-whole : goal.returns-clause-whole
returns-clause-whole g c =
    both_taken _ _ _ _ _ _ (same_blocks c.args.origin c.args.channel _ c.args.frames.now _
    (same_frames c.args.channel _ _ _ _ c.args.frames.now (c.in-Ok.ensures.1 ∙ c.number_of-number.ensures)
    (c.text_in.ensures ∙ c.in_ok-comment.ensures.text) c.later_of-later.ensures))
    c.in_ok-describe.ensures.whole c.in_ok-write_frames.ensures.whole
