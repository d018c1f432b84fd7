use Rattle.std.proofs.Common.{arith, length}
use Rattle.rec_export.proofs.FrameOptions.{content_1, content_2, content_3}
use Rattle.rec_export.proofs.frame.note_of.Goals as goal

pub returns-in-1 : goal.returns-in-1
returns-in-1 c = content_1 c.args.frame.now.content (length c.args.frame.now.bytes.now) c.in-1.is

pub returns-in-2 : goal.returns-in-2
returns-in-2 c = content_2 c.args.frame.now.content (length c.args.frame.now.bytes.now) c.in-2.is

pub returns-in_default : goal.returns-in_default
returns-in_default c =
    content_3 c.args.frame.now.content (length c.args.frame.now.bytes.now)
    (let fits = c.args.frame.now.in_range.content in let others = c.in_default in omega (arith, fits, others))
