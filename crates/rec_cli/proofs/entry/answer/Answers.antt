use Rattle.std.proofs.Common.{ap}
use Rattle.rec_cli.proofs.entry.answer.Goals as goal

pub returns-in-Export : goal.returns-in-Export
returns-in-Export g c =
    rw c.in-Export.is (c.export_frames.ensures.streamed, λ differs. ap g.O.Write.contents (c.export_frames.ensures.unwritten differs))
