use Rattle.std.proofs.Common.{rules}
use Rattle.rec_run.proofs.Finishes.{last_whole, last_part}
use Rattle.rec_run.proofs.worker.thread.last_pieces.Goals as goal

pub returns-then-send_all-clause-last : goal.returns-then-send_all-clause-last
returns-then-send_all-clause-last g c =
    last_whole c.args.lane c.args.end c.in-Ended.ending _ _ _ c.in-Ended.is (c.is_over.ensures.0 c.if-is_over.true) c.end.ensures.pieces
    (c.send_all.ensures.went c.if-send_all.true)

pub returns-else-send_all-clause-last : goal.returns-else-send_all-clause-last
returns-else-send_all-clause-last g c =
    last_part c.args.lane c.args.end _ c.in-Ended.ending _ _ _ c.in-Ended.is (c.is_over.ensures.0 c.if-is_over.true) c.end.ensures.pieces
    c.send_all.ensures.part (search rules)
