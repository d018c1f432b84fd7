use Rattle.std.proofs.lemmas.Result.{err_from_is_err_and}
use Rattle.rec_stream.proofs.GoingOn.{put_part, put_whole}
use Rattle.rec_stream.proofs.sent.Sent.put.Goals as goal

pub returns-in_err-write-clause-sent : goal.returns-in_err-write-clause-sent
returns-in_err-write-clause-sent g c = λ past old next content gone is goes.
    let p = err_from_is_err_and c.from_residual.result c.from_residual.ensures.1 in
    rw p.1 (put_part past _ _ _ old next c.args.head.kind c.args.head.channel c.args.head.counter c.args.body.now content gone is goes
    c.in_err-write.ensures.part c.requires.setup)

pub returns-clause-sent : goal.returns-clause-sent
returns-clause-sent g c = λ past old next content gone is goes.
    put_whole past _ _ _ c.write.new.self c.note.new.self old next c.args.head.kind c.args.head.channel c.args.head.counter c.args.body.now content
    gone is goes c.in_ok-write.ensures.whole c.requires.setup c.note.ensures
