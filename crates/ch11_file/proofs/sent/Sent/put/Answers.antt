use Rattle.std.proofs.Common.{ℕ, sym, subst}
use Rattle.std.proofs.lemmas.Bool.{false≢true}
use Rattle.std.proofs.lemmas.Result.{err_from_is_err_and}
use Rattle.ch11_file.specs.WholeFile.{ContentGoesNext}
use Rattle.ch11_file.proofs.BlocksPut.{put_whole, put_part}
use Rattle.ch11_file.proofs.sent.Sent.put.Goals as goal

pub returns-in_err-put_index-clause-sent : goal.returns-in_err-put_index-clause-sent
returns-in_err-put_index-clause-sent g c = λ facts before merge next content sent is goes.
    let p = err_from_is_err_and c.from_residual.result c.from_residual.ensures.1 in
    rw p.1 (c.in_err-put_index.ensures.sent facts before merge sent (λ e. absurd (false≢true e)))

pub returns-in_err-len-clause-sent : goal.returns-in_err-len-clause-sent
returns-in_err-len-clause-sent g c = λ facts before merge next content sent is goes.
    let p = err_from_is_err_and c.from_residual-in_err-len.result c.from_residual-in_err-len.ensures.1 in
    rw p.1 (put_part facts before _ _ c.put_index.new.self merge next c.args.head.kind c.args.head.channel c.args.head.counter c.args.body.now content
    (c.in_ok-put_index.ensures.sent facts before merge sent (λ e. absurd (false≢true e))) is c.in_ok-put_index.ensures.none_due
    (subst (λ (n : ℕ). ContentGoesNext facts n merge content c.args.head.counter next) (sym c.in_ok-put_index.ensures.grows.greatest) goes)
    c.in_err-len.ensures.part c.requires.setup)

pub returns-clause-sent : goal.returns-clause-sent
returns-clause-sent g c = λ facts before merge next content sent is goes.
    put_whole facts before _ _ c.put_index.new.self c.write.new.self c.note.new.self merge next c.args.head.kind c.args.head.channel c.args.head.counter
    c.args.body.now c.in_ok-len.len content
    (c.in_ok-put_index.ensures.sent facts before merge sent (λ e. absurd (false≢true e))) is c.in_ok-put_index.ensures.none_due
    (subst (λ (n : ℕ). ContentGoesNext facts n merge content c.args.head.counter next) (sym c.in_ok-put_index.ensures.grows.greatest) goes)
    c.in_ok-len.ensures.whole c.requires.setup c.note.ensures
