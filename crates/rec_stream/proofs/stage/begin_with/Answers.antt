use Rattle.std.proofs.Common.{◌++◌, List, map, sym, subst}
use Rattle.std.proofs.lemmas.Result.{err_from_is_err_and}
use Rattle.rec_pieces.specs.Sources.{pieces_held}
use Rattle.rec_stream.specs.declared.waiting.WaitingEnd.{WaitingEnd}
use Rattle.rec_stream.specs.Sending.{HasCome, origin_pieces, waiting_piece}
use Rattle.rec_stream.proofs.stage.begin_with.Goals as goal

pub returns-in_err-course-clause-begun : goal.returns-in_err-course-clause-begun
returns-in_err-course-clause-begun g c = λ past same rules fresh.
    let p = err_from_is_err_and c.from_residual.result c.from_residual.ensures.1 in
    rw (p.1, p.2) (c.in_err-course.ensures.begun past (origin_pieces c.args.origin (pieces_held c.args.hand) ++ map waiting_piece c.args.ends.now.items)
    same rules fresh)

pub returns-in_err-put_hand-clause-begun : goal.returns-in_err-put_hand-clause-begun
returns-in_err-put_hand-clause-begun g c = λ past same rules fresh.
    let p = err_from_is_err_and c.from_residual-in_err-put_hand.result c.from_residual-in_err-put_hand.ensures.1 in
    let left = map waiting_piece c.args.ends.now.items in
    rw (p.1, p.2) (c.in_err-put_hand.ensures.gone past left same
    (c.in_ok-course.ensures.begun past (origin_pieces c.args.origin (pieces_held c.args.hand) ++ left) same rules fresh))

pub returns-in_err-put_ends-clause-begun : goal.returns-in_err-put_ends-clause-begun
returns-in_err-put_ends-clause-begun g c = λ past same rules fresh.
    let p = err_from_is_err_and c.from_residual-in_err-put_ends.result c.from_residual-in_err-put_ends.ensures.1 in
    let left = map waiting_piece c.args.ends.now.items in
    let come = c.in_ok-put_hand.ensures.gone past left same
    (c.in_ok-course.ensures.begun past (origin_pieces c.args.origin (pieces_held c.args.hand) ++ left) same rules fresh) in
    rw (p.1, p.2) (c.in_err-put_ends.ensures.gone past same
    (subst (λ (l : List WaitingEnd). HasCome past (g.W.Write.contents c.put_hand.new.out) c.put_hand.new.sent c.put_hand.new.course (map waiting_piece l))
    (sym c.as_slice.ensures.value) come))

pub returns-clause-begun : goal.returns-clause-begun
returns-clause-begun g c = λ past same rules fresh.
    let left = map waiting_piece c.args.ends.now.items in
    let come = c.in_ok-put_hand.ensures.gone past left same
    (c.in_ok-course.ensures.begun past (origin_pieces c.args.origin (pieces_held c.args.hand) ++ left) same rules fresh) in
    c.in_ok-put_ends.ensures.gone past same
    (subst (λ (l : List WaitingEnd). HasCome past (g.W.Write.contents c.put_hand.new.out) c.put_hand.new.sent c.put_hand.new.course (map waiting_piece l))
    (sym c.as_slice.ensures.value) come)
