use Rattle.std.proofs.Common.{◌++◌, List, refl, subst, ◌∙◌}
use Rattle.std.proofs.lemmas.Result.{err_from_is_err_and}
use Rattle.ch11_merge.specs.Merging.{FilePiece}
use Rattle.rec_stream.specs.Sending.{HasCome, origin_pieces}
use Rattle.rec_stream.proofs.pieces.put_frames.Goals as goal

pub pieces-init : goal.pieces-init
pieces-init g c = record { come = λ past others same come. come; other = refl }

pub pieces-preserved : goal.pieces-preserved
pieces-preserved g c = record {
  come = λ past others same come. c.in_ok-put_next.ensures.gone past others same (c.pieces.invariant.come past others same come);
  other = c.in_ok-put_next.ensures.other ∙ c.pieces.invariant.other;
}

pub returns-in_err-put_next-clause-gone : goal.returns-in_err-put_next-clause-gone
returns-in_err-put_next-clause-gone g c = λ past others same come.
    let p = err_from_is_err_and c.from_residual.result c.from_residual.ensures.1 in
    rw (p.1, p.2) (c.in_err-put_next.ensures.gone past others same (c.pieces.invariant.come past others same come))

pub returns-clause-gone : goal.returns-clause-gone
returns-clause-gone g c = λ past others same come.
    subst (λ (l : List FilePiece). HasCome past (g.W.Write.contents c.pieces.out) c.pieces.sent c.pieces.course (origin_pieces c.args.origin l ++ others))
    (c.is_over.ensures.0 c.pieces-test.false) (c.pieces.invariant.come past others same come)
