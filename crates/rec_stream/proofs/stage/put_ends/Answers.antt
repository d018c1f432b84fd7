use Rattle.std.proofs.Common.{◌≡◌, ◌+◌, ◌∷◌, drop, refl, sym, subst, ◌∙◌, ap, map}
use Rattle.std.proofs.lemmas.List.{drop_all, drop_more}
use Rattle.std.proofs.lemmas.Result.{err_from_is_err_and}
use Rattle.rec_stream.specs.Sending.{HasCome, waiting_piece}
use Rattle.rec_stream.proofs.stage.put_ends.Goals as goal

pub ends-init : goal.ends-init
ends-init g c = record { come = λ past same come. come; other = refl }

pub ends-preserved : goal.ends-preserved
ends-preserved g c =
    let end = c.index-ends-k.result in
    let rest = drop (c.ends.k + 1) c.args.ends.now in
    let here : map waiting_piece (drop c.ends.k c.args.ends.now) ≡ waiting_piece end ∷ map waiting_piece rest =
    ap (map waiting_piece) (drop_more c.args.ends.now c.ends.k end c.ends-test.true ∙ ap (λ e. e ∷ rest) (sym c.index-ends-k.is)) in
    record {
      come = λ past same come. c.in_ok-put_record.ensures.gone past (map waiting_piece rest) same
          (subst (HasCome past (g.W.Write.contents c.ends.out) c.ends.sent c.ends.course) here (c.ends.invariant.come past same come));
      other = c.in_ok-put_record.ensures.other ∙ c.ends.invariant.other;
    }

pub returns-in_err-put_record-clause-gone : goal.returns-in_err-put_record-clause-gone
returns-in_err-put_record-clause-gone g c = λ past same come.
    let p = err_from_is_err_and c.from_residual.result c.from_residual.ensures.1 in
    let end = c.index-ends-k.result in
    let rest = drop (c.ends.k + 1) c.args.ends.now in
    let here : map waiting_piece (drop c.ends.k c.args.ends.now) ≡ waiting_piece end ∷ map waiting_piece rest =
    ap (map waiting_piece) (drop_more c.args.ends.now c.ends.k end c.ends-test.true ∙ ap (λ e. e ∷ rest) (sym c.index-ends-k.is)) in
    rw (p.1, p.2) (c.in_err-put_record.ensures.gone past (map waiting_piece rest) same
    (subst (HasCome past (g.W.Write.contents c.ends.out) c.ends.sent c.ends.course) here (c.ends.invariant.come past same come)))

pub returns-clause-gone : goal.returns-clause-gone
returns-clause-gone g c = λ past same come.
    subst (λ l. HasCome past (g.W.Write.contents c.ends.out) c.ends.sent c.ends.course (map waiting_piece l))
    (drop_all c.ends.k c.args.ends.now c.ends-test.false) (c.ends.invariant.come past same come)
