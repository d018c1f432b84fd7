use Rattle.std.proofs.Common.{◌≡◌, ap, ◌∙◌}
use Rattle.std.proofs.lemmas.Result.{err_from_is_err_and}
use Rattle.ch11_file.specs.OwnedPieces.{owned_data}
use Rattle.rec_stream.specs.StreamPieces.{head_counter, stream_counter}
use Rattle.rec_stream.specs.Sending.{origin_piece}
use Rattle.rec_stream.proofs.Comes.{record_out}
use Rattle.rec_stream.proofs.pieces.put_record.Goals as goal

pub returns-in_err-put_due-clause-gone : goal.returns-in_err-put_due-clause-gone
returns-in_err-put_due-clause-gone g c = λ past others same come.
    let p = err_from_is_err_and c.from_residual.result c.from_residual.ensures.1 in
    let origin = c.args.origin in
    let counted : c.counter_of-counter.result ≡ stream_counter c.args.sent.now.greatest (origin_piece origin (owned_data c.args.piece.now)) =
    c.counter_of-counter.ensures.is ∙ ap (λ n. head_counter n origin.is_end c.head_of.result) c.greatest.ensures.is
    ∙ ap (head_counter c.args.sent.now.greatest origin.is_end) c.head_of.ensures.is in
    rw (p.1, p.2) (c.in_err-put_due.ensures.ready past (origin_piece origin (owned_data c.args.piece.now)) others same come counted)

pub returns-clause-gone : goal.returns-clause-gone
returns-clause-gone g c = λ past others same come.
    let origin = c.args.origin in
    let counted : c.counter_of-counter.result ≡ stream_counter c.args.sent.now.greatest (origin_piece origin (owned_data c.args.piece.now)) =
    c.counter_of-counter.ensures.is ∙ ap (λ n. head_counter n origin.is_end c.head_of.result) c.greatest.ensures.is
    ∙ ap (head_counter c.args.sent.now.greatest origin.is_end) c.head_of.ensures.is in
    record_out c.put_piece.result past (g.W.Write.contents c.put_due.new.out) (g.W.Write.contents c.put_piece.new.out) c.put_due.new.sent
    c.put_piece.new.sent c.put_due.new.self origin (owned_data c.args.piece.now) others c.counter_of-counter.result c.requires.whole
    (c.in_ok-put_due.ensures.ready past (origin_piece origin (owned_data c.args.piece.now)) others same come counted)
    (c.put_piece.ensures.gone past)
