use Rattle.std.proofs.Common.{◌≡◌, ◌+◌, ◌∷◌, ◌++◌, List, ap, subst, ◌∙◌, arith}
use Rattle.std.specs.Prelude.{false, max}
use Rattle.std.proofs.lemmas.Result.{err_from_is_err_and}
use Rattle.ch11_merge.specs.declared.source.Head.{Head}
use Rattle.ch11_merge.specs.Merging.{FilePiece, head_of, is_due}
use Rattle.ch11_file.specs.OwnedPieces.{owned_data}
use Rattle.rec_stream.specs.StreamPieces.{head_counter, stream_counter}
use Rattle.rec_stream.specs.Sending.{HasCome, origin_piece, origin_pieces}
use Rattle.rec_stream.proofs.GoingOn.{front_of}
use Rattle.rec_stream.proofs.Comes.{always_ok, early_by, next_out, some_case, takes_smaller}
use Rattle.rec_stream.proofs.pieces.put_next.Goals as goal

pub take-requires-clause-early : goal.take-requires-clause-early
take-requires-clause-early g c =
    let is = c.counter_of-counter.ensures.is in
    let most = c.max-tick.ensures in
    subst (λ (h : Head). is_due c.max-tick.result h ≡ false) c.head.ensures.is
    (early_by c.greatest.result c.max-tick.result c.args.origin.is_end c.head.result (omega (arith, is, most)))

pub returns-in_err-put_due-clause-gone : goal.returns-in_err-put_due-clause-gone
returns-in_err-put_due-clause-gone g c = λ past others same come.
    let q = err_from_is_err_and c.from_residual.result c.from_residual.ensures.1 in
    let origin = c.args.origin in
    let counted : (p : FilePiece) (ps : List FilePiece) → c.args.frames.now ≡ p ∷ ps
    → c.counter_of-counter.result ≡ stream_counter c.args.sent.now.greatest (origin_piece origin p) =
    λ p ps e. c.counter_of-counter.ensures.is ∙ ap (λ n. head_counter n origin.is_end c.head.result) c.greatest.ensures.is
    ∙ ap (head_counter c.args.sent.now.greatest origin.is_end) (c.head.ensures.is ∙ ap head_of e) in
    let all : (p : FilePiece) (ps : List FilePiece) → c.args.frames.now ≡ p ∷ ps
    → HasCome past (g.W.Write.contents c.args.out.now) c.args.sent.now c.args.course.now (origin_piece origin p ∷ (origin_pieces origin ps ++ others)) =
    λ p ps e. subst (λ (l : List FilePiece). HasCome past (g.W.Write.contents c.args.out.now) c.args.sent.now c.args.course.now
    (origin_pieces origin l ++ others)) e come in
    rw (q.1, q.2) (some_case c.args.frames.now c.requires.some (λ p ps e.
    c.in_err-put_due.ensures.ready past (origin_piece origin p) (origin_pieces origin ps ++ others) same (all p ps e) (counted p ps e)))

pub returns-in_err-piece-clause-gone : goal.returns-in_err-piece-clause-gone
returns-in_err-piece-clause-gone g c = λ past others same come.
    let q = err_from_is_err_and c.from_residual-in_err-piece.result c.from_residual-in_err-piece.ensures.1 in
    let origin = c.args.origin in
    let counted : (p : FilePiece) (ps : List FilePiece) → c.args.frames.now ≡ p ∷ ps
    → c.counter_of-counter.result ≡ stream_counter c.args.sent.now.greatest (origin_piece origin p) =
    λ p ps e. c.counter_of-counter.ensures.is ∙ ap (λ n. head_counter n origin.is_end c.head.result) c.greatest.ensures.is
    ∙ ap (head_counter c.args.sent.now.greatest origin.is_end) (c.head.ensures.is ∙ ap head_of e) in
    let all : (p : FilePiece) (ps : List FilePiece) → c.args.frames.now ≡ p ∷ ps
    → HasCome past (g.W.Write.contents c.args.out.now) c.args.sent.now c.args.course.now (origin_piece origin p ∷ (origin_pieces origin ps ++ others)) =
    λ p ps e. subst (λ (l : List FilePiece). HasCome past (g.W.Write.contents c.args.out.now) c.args.sent.now c.args.course.now
    (origin_pieces origin l ++ others)) e come in
    rw (q.1, q.2) (some_case c.args.frames.now c.requires.some (λ p ps e.
    let ready = c.in_ok-put_due.ensures.ready past (origin_piece origin p) (origin_pieces origin ps ++ others) same (all p ps e) (counted p ps e) in
    front_of past _ c.put_due.new.sent ready.now ready.has_gone))

pub returns-clause-gone : goal.returns-clause-gone
returns-clause-gone g c = λ past others same come.
    let origin = c.args.origin in
    let counted : (p : FilePiece) (ps : List FilePiece) → c.args.frames.now ≡ p ∷ ps
    → c.counter_of-counter.result ≡ stream_counter c.args.sent.now.greatest (origin_piece origin p) =
    λ p ps e. c.counter_of-counter.ensures.is ∙ ap (λ n. head_counter n origin.is_end c.head.result) c.greatest.ensures.is
    ∙ ap (head_counter c.args.sent.now.greatest origin.is_end) (c.head.ensures.is ∙ ap head_of e) in
    let all : (p : FilePiece) (ps : List FilePiece) → c.args.frames.now ≡ p ∷ ps
    → HasCome past (g.W.Write.contents c.args.out.now) c.args.sent.now c.args.course.now (origin_piece origin p ∷ (origin_pieces origin ps ++ others)) =
    λ p ps e. subst (λ (l : List FilePiece). HasCome past (g.W.Write.contents c.args.out.now) c.args.sent.now c.args.course.now
    (origin_pieces origin l ++ others)) e come in
    next_out c.put_piece.result past (g.W.Write.contents c.put_due.new.out) (g.W.Write.contents c.put_piece.new.out) c.put_due.new.sent
    c.put_piece.new.sent c.put_due.new.self origin c.args.frames.now c.take.new.self others c.counter_of-counter.result c.max-tick.result
    (owned_data c.in_ok-piece.piece)
    (λ p ps e. c.in_ok-put_due.ensures.ready past (origin_piece origin p) (origin_pieces origin ps ++ others) same (all p ps e) (counted p ps e))
    (c.max-tick.ensures ∙ ap (λ n. max n (c.counter_of-counter.result + 1)) c.tick.ensures) c.in_ok-piece.ensures (c.put_piece.ensures.gone past)

pub returns-clause-smaller : goal.returns-clause-smaller
returns-clause-smaller g c =
    let is = c.counter_of-counter.ensures.is in
    let most = c.max-tick.ensures in
    always_ok c.put_piece.result (takes_smaller c.max-tick.result c.args.frames.now c.take.new.self (owned_data c.in_ok-piece.piece)
    (subst (λ (h : Head). is_due c.max-tick.result h ≡ false) c.head.ensures.is
    (early_by c.greatest.result c.max-tick.result c.args.origin.is_end c.head.result (omega (arith, is, most))))
    c.in_ok-piece.ensures)
