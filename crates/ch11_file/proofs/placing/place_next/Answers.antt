use Rattle.std.proofs.Common.{ℕ, List, Some, ap, subst, ◌∙◌, ◌≡◌}
use Rattle.std.specs.Prelude.{IsSomeAnd}
use Rattle.std.proofs.lemmas.Bool.{true≢false}
use Rattle.std.proofs.lemmas.Result.{err_from_is_err_and}
use Rattle.ch11_merge.specs.Merging.{ChannelLeft}
use Rattle.ch11_merge.specs.Placing.{SayLeft}
use Rattle.ch11_file.specs.OwnedPieces.{owned_data}
use Rattle.ch11_file.specs.FileTimes.{tick_of}
use Rattle.ch11_file.specs.WholeFile.{IsFarAhead}
use Rattle.ch11_file.specs.WholeFile.FileStage.{Merging}
use Rattle.ch11_file.proofs.NextBlocks.{LiesNear, gap_refused, no_gap, pieces_fail, time_due, piece_near, time_answered, piece_answered}
use Rattle.ch11_file.proofs.placing.place_next.Goals as goal

pub returns-in-Some-clause-placed : goal.returns-in-Some-clause-placed
returns-in-Some-clause-placed g c = λ facts before same placed.
    gap_refused facts before _ c.args.sent.now _ c.in-Some.at placed.left c.next_piece.result placed.has_sent (c.next_piece.ensures placed.left placed.said)
    (subst (λ (n : ℕ). IsSomeAnd c.next_piece.result (λ piece. IsFarAhead n piece.head × (piece.place ≡ c.in-Some.at))) c.greatest.ensures.is
    c.in-Some.ensures.some)

pub returns-in_err-put_time-in-Ok-Some-Time-clause-placed : goal.returns-in_err-put_time-in-Ok-Some-Time-clause-placed
returns-in_err-put_time-in-Ok-Some-Time-clause-placed g c = λ facts before same placed.
    let p = err_from_is_err_and c.from_residual.result c.from_residual.ensures.1 in
    let a = c.in-Ok-Some-Time.ensures placed.left placed.said in
    let t = time_answered g.S.PieceSource.data_of c.tick.result _ placed.left a.0 c.in-Ok-Some-Time.field-0
    (c.in-Ok-Some-Time.field-0-is ∙ ap Some c.in-Ok-Some-Time.field-0-0-is) a.2 in
    let near = subst (λ (n : ℕ). LiesNear n c.next_piece.result) c.greatest.ensures.is c.in_default.ensures.none in
    rw (p.1, p.2) (c.in_err-put_time-in-Ok-Some-Time.ensures.put facts before Merging placed.left same placed.walks placed.has_sent
    (time_due c.args.sent.now.index.greatest c.tick.result (tick_of c.args.times.now.next) placed.left c.next_piece.result c.tick.ensures
    (c.next_piece.ensures placed.left placed.said) near t.0))

pub returns-in_ok-put_time-in-Ok-Some-Time-clause-placed : goal.returns-in_ok-put_time-in-Ok-Some-Time-clause-placed
returns-in_ok-put_time-in-Ok-Some-Time-clause-placed g c = λ facts before same placed.
    let a = c.in-Ok-Some-Time.ensures placed.left placed.said in
    let t = time_answered g.S.PieceSource.data_of c.tick.result _ placed.left a.0 c.in-Ok-Some-Time.field-0
    (c.in-Ok-Some-Time.field-0-is ∙ ap Some c.in-Ok-Some-Time.field-0-0-is) a.2 in
    let near = subst (λ (n : ℕ). LiesNear n c.next_piece.result) c.greatest.ensures.is c.in_default.ensures.none in
    let r = c.in_ok-put_time-in-Ok-Some-Time.ensures.put facts before Merging placed.left same placed.walks placed.has_sent
    (time_due c.args.sent.now.index.greatest c.tick.result (tick_of c.args.times.now.next) placed.left c.next_piece.result c.tick.ensures
    (c.next_piece.ensures placed.left placed.said) near t.0) in (
      λ e. record {
        left = placed.left;
        said = subst (λ (l : List ChannelLeft). SayLeft g.S.PieceSource.left c.next_placed.new.channels l) t.1 a.1;
        walks = r.1;
        has_sent = r.0;
      },
      λ e. absurd (true≢false e),
    )

pub returns-in_err-put_piece-in-Ok-Some-Piece-clause-placed : goal.returns-in_err-put_piece-in-Ok-Some-Piece-clause-placed
returns-in_err-put_piece-in-Ok-Some-Piece-clause-placed g c = λ facts before same placed.
    let p = err_from_is_err_and c.from_residual-in_err-put_piece-in-Ok-Some-Piece.result c.from_residual-in_err-put_piece-in-Ok-Some-Piece.ensures.1 in
    let a = c.in-Ok-Some-Piece.ensures placed.left placed.said in
    let piece = c.in-Ok-Some-Piece.piece in
    let tick = tick_of c.args.times.now.next in
    let is = piece_answered g.S.PieceSource.data_of c.tick.result tick c.in-Ok-Some-Piece.channel piece (owned_data piece) placed.left a.0
    c.in-Ok-Some-Piece.field-0 c.tick.ensures
    (c.in-Ok-Some-Piece.field-0-is ∙ ap Some c.in-Ok-Some-Piece.field-0-0-is) (c.requires.owned piece) a.2 in
    let near = subst (λ (n : ℕ). LiesNear n c.next_piece.result) c.greatest.ensures.is c.in_default.ensures.none in
    rw (p.1, p.2) (c.in_err-put_piece-in-Ok-Some-Piece.ensures.put facts before tick placed.left a.0 placed.has_sent is
    (piece_near c.args.sent.now.index.greatest tick c.in-Ok-Some-Piece.channel placed.left a.0 c.next_piece.result (owned_data piece)
    (c.next_piece.ensures placed.left placed.said) near is))

pub returns-in_ok-put_piece-in-Ok-Some-Piece-clause-placed : goal.returns-in_ok-put_piece-in-Ok-Some-Piece-clause-placed
returns-in_ok-put_piece-in-Ok-Some-Piece-clause-placed g c = λ facts before same placed.
    let a = c.in-Ok-Some-Piece.ensures placed.left placed.said in
    let piece = c.in-Ok-Some-Piece.piece in
    let tick = tick_of c.args.times.now.next in
    let is = piece_answered g.S.PieceSource.data_of c.tick.result tick c.in-Ok-Some-Piece.channel piece (owned_data piece) placed.left a.0
    c.in-Ok-Some-Piece.field-0 c.tick.ensures
    (c.in-Ok-Some-Piece.field-0-is ∙ ap Some c.in-Ok-Some-Piece.field-0-0-is) (c.requires.owned piece) a.2 in
    let near = subst (λ (n : ℕ). LiesNear n c.next_piece.result) c.greatest.ensures.is c.in_default.ensures.none in
    let r = c.in_ok-put_piece-in-Ok-Some-Piece.ensures.put facts before tick placed.left a.0 placed.has_sent is
    (piece_near c.args.sent.now.index.greatest tick c.in-Ok-Some-Piece.channel placed.left a.0 c.next_piece.result (owned_data piece)
    (c.next_piece.ensures placed.left placed.said) near is) in (
      λ e. record { left = a.0; said = a.1; walks = placed.walks; has_sent = r },
      λ e. absurd (true≢false e),
    )

pub returns-in-Err-clause-placed : goal.returns-in-Err-clause-placed
returns-in-Err-clause-placed g c = λ facts before same placed.
    let near = subst (λ (n : ℕ). LiesNear n c.next_piece.result) c.greatest.ensures.is c.in_default.ensures.none in
    pieces_fail facts before _ c.args.sent.now _ placed.has_sent
    (no_gap c.args.sent.now.index.greatest _ placed.left c.next_piece.result (c.next_piece.ensures placed.left placed.said) near)
