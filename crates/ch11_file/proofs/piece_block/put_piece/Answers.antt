use Rattle.std.proofs.Common.{ℕ, sym, ap, subst, ◌∙◌}
use Rattle.std.proofs.lemmas.Bool.{false≢true}
use Rattle.ch11_file.specs.FileBlocks.BlockContent.{PieceBlock}
use Rattle.ch11_file.specs.OwnedPieces.{owned_data}
use Rattle.ch11_file.specs.WholeFile.{IsBehind, counter_of, merge_state}
use Rattle.ch11_file.specs.WholeFile.FileStage.{Merging}
use Rattle.ch11_file.proofs.NextBlocks.{piece_goes}
use Rattle.ch11_file.proofs.piece_block.put_piece.Goals as goal

pub put-requires-clause-frames : goal.put-requires-clause-frames
put-requires-clause-frames g c = λ k. c.piece_body.ensures.frames c.args.channel (sym c.piece_head-head.ensures.kind ∙ k)

pub returns-in-Ok-clause-put : goal.returns-in-Ok-clause-put
returns-in-Ok-clause-put g c = λ facts before tick old new sent is early.
    let piece = owned_data c.args.piece.now in
    c.in-Ok.ensures.sent facts before (merge_state Merging tick old) (merge_state Merging tick new) (PieceBlock c.args.channel piece) sent
    (record {
      kind_is = c.piece_head-head.ensures.kind;
      channel_is = c.piece_head-head.ensures.channel facts.setup;
      body_is = c.piece_body.ensures.body c.args.channel;
    })
    (piece_goes c.args.sent.now.index.greatest tick old new c.args.channel c.piece_head-head.result.counter piece is
    (c.piece_head-head.ensures.counter ∙ ap (λ n. counter_of n piece) c.greatest-greatest.ensures.is)
    (subst (λ (n : ℕ). IsBehind n c.piece_head-head.result.counter → ⊥) c.greatest-greatest.ensures.is (λ b. false≢true (c.if-is_behind.ensures.1 b)))
    early)

pub returns-in-Err-clause-put : goal.returns-in-Err-clause-put
returns-in-Err-clause-put g c = λ facts before tick old new sent is early.
    let piece = owned_data c.args.piece.now in
    c.in-Err.ensures.sent facts before (merge_state Merging tick old) (merge_state Merging tick new) (PieceBlock c.args.channel piece) sent
    (record {
      kind_is = c.piece_head-head.ensures.kind;
      channel_is = c.piece_head-head.ensures.channel facts.setup;
      body_is = c.piece_body.ensures.body c.args.channel;
    })
    (piece_goes c.args.sent.now.index.greatest tick old new c.args.channel c.piece_head-head.result.counter piece is
    (c.piece_head-head.ensures.counter ∙ ap (λ n. counter_of n piece) c.greatest-greatest.ensures.is)
    (subst (λ (n : ℕ). IsBehind n c.piece_head-head.result.counter → ⊥) c.greatest-greatest.ensures.is (λ b. false≢true (c.if-is_behind.ensures.1 b)))
    early)
