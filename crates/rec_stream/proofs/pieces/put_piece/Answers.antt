use Rattle.std.proofs.Common.{sym, subst, ◌∙◌}
use Rattle.ch11_file.specs.OwnedPieces.{owned_data}
use Rattle.ch11_file.specs.FileBlocks.BlockContent.{PieceBlock}
use Rattle.rec_stream.specs.StreamEnds.{GoingFails}
use Rattle.rec_stream.proofs.GoingOn.{fault_fails}
use Rattle.rec_stream.proofs.pieces.put_piece.Goals as goal

pub returns-in-Ok-clause-gone : goal.returns-in-Ok-clause-gone
returns-in-Ok-clause-gone g c = λ past old next gone goes.
    c.in-Ok.ensures.sent past old next (PieceBlock c.args.origin.channel (owned_data c.args.piece.now)) gone
    (record {
      kind_is = c.piece_head-head.ensures.kind;
      channel_is = c.piece_head-head.ensures.channel past.facts.setup;
      body_is = c.piece_body.ensures.body c.args.origin.channel;
    }) goes

pub returns-in-Err-clause-gone : goal.returns-in-Err-clause-gone
returns-in-Err-clause-gone g c = λ past old next gone goes.
    subst (GoingFails past (g.W.Write.contents c.put.new.out)) (sym c.from.ensures)
    (fault_fails past (g.W.Write.contents c.put.new.out) c.in-Err.fault
    (c.in-Err.ensures.sent past old next (PieceBlock c.args.origin.channel (owned_data c.args.piece.now)) gone
    (record {
      kind_is = c.piece_head-head.ensures.kind;
      channel_is = c.piece_head-head.ensures.channel past.facts.setup;
      body_is = c.piece_body.ensures.body c.args.origin.channel;
    }) goes))

pub put-requires-clause-frames : goal.put-requires-clause-frames
put-requires-clause-frames g c = λ e. c.piece_body.ensures.frames c.args.origin.channel (sym c.piece_head-head.ensures.kind ∙ e)
