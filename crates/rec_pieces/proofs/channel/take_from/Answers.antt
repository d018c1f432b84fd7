use Rattle.std.proofs.Common.{sym, subst}
use Rattle.ch11_merge.specs.Merging.{TakesPart}
use Rattle.ch11_file.specs.OwnedPieces.{owned_data}
use Rattle.rec_pieces.specs.Sources.{hand_pieces, pieces_held, pieces_to_come}
use Rattle.rec_pieces.proofs.SourcesTaken.{last_taken}
use Rattle.rec_pieces.proofs.channel.take_from.Goals as goal

pub returns-in_ok-hand-in-Frames-clause-taken : goal.returns-in_ok-hand-in-Frames-clause-taken
returns-in_ok-hand-in-Frames-clause-taken g c =
    last_taken (g.P.PacketsAt.there c.args.packets.now) (pieces_to_come c.args.entries.now c.args.next.now)
    (pieces_to_come c.args.entries.now c.next_in_hand.new.next) (pieces_held c.in_ok-hand-in-Frames.hand) c.args.tick (hand_pieces c.args.hand)
    (owned_data c.in_ok-piece-in-Frames.piece) c.take.new.self
    c.in_ok-hand-in-Frames.ensures.pieces
    (subst (λ h. TakesPart c.args.tick (hand_pieces h) (owned_data c.in_ok-piece-in-Frames.piece) c.take.new.self) (sym c.in-Frames.is)
    c.in_ok-piece-in-Frames.ensures)
    (c.is_over.ensures.0 c.if-not-is_over.false)
