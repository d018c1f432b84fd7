use Rattle.std.proofs.Common.{◌++◌, Option, subst}
use Rattle.rec_pieces.specs.declared.hand.InHand.{InHand}
use Rattle.rec_pieces.specs.Sources.{pieces_held}
use Rattle.rec_stream.specs.Sending.{HasCome, origin_pieces}
use Rattle.rec_stream.proofs.pieces.put_hand.Goals as goal

pub returns-in-None-clause-gone : goal.returns-in-None-clause-gone
returns-in-None-clause-gone g c = λ past others same come.
    subst (λ (h : Option InHand). HasCome past (g.W.Write.contents c.args.out.now) c.args.sent.now c.args.course.now
    (origin_pieces c.args.origin (pieces_held h) ++ others)) c.in-None.is come
