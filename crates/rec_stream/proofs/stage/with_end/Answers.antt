use Rattle.std.proofs.Common.{Option, Some, refl, sym, subst, ◌∙◌, ap, map}
use Rattle.rec_pieces.specs.declared.hand.InHand.{InHand}
use Rattle.rec_pieces.specs.Sources.{pieces_held}
use Rattle.rec_stream.specs.StreamPieces.{AreNewEnds}
use Rattle.rec_stream.specs.Sending.{origin_pieces, waiting_piece, waits_in}
use Rattle.rec_stream.proofs.Waits.{one_waits, together}
use Rattle.rec_stream.proofs.stage.with_end.Goals as goal

pub returns-then-waits-clause-refused : goal.returns-then-waits-clause-refused
returns-then-waits-clause-refused c = (
  refl,
  λ apart. together c.args.ends.items c.args.named.origin.channel
      (sym (c.waits.ensures ∙ ap (λ l. waits_in l c.args.named.origin.channel) c.as_slice.ensures.value) ∙ c.if-waits.true)
      (subst (λ (h : Option InHand). AreNewEnds (map waiting_piece c.args.ends.items) (origin_pieces c.args.named.origin (pieces_held h)))
      (c.in-Some-Record.is ∙ ap Some c.in-Some-Record.field-0-is) apart).0,
)

pub returns-in-Some-Record-clause-waits : goal.returns-in-Some-Record-clause-waits
returns-in-Some-Record-clause-waits c =
    one_waits c.args.ends.items c.push.new.self.items _ (pieces_held c.args.hand) c.in_ok-push-in-Some-Record.ensures.items
    (ap pieces_held (c.in-Some-Record.is ∙ ap Some c.in-Some-Record.field-0-is))
    (sym (c.waits.ensures ∙ ap (λ l. waits_in l c.args.named.origin.channel) c.as_slice.ensures.value) ∙ c.if-waits.false)
