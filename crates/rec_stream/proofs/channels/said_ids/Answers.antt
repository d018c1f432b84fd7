use Rattle.std.proofs.Common.{◌++◌, ◌∷◌, [], ◌∙◌, sym, ap}
use Rattle.rec_stream.proofs.SaidChannels.{none_said, one_said, same_said}
use Rattle.rec_stream.proofs.channels.said_ids.Goals.{then-is_said+in_ok-push, else-is_said}
use Rattle.rec_stream.proofs.channels.said_ids.Goals as goal

pub ids-init : goal.ids-init
ids-init c = c.new-ids.ensures.items ∙ sym (none_said c.args.channels.now)

pub ids-preserved : goal.ids-preserved
ids-preserved c = elim c.if-is_said.branch [
  | then-is_said+in_ok-push w ↦ ap (λ v. v.items) w.ids-is ∙ w.in_ok-push.ensures.items ∙ ap (λ l. l ++ c.ids.at ∷ []) c.ids.invariant
      ∙ sym (one_said c.args.channels.now c.ids.at (sym c.is_said.ensures ∙ w.if-is_said.true))
  | else-is_said w ↦ ap (λ v. v.items) w.ids-is ∙ c.ids.invariant
      ∙ sym (same_said c.args.channels.now c.ids.at (sym c.is_said.ensures ∙ w.if-is_said.false))
]
