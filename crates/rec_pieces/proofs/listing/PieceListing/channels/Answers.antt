use Rattle.std.proofs.Common.{◌++◌, ◌∷◌, [], ◌∙◌, sym, ap}
use Rattle.rec_pieces.specs.PieceListings.{are_some}
use Rattle.rec_pieces.proofs.ChannelsListed.{listed_more, listed_same, none_below, some_are, none_are}
use Rattle.rec_pieces.proofs.listing.PieceListing.channels.Goals.{then-not-is_empty+in_ok-push, else-not-is_empty}
use Rattle.rec_pieces.proofs.listing.PieceListing.channels.Goals as goal

pub channels-init : goal.channels-init
channels-init c = c.new-channels.ensures.items ∙ sym (none_below c.args.self.now)

pub channels-preserved : goal.channels-preserved
channels-preserved c = elim c.if-not-is_empty.branch [
  | then-not-is_empty+in_ok-push w ↦ ap (λ v. v.items) w.channels-is ∙ w.in_ok-push.ensures.items
      ∙ ap (λ l. l ++ c.channels.id ∷ []) c.channels.invariant
      ∙ sym (listed_more c.args.self.now c.channels.id (ap are_some (sym c.packets_of.ensures)
      ∙ some_are c.packets_of.result.now (sym c.is_empty.ensures ∙ w.if-not-is_empty.true)))
  | else-not-is_empty w ↦ ap (λ v. v.items) w.channels-is ∙ c.channels.invariant
      ∙ sym (listed_same c.args.self.now c.channels.id (ap are_some (sym c.packets_of.ensures)
      ∙ none_are c.packets_of.result.now (sym c.is_empty.ensures ∙ w.if-not-is_empty.false)))
]
