use Rattle.std.proofs.Common.{sym, ◌∙◌, arith}
use Rattle.std.proofs.lemmas.Bool.Decides.{nat_tests}
use Rattle.rec_pieces.proofs.HandPieces.{over_if, over_then}
use Rattle.rec_pieces.proofs.frames.FramesInHand.is_over.Goals as goal

pub returns : goal.returns
returns c = (
  λ zero. sym c.self.view_is ∙ over_if _ _ _ _ _ (grind (arith, nat_tests)),
  λ none. (let is = over_then _ _ _ _ _ (c.self.view_is ∙ none) in grind (arith, nat_tests)),
)
