use Rattle.rec_lane.proofs.Beginnings.{left_are}
use Rattle.rec_lane.proofs.lane.Lane.last_pieces.Goals as goal

pub returns : goal.returns
returns c = rw (← c.self.view_is) (λ offered met. left_are _ offered _ met c.left_pieces.ensures)
