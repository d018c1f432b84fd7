use Rattle.ch11_packet.proofs.Bodies.{body_sum_is}
use Rattle.ch11_packet.proofs.frames.body.DataBody.sum.Goals as goal

pub returns : goal.returns
returns c = record { sum = body_sum_is _ _ _ _ _ _ _ _ c.self.invariant c.self.view_is }
