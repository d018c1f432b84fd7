use Rattle.rec_core.proofs.BufferMoves.{take_grows, close_grows}
use Rattle.rec_core.proofs.laws.buffers_refuse_no_frame.Goals as goal

pub returns-clause-take : goal.returns-clause-take
returns-clause-take c = take_grows c.few_pieces_become_certain_at_a_time.ensures.frame

pub returns-clause-close : goal.returns-clause-close
returns-clause-close c = close_grows c.few_pieces_become_certain_at_a_time.ensures.end
