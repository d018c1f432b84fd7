use Rattle.rec_lane.proofs.Growth.{taken_grows, timed_grows, ended_grows}
use Rattle.rec_lane.proofs.laws.few_pieces_become_certain_at_a_time.Goals as goal

pub returns-clause-frame : goal.returns-clause-frame
returns-clause-frame c = taken_grows

pub returns-clause-end : goal.returns-clause-end
returns-clause-end c = ended_grows

pub returns-clause-time : goal.returns-clause-time
returns-clause-time c = timed_grows
