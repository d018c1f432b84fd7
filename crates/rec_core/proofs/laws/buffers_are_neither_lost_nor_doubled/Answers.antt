use Rattle.rec_core.proofs.Buffers.{counted_all, roomy_all, ready_all}
use Rattle.rec_core.proofs.BufferMoves.{each_gives}
use Rattle.rec_core.proofs.laws.buffers_are_neither_lost_nor_doubled.Goals as goal

pub returns-clause-count : goal.returns-clause-count
returns-clause-count c = counted_all

pub returns-clause-room : goal.returns-clause-room
returns-clause-room c = roomy_all

pub returns-clause-back : goal.returns-clause-back
returns-clause-back c = each_gives

pub returns-clause-ready : goal.returns-clause-ready
returns-clause-ready c = ready_all
