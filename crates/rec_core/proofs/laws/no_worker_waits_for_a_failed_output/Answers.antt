use Rattle.rec_core.proofs.BufferMoves.{each_worker_moves}
use Rattle.rec_core.proofs.BufferWork.{few_later}
use Rattle.rec_core.proofs.laws.no_worker_waits_for_a_failed_output.Goals as goal

pub returns-clause-each : goal.returns-clause-each
returns-clause-each c = each_worker_moves

pub returns-clause-few : goal.returns-clause-few
returns-clause-few c = λ ring spare specs moves old lead later new run none. few_later ring spare specs moves old lead later new run
