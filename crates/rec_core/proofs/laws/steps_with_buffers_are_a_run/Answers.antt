use Rattle.rec_core.proofs.BufferRuns.{forgotten}
use Rattle.rec_core.proofs.laws.steps_with_buffers_are_a_run.Goals as goal

pub returns : goal.returns
returns c = forgotten
