use Rattle.rec_runs.proofs.RunBeginning.{nothing_moved}
use Rattle.rec_runs.proofs.laws.a_channel_that_begins_is_not_moved.Goals as goal

pub returns : goal.returns
returns c = nothing_moved
