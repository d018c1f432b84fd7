use Rattle.rec_runs.proofs.SameInsns.{same_insns}
use Rattle.rec_runs.proofs.laws.the_same_instructions_are_equal.Goals as goal

pub returns : goal.returns
returns c = same_insns
