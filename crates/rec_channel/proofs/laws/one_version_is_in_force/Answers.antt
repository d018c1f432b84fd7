use Rattle.rec_channel.proofs.InForceAt.{counted_is_in_force}
use Rattle.rec_channel.proofs.laws.one_version_is_in_force.Goals as goal

pub returns-clause-some : goal.returns-clause-some
returns-clause-some c = counted_is_in_force
