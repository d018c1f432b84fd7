use Rattle.rec_channel.proofs.InForceAt.{later_kept, later_nothing_else, later_same}
use Rattle.rec_channel.proofs.laws.later_versions_leave_the_past.Goals as goal

pub returns-clause-kept : goal.returns-clause-kept
returns-clause-kept c = later_kept

pub returns-clause-nothing_else : goal.returns-clause-nothing_else
returns-clause-nothing_else c = later_nothing_else

pub returns-clause-same : goal.returns-clause-same
returns-clause-same c = later_same
