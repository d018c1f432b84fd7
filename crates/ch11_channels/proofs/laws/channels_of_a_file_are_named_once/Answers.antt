use Rattle.ch11_channels.proofs.FileNumbering.{are_others, each_named, have_other_ids}
use Rattle.ch11_channels.proofs.laws.channels_of_a_file_are_named_once.Goals as goal

pub returns-clause-each : goal.returns-clause-each
returns-clause-each c = each_named

pub returns-clause-once : goal.returns-clause-once
returns-clause-once c = are_others

pub returns-clause-apart : goal.returns-clause-apart
returns-clause-apart c = have_other_ids
