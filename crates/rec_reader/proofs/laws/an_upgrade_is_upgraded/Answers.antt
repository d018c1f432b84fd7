use Rattle.rec_reader.proofs.Upgrading.{upgrade_twice, bytes_twice, none_old}
use Rattle.rec_reader.proofs.laws.an_upgrade_is_upgraded.Goals as goal

pub returns-clause-packets : goal.returns-clause-packets
returns-clause-packets c = upgrade_twice

pub returns-clause-bytes : goal.returns-clause-bytes
returns-clause-bytes c = bytes_twice

pub returns-clause-none_old : goal.returns-clause-none_old
returns-clause-none_old c = none_old
