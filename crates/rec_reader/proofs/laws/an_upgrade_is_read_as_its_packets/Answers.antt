use Rattle.rec_reader.proofs.Upgrading.{reads_upgrade, bytes_are, bytes_unchanged}
use Rattle.rec_reader.proofs.laws.an_upgrade_is_read_as_its_packets.Goals as goal

pub returns-clause-read : goal.returns-clause-read
returns-clause-read c = reads_upgrade c.what_is_not_judged_makes_no_difference.ensures.packet

pub returns-clause-spelled : goal.returns-clause-spelled
returns-clause-spelled c = bytes_are

pub returns-clause-unchanged : goal.returns-clause-unchanged
returns-clause-unchanged c = bytes_unchanged
