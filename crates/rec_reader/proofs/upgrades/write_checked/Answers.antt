use Rattle.rec_reader.specs.Views.{packet_data}
use Rattle.rec_reader.proofs.Upgrading.{old_is}
use Rattle.rec_reader.proofs.upgrades.write_checked.Goals as goal

pub checked_header-header-requires-clause-flags : goal.checked_header-header-requires-clause-flags
checked_header-header-requires-clause-flags g c = (old_is (packet_data c.args.packet.now) c.requires).flags

pub checked_header-header-requires-clause-fits : goal.checked_header-header-requires-clause-fits
checked_header-header-requires-clause-fits g c = (old_is (packet_data c.args.packet.now) c.requires).fits
