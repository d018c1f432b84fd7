use Rattle.ch11_merge.proofs.TimesAhead.{times_ahead}
use Rattle.ch11_merge.proofs.laws.time_packets_stand_ahead.Goals as goal

pub returns : goal.returns
returns c = times_ahead
