use Rattle.ch11_merge.proofs.TimesBehind.{times_behind}
use Rattle.ch11_merge.proofs.laws.time_packets_stand_late.Goals as goal

pub returns : goal.returns
returns c = times_behind
