use Rattle.rec_lane.proofs.Fronts.{packets_longest, one_packets}
use Rattle.rec_lane.proofs.laws.packets_are_longest_fronts.Goals as goal

pub returns-clause-packets : goal.returns-clause-packets
returns-clause-packets c = packets_longest

pub returns-clause-one : goal.returns-clause-one
returns-clause-one c = one_packets
