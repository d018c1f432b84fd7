use Rattle.rec_lane.proofs.LongestParts.{parts_longest, parts_framed, one_parts}
use Rattle.rec_lane.proofs.laws.packets_are_of_longest_parts.Goals as goal

pub returns-clause-parts : goal.returns-clause-parts
returns-clause-parts c = parts_longest

pub returns-clause-packets : goal.returns-clause-packets
returns-clause-packets c = parts_framed

pub returns-clause-one : goal.returns-clause-one
returns-clause-one c = one_parts
