use Rattle.rec_lane.proofs.LongestParts.{group_within, open_young}
use Rattle.rec_lane.proofs.laws.a_packet_is_of_less_than_a_span.Goals as goal

pub returns-clause-frames : goal.returns-clause-frames
returns-clause-frames c = group_within

pub returns-clause-open : goal.returns-clause-open
returns-clause-open c = open_young
