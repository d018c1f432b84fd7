use Rattle.rec_lane.proofs.LongestParts.{plain_packets}
use Rattle.rec_lane.proofs.laws.without_a_span_the_limit_alone_makes_packets.Goals as goal

pub returns : goal.returns
returns c = plain_packets
