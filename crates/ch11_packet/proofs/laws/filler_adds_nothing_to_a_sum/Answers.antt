use Rattle.ch11_packet.proofs.Sums.{sum_filled}
use Rattle.ch11_packet.proofs.laws.filler_adds_nothing_to_a_sum.Goals as goal

pub returns : goal.returns
returns c = sum_filled
