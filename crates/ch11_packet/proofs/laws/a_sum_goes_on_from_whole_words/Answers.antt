use Rattle.ch11_packet.proofs.Sums.{sum_parts}
use Rattle.ch11_packet.proofs.laws.a_sum_goes_on_from_whole_words.Goals as goal

pub returns : goal.returns
returns c = sum_parts
