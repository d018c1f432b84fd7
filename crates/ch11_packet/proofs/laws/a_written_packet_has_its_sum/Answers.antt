use Rattle.ch11_packet.proofs.Summed.{written_sum}
use Rattle.ch11_packet.proofs.laws.a_written_packet_has_its_sum.Goals as goal

pub returns : goal.returns
returns c = written_sum
