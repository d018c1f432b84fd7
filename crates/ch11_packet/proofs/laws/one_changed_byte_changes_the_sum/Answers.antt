use Rattle.ch11_packet.proofs.Sums.{same_byte}
use Rattle.ch11_packet.proofs.laws.one_changed_byte_changes_the_sum.Goals as goal

pub returns : goal.returns
returns c = λ front rest byte other fits also differs same. differs (same_byte front rest byte other fits also same)
