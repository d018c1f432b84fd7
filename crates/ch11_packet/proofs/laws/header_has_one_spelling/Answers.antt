use Rattle.ch11_packet.proofs.Headers.{header_bytes-header_at, IsHeader-header_at}
use Rattle.ch11_packet.proofs.Outcomes.{header_or_fault}
use Rattle.ch11_packet.proofs.laws.header_has_one_spelling.Goals as goal

pub returns-clause-spelled : goal.returns-clause-spelled
returns-clause-spelled c = λ bytes fit len sync sum lengths. (IsHeader-header_at bytes fit lengths, header_bytes-header_at bytes len fit sync sum)

pub returns-clause-some : goal.returns-clause-some
returns-clause-some c = λ bytes fit len. header_or_fault bytes fit len
