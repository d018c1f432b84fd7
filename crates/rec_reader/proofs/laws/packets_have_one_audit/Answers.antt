use Rattle.rec_reader.proofs.OneAudit.{one_answer, one_audit}
use Rattle.rec_reader.proofs.laws.packets_have_one_audit.Goals as goal

pub returns-clause-packet : goal.returns-clause-packet
returns-clause-packet c = one_answer

pub returns-clause-one : goal.returns-clause-one
returns-clause-one c = one_audit
