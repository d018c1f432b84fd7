use Rattle.ch11_packet.proofs.StoredInsns.{length-stored_insns}
use Rattle.ch11_packet.proofs.records.record.ProgramRecord.insn_at.Goals as goal

pub returns-clause-count : goal.returns-clause-count
returns-clause-count c = length-stored_insns c.args.self.now.count c.args.self.now.insns.now
