-- Where a recording isn't a part of its run, by its audit.
use Rattle.std.specs.Prelude.{ℕ, ◌≡◌, ◌≢◌, ◌⊎◌, List, [], ◌∷◌, ◌++◌, Option, None, Some}
use Rattle.std.specs.Prelude.{Result, Ok, Err}
use Rattle.rec_reader.specs.declared.audits.answer.Audit.{Audit}
use Rattle.rec_reader.specs.declared.audits.answer.AuditFault.{AuditFault}
use Rattle.rec_reader.specs.declared.audits.answer.AuditFault.TheVariants.{NoProgram, BadProgram}
use Rattle.rec_reader.specs.declared.audits.answer.AuditFault.TheVariants.{NotAccepted, Order}
use Rattle.rec_reader.specs.declared.audits.answer.AuditFault.TheVariants.{NoEnd, Counts, Memory}
use Rattle.rec_reader.specs.declared.audits.auditor.Auditor.{Auditor}
use Rattle.rec_reader.specs.Packets.{PacketData, packets_len}
use Rattle.rec_reader.specs.Audits.{Audits, EachPasses}
use Rattle.rec_reader.specs.Auditors.{AuditorStandsFor, Walks, fault_in}
use Rattle.cli_chapter11.specs.declared.run_records.Failed.{Failed}

-- each packet before the one at this place passes the audit, and of those up to it the audit
-- answers this fault
pub record FailsItsAudit (packets : List PacketData) (fault : AuditFault) (at : ℕ) : Type 0 where
  pub before : List PacketData
  pub packet : PacketData
  pub after : List PacketData
  pub whole : packets ≡ before ++ packet ∷ after
  pub passed : EachPasses before
  pub answered : Walks (before ++ packet ∷ []) (Err fault)
  pub place : at ≡ packet.at

-- where it isn't a part of its run, if a packet at a place has this fault
abbrev pub part_by_fault : AuditFault → (at : ℕ) → Option ℕ
part_by_fault (NoProgram packet) at = Some at
part_by_fault (Order packet) at = Some at
part_by_fault (BadProgram packet) at = None
part_by_fault (NotAccepted packet frame) at = None
part_by_fault (NoEnd channel) at = None
part_by_fault (Counts channel) at = None
part_by_fault Memory at = None

-- and where, if the audit answers this at the end of so many bytes
abbrev pub part_by_end : Result Audit AuditFault → (len : ℕ) → Option ℕ
part_by_end (Ok audit) len = None
part_by_end (Err (NoEnd channel)) len = Some len
part_by_end (Err (Counts channel)) len = Some len
part_by_end (Err (NoProgram packet)) len = None
part_by_end (Err (Order packet)) len = None
part_by_end (Err (BadProgram packet)) len = None
part_by_end (Err (NotAccepted packet frame)) len = None
part_by_end (Err Memory) len = None

-- there it isn't, by the first of its packets that fails, or by the audit of all
abbrev pub IsPartOfRun : List PacketData → Option ℕ → Type 0
IsPartOfRun packets part =
    ((fault : AuditFault) × (at : ℕ) × FailsItsAudit packets fault at × (fault ≢ Memory)
    × (part ≡ part_by_fault fault at))
    ⊎ (EachPasses packets × (answer : Result Audit AuditFault) × Audits packets answer
    × (answer ≢ Err Memory)
    × (part ≡ part_by_end answer (packets_len packets)))

-- the first of the packets so far that fails, if one does; else the auditor stands for them
abbrev pub IsJudgedSoFar : List PacketData → Auditor → Option Failed → Type 0
IsJudgedSoFar packets auditor None = AuditorStandsFor auditor packets × (fault_in auditor ≡ None)
IsJudgedSoFar packets auditor (Some failed) = FailsItsAudit packets failed.fault failed.at
