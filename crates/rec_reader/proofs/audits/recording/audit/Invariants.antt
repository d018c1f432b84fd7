use Rattle.std.proofs.Common.{take}
use Rattle.rec_reader.specs.Auditors.{AuditorStandsFor}
use Rattle.rec_reader.specs.Views.{packets_data}
use Rattle.rec_reader.proofs.audits.recording.audit.Given as goal

-- the auditor stands for the packets so far
abbrev pub invariant-packets : goal.invariant-packets
invariant-packets l = AuditorStandsFor l.auditor (packets_data (take l.packet-index l.packet-items))
