use Rattle.rec_reader.proofs.RecordingPackets.{audit_stops, audits_all, passed_on, approves, ends_are}
use Rattle.rec_reader.proofs.audits.recording.audit.Goals as goal

pub returns-in_err-take-clause-audits : goal.returns-in_err-take-clause-audits
returns-in_err-take-clause-audits c =
    let items = c.packets-packet-items.result.now in
    passed_on c.args.recording.now c.from_residual.result c.in_err-take.field-0.0 c.from_residual.ensures.1
    (audit_stops items c.args.recording.now c.packets.packet-index c.packet-item.result c.in_err-take.field-0.0 c.packets-packet-items.ensures.packets
    c.packets-test.true c.packet-item.is (c.in_err-take.ensures.walks _ c.packets.invariant))

pub returns-in_err-take-clause-approved : goal.returns-in_err-take-clause-approved
returns-in_err-take-clause-approved c = approves c.args.recording.now c.from_residual.result (returns-in_err-take-clause-audits c)

pub returns-in_err-take-clause-ends : goal.returns-in_err-take-clause-ends
returns-in_err-take-clause-ends c = ends_are c.args.recording.now c.from_residual.result (returns-in_err-take-clause-audits c)

pub returns-clause-audits : goal.returns-clause-audits
returns-clause-audits c =
    audits_all c.packets-packet-items.result.now c.args.recording.now c.packets.packet-index c.end.result c.packets-packet-items.ensures.packets
    c.packets-test.false (c.end.ensures.audits _ c.packets.invariant)

pub returns-clause-approved : goal.returns-clause-approved
returns-clause-approved c = approves c.args.recording.now c.end.result (returns-clause-audits c)

pub returns-clause-ends : goal.returns-clause-ends
returns-clause-ends c = ends_are c.args.recording.now c.end.result (returns-clause-audits c)
