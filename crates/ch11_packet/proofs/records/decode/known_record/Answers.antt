use Rattle.std.proofs.Common.{refl, arith}
use Rattle.ch11_packet.proofs.ReadRecords.{made_program, made_end}
use Rattle.ch11_packet.proofs.records.decode.known_record.Goals as goal

pub returns-then-kind-eq-PROGRAM_RECORD-clause-spelled : goal.returns-then-kind-eq-PROGRAM_RECORD-clause-spelled
returns-then-kind-eq-PROGRAM_RECORD-clause-spelled c =
    let found = c.in_ok-program_record.ensures.fields in
    let insns = c.in_ok-program_record.ensures.insns in
    made_program c.args.body.now c.args.channel c.args.kind _ _ _ _ _ (λ i. omega (arith, c.type_inv.body i)) c.requires c.if-kind-eq-PROGRAM_RECORD.true
    (c.in_ok-program_record.ensures.length.0 refl) found.0 found.1 found.2 insns.0 insns.1

pub returns-clause-spelled : goal.returns-clause-spelled
returns-clause-spelled c =
    made_end c.args.body.now c.args.channel c.args.kind c.end_record.result (λ i. omega (arith, c.type_inv.body i)) c.requires c.if-kind-eq-PROGRAM_RECORD.false
    c.end_record.ensures.length.0 c.end_record.ensures.fields
