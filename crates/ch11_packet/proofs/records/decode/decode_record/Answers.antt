use Rattle.std.proofs.Common.{ap, Some}
use Rattle.ch11_packet.specs.Views.{record_data}
use Rattle.ch11_packet.proofs.ReadRecords.{Says-SpellsRecord, one_record, no_record_fault_answered}
use Rattle.ch11_packet.proofs.records.decode.decode_record.Goals as goal

pub returns-in-Some-clause-read : goal.returns-in-Some-clause-read
returns-in-Some-clause-read c = λ said spells.
    ap (λ r. Some r) (one_record (record_data c.in-Some.found) said c.args.body.now c.in-Some.ensures.spelled spells)

pub returns-in-Some-clause-fault : goal.returns-in-Some-clause-fault
returns-in-Some-clause-fault c =
    no_record_fault_answered _ _ (record_data c.in-Some.found) c.args.body.now c.in-Some.ensures.spelled

pub returns-in-None-clause-read : goal.returns-in-None-clause-read
returns-in-None-clause-read c = λ said spells.
    c.in-None.ensures.length (Says-SpellsRecord said c.args.body.now spells).length_is
