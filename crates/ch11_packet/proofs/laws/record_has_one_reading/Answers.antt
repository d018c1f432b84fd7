use Rattle.std.proofs.Common.{◌++◌, take, drop, ap}
use Rattle.std.specs.Int.{w16, to_le_bytes}
use Rattle.ch11_packet.proofs.ReadRecords.{one_record}
use Rattle.ch11_packet.proofs.laws.record_has_one_reading.Goals as goal

pub returns-clause-one : goal.returns-clause-one
returns-clause-one c = λ said other bytes a b. one_record said other bytes a b

pub returns-clause-unused : goal.returns-clause-unused
returns-clause-unused c = λ channel version first other insns bytes spells.
    (spells.0, spells.1, other, ap (λ l. take 26 l ++ to_le_bytes w16 other ++ drop 28 l) spells.3)
