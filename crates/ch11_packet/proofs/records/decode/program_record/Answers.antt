use Rattle.std.proofs.Common.{arith}
use Rattle.std.proofs.lemmas.List.{take_rest}
use Rattle.ch11_packet.specs.declared.records.TheConstants.{PROGRAM_HEAD_LEN}
use Rattle.ch11_packet.proofs.records.decode.program_record.Goals as goal

pub returns-clause-insns : goal.returns-clause-insns
returns-clause-insns c =
    (omega (arith, c.from_le_bytes-count.ensures), take_rest c.args.body.now PROGRAM_HEAD_LEN)
