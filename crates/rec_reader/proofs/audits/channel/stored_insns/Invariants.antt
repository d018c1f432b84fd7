use Rattle.std.proofs.Common.{◌≡◌, take}
use Rattle.ch11_packet.specs.Views.{record_insns}
use Rattle.rec_reader.proofs.audits.channel.stored_insns.Given as goal

abbrev pub invariant-insns : goal.invariant-insns
invariant-insns l = l.insns.items ≡ take l.at (record_insns l.program)
