use Rattle.std.proofs.Common.{◌≡◌, take}
use Rattle.ch11_packet.specs.Views.{record_insns}
use Rattle.rec_runs.proofs.channel.insns_of.Given as goal

-- those so far
abbrev pub invariant-insns : goal.invariant-insns
invariant-insns l = l.insns.items ≡ take l.at (record_insns l.program)
