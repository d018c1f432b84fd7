use Rattle.std.proofs.Common.{◌≡◌, ◌++◌, take}
use Rattle.std.specs.List.{flat_map}
use Rattle.bpf_insn.specs.Bytes.{insn_bytes}
use Rattle.ch11_packet.proofs.records.encode.program_body.Given as goal

abbrev pub invariant-insns : goal.invariant-insns
invariant-insns l = l.body.items ≡ l.initial.body.items ++ flat_map insn_bytes (take l.insn-index l.insns)
