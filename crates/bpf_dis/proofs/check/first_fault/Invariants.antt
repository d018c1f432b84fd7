use Rattle.bpf_dis.specs.Faults.{AreSaidBefore}
use Rattle.bpf_insn.proofs.Ranges.{AreInRangeBefore}
use Rattle.bpf_dis.proofs.check.first_fault.Given as goal

abbrev pub invariant-insns : goal.invariant-insns
invariant-insns l = record {
  said : AreSaidBefore l.program l.at;
  ranged : AreInRangeBefore l.program l.at;
}
