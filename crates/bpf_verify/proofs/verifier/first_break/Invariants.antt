use Rattle.bpf_insn.proofs.Ranges.{AreInRangeBefore}
use Rattle.bpf_verify.specs.Flaws.{NoneBreaksBelow}
use Rattle.bpf_verify.proofs.verifier.first_break.Given as goal

abbrev pub invariant-places : goal.invariant-places
invariant-places l = record {
  unbroken : NoneBreaksBelow l.insns l.at;
  ranged : AreInRangeBefore l.insns l.at;
}
