use Rattle.bpf_verify.specs.Flaws.{NoUnsetReadBelow}
use Rattle.bpf_verify.proofs.masks.first_unset.Given as goal

abbrev pub invariant-reads : goal.invariant-reads
invariant-reads l = NoUnsetReadBelow l.insns l.at
