use Rattle.std.proofs.Common.{subst}
use Rattle.bpf_verify.specs.Flaws.{HasFlaw}
use Rattle.bpf_verify.specs.declared.flaw.Flaw.TheVariants.{Unset}
use Rattle.bpf_verify.proofs.WellFormed.{read_below}
use Rattle.bpf_verify.proofs.verifier.fault_of.Goals as goal

pub path_to-path-requires-clause-word : goal.path_to-path-requires-clause-word
path_to-path-requires-clause-word c =
    let unset : HasFlaw c.args.insns.now (Unset c.in-Unset.at c.in-Unset.word) = subst (HasFlaw c.args.insns.now) c.in-Unset.is c.requires in
    read_below c.args.insns.now c.in-Unset.at c.in-Unset.word unset.0 unset.2
