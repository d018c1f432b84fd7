use Rattle.std.proofs.Common.{refl, subst}
use Rattle.std.proofs.lemmas.Bool.{both_ways}
use Rattle.bpf_verify.specs.Refusals.{Refuses}
use Rattle.bpf_verify.proofs.Valid.{refused_not_valid}
use Rattle.bpf_verify.proofs.verifier.verify.Goals as goal

pub returns-in-Some-clause-decides : goal.returns-in-Some-clause-decides
returns-in-Some-clause-decides c =
    let refused = subst (λ p. Refuses p c.fault_of-fault.result) c.as_slice-insns.ensures.value c.fault_of-fault.ensures in
    (λ no. absurd (both_ways _ refl no), λ valid. absurd (refused_not_valid c.args.program.items c.fault_of-fault.result refused valid))

pub returns-in-Some-clause-refused : goal.returns-in-Some-clause-refused
returns-in-Some-clause-refused c = subst (λ p. Refuses p c.fault_of-fault.result) c.as_slice-insns.ensures.value c.fault_of-fault.ensures
