use Rattle.std.proofs.Common.{get_or, below_more, arith}
use Rattle.std.proofs.lemmas.Option.{slice_get-get_or}
use Rattle.bpf_insn.specs.declared.insn.Insn.{Insn}
use Rattle.bpf_insn.proofs.Ranges.{all_in_range}
use Rattle.bpf_dis.proofs.ProgramFaults.{fault_is, said_more}
use Rattle.bpf_dis.proofs.check.first_fault.Goals as goal

pub returns-in-Some-clause-fault : goal.returns-in-Some-clause-fault
returns-in-Some-clause-fault c =
    let none : Insn = record { code = 0; jt = 0; jf = 0; k = 0 } in
    fault_is c.args.program.now c.insns.at (get_or c.args.program.now c.insns.at none) c.in-Some.fault
    (slice_get-get_or c.args.program.now c.insns.at none c.insns-test.true) c.insns-test.true c.insns.invariant.said c.in-Some.ensures.fault

pub insns-preserved : goal.insns-preserved
insns-preserved c =
    let none : Insn = record { code = 0; jt = 0; jf = 0; k = 0 } in
    let insn : Insn = get_or c.args.program.now c.insns.at none in
    let stands = slice_get-get_or c.args.program.now c.insns.at none c.insns-test.true in
    record {
      said = said_more c.args.program.now c.insns.at insn stands c.insns.invariant.said c.in_default.ensures.fault;
      ranged = below_more _ _ c.insns.invariant.ranged (insn, stands, c.in_default.ensures.range);
    }

pub returns-clause-fault : goal.returns-clause-fault
returns-clause-fault c = λ at below. c.insns.invariant.said at (omega (arith, below))

pub returns-clause-range : goal.returns-clause-range
returns-clause-range c = all_in_range c.args.program.now (λ at below. c.insns.invariant.ranged at (omega (arith, below)))
