use Rattle.std.proofs.lemmas.Bool.{both_ways}
use Rattle.bpf_insn.specs.Forms.{form}
use Rattle.bpf_dis.proofs.ProgramFaults.{said_inside}
use Rattle.bpf_dis.proofs.check.fault_at.Goals as goal

pub returns-else-jumps_out-clause-fault : goal.returns-else-jumps_out-clause-fault
returns-else-jumps_out-clause-fault c =
    said_inside c.args.len c.args.at c.args.insn c.in-Some.form (form c.args.insn.code) c.in-Some.ensures.table
    (c.unused_are_zero.ensures.0 c.if-not-unused_are_zero.false)
    (λ out. both_ways _ c.if-jumps_out.false (c.jumps_out.ensures.decides.1 out))
