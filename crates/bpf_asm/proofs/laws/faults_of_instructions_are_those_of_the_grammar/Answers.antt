use Rattle.bpf_asm.proofs.InsnFaults.{breaks_is, breaks_read, line_breaks, line_breaks_read}
use Rattle.bpf_asm.proofs.laws.faults_of_instructions_are_those_of_the_grammar.Goals as goal

pub returns : goal.returns
returns c = record {
  insn = λ tokens fault. (breaks_is tokens fault, breaks_read tokens fault);
  line = λ line labels fault. (line_breaks line labels fault, line_breaks_read line labels fault);
}
