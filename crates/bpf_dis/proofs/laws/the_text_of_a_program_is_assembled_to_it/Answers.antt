use Rattle.bpf_dis.specs.ProgramText.{program_text}
use Rattle.bpf_dis.proofs.ProgramTexts.{text_denotes}
use Rattle.bpf_dis.proofs.laws.the_text_of_a_program_is_assembled_to_it.Goals as goal

pub returns : goal.returns
returns c = record {
  faultless = λ program range size text faulty.
      c.a_text_denotes_a_program_or_has_one_first_fault.ensures.never_both (program_text program) program faulty.0
      (text_denotes program range size text) faulty.1;
  program = λ program other range size text denoted.
      c.a_text_denotes_at_most_one_program.ensures (program_text program) other program denoted (text_denotes program range size text);
}
