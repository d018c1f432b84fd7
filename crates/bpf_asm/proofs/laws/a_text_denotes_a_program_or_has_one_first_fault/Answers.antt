use Rattle.bpf_asm.proofs.FirstFaults.{never_both, one_first_fault, either}
use Rattle.bpf_asm.proofs.laws.a_text_denotes_a_program_or_has_one_first_fault.Goals as goal

pub returns : goal.returns
returns c = record { either = either; never_both = never_both; once = one_first_fault }
