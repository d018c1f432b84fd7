use Rattle.bpf_asm.proofs.Programs.{denotes_one}
use Rattle.bpf_asm.proofs.laws.a_text_denotes_at_most_one_program.Goals as goal

pub returns : goal.returns
returns c = denotes_one
