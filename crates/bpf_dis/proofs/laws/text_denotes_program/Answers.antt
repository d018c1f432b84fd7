use Rattle.bpf_dis.proofs.ProgramTexts.{text_denotes}
use Rattle.bpf_dis.proofs.laws.text_denotes_program.Goals as goal

pub returns : goal.returns
returns c = text_denotes
