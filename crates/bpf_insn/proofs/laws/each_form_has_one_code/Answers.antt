use Rattle.bpf_insn.proofs.Codes.{one_code}
use Rattle.bpf_insn.proofs.laws.each_form_has_one_code.Goals as goal

pub returns : goal.returns
returns c = one_code
