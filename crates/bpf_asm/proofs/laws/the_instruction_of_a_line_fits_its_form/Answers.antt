use Rattle.bpf_asm.proofs.FormFits.{insn_fits}
use Rattle.bpf_asm.proofs.laws.the_instruction_of_a_line_fits_its_form.Goals as goal

pub returns : goal.returns
returns c = insn_fits
