use Rattle.bpf_dis.proofs.TextPrograms.{has_text}
use Rattle.bpf_dis.proofs.laws.the_program_of_a_text_has_a_text.Goals as goal

pub returns : goal.returns
returns c = has_text c.each_form_has_one_code.ensures c.the_instruction_of_a_line_fits_its_form.ensures
