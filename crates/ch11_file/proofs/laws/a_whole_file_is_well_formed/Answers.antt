use Rattle.ch11_file.proofs.FileForms.{file_formed, setup_short, begin_at_zero, rise_by_one}
use Rattle.ch11_file.proofs.laws.a_whole_file_is_well_formed.Goals as goal

pub returns : goal.returns
returns c = record { packets = file_formed; setup = setup_short; first = begin_at_zero; further = rise_by_one }
