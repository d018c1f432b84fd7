use Rattle.ch11_file.proofs.BodiesFound.{bodies_said}
use Rattle.ch11_file.proofs.laws.bodies_of_a_whole_file_are_read_back.Goals as goal

pub returns : goal.returns
returns c = bodies_said
