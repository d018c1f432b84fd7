use Rattle.ch11_file.proofs.CopiesRead.{SpellsBody-copied}
use Rattle.ch11_file.proofs.laws.packets_of_pieces_are_read_back.Goals as goal

pub returns-clause-frames : goal.returns-clause-frames
returns-clause-frames c = λ channel place. SpellsBody-copied
