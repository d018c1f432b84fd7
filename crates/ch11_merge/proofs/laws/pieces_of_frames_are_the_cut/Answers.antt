use Rattle.ch11_merge.proofs.Cutting.{pieces_cut}
use Rattle.ch11_merge.proofs.laws.pieces_of_frames_are_the_cut.Goals as goal

pub returns : goal.returns
returns c = pieces_cut
