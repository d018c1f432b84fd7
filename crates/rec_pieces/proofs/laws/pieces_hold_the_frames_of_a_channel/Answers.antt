use Rattle.rec_pieces.proofs.PiecesPlaced.{frames_in_pieces}
use Rattle.rec_pieces.proofs.laws.pieces_hold_the_frames_of_a_channel.Goals as goal

pub returns : goal.returns
returns c = frames_in_pieces
