use Rattle.rec_pieces.proofs.PiecesPlaced.{read_at_places}
use Rattle.rec_pieces.proofs.laws.packets_are_read_at_their_places.Goals as goal

pub returns : goal.returns
returns c = read_at_places
