use Rattle.rec_pieces.proofs.PiecesPlaced.{placed_pieces}
use Rattle.rec_pieces.proofs.laws.pieces_of_places_are_those_of_packets.Goals as goal

pub returns : goal.returns
returns c = placed_pieces
