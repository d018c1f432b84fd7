use Rattle.ch11_merge.proofs.ShortPieces.{pieces_short}
use Rattle.ch11_merge.proofs.laws.pieces_are_short.Goals as goal

pub returns : goal.returns
returns c = pieces_short
