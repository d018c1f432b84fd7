use Rattle.ch11_channels.proofs.FileNumbering.{one_numbering}
use Rattle.ch11_channels.proofs.laws.there_is_one_numbering.Goals as goal

pub returns : goal.returns
returns c = one_numbering
