use Rattle.std.proofs.Common.{false}
use Rattle.rec_whole.proofs.KeptChannels.{file_held}
use Rattle.rec_whole.proofs.ReadPieces.{listed_themselves}
use Rattle.rec_whole.proofs.laws.a_whole_file_keeps_what_is_recorded.Goals as goal

pub returns : goal.returns
returns c = λ recording packets rules most setup blocks reads whole.
    file_held false packets packets rules most setup blocks (listed_themselves recording packets reads) whole
