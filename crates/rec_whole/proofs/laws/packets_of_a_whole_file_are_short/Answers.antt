use Rattle.std.proofs.Common.{false}
use Rattle.rec_whole.proofs.KeptChannels.{blocks_out, short_blocks}
use Rattle.rec_whole.proofs.ReadPieces.{listed_themselves}
use Rattle.rec_whole.proofs.laws.packets_of_a_whole_file_are_short.Goals as goal

pub returns : goal.returns
returns c = λ recording packets rules most setup blocks reads whole.
    short_blocks setup blocks (blocks_out false packets packets rules most setup blocks (listed_themselves recording packets reads) whole)
