use Rattle.rec_whole.specs.WholeRecordings.{facts_with}
use Rattle.rec_whole.proofs.ChannelsApart.{channels_apart}
use Rattle.rec_whole.proofs.OneFile.{one_file}
use Rattle.rec_whole.proofs.laws.there_is_one_whole_file.Goals as goal

pub returns : goal.returns
returns c = λ packets rules most setup blocks others clock some whole its.
    one_file (facts_with packets rules most setup) blocks others clock some (channels_apart packets) whole its
