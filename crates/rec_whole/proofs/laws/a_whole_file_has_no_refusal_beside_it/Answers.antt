use Rattle.rec_whole.specs.WholeRecordings.{facts_with}
use Rattle.rec_whole.proofs.ChannelsApart.{channels_apart}
use Rattle.rec_whole.proofs.NoRefusal.{no_refusal}
use Rattle.rec_whole.proofs.laws.a_whole_file_has_no_refusal_beside_it.Goals as goal

pub returns : goal.returns
returns c = λ packets rules most setup blocks clock some whole before held refusal.
    no_refusal (facts_with packets rules most setup) clock some (channels_apart packets) blocks whole before held refusal
