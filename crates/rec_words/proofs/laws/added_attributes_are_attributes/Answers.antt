use Rattle.rec_words.proofs.AddedRead.{added_can}
use Rattle.rec_words.proofs.laws.added_attributes_are_attributes.Goals as goal

pub returns : goal.returns
returns c = added_can
