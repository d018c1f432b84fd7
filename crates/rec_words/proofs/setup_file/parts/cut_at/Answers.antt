use Rattle.rec_words.proofs.SetupRead.{cut_of_split}
use Rattle.rec_words.proofs.setup_file.parts.cut_at.Goals as goal

pub returns : goal.returns
returns c = cut_of_split c.args.mark c.args.text.now c.split_once.result c.split_once.ensures.cases c.requires
