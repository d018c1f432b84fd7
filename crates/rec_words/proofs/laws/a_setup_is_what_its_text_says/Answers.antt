use Rattle.rec_words.proofs.FileRead.{file_is}
use Rattle.rec_words.proofs.laws.a_setup_is_what_its_text_says.Goals as goal

pub returns : goal.returns
returns c = file_is
