use Rattle.rec_words.proofs.FormsSame.{same_files}
use Rattle.rec_words.proofs.laws.one_recording_is_said_in_either_form.Goals as goal

pub returns : goal.returns
returns c = λ top tabled table file say. same_files top tabled table say file
