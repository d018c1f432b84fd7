use Rattle.ch11_file.proofs.FileMerges.{file_times_ahead}
use Rattle.ch11_file.proofs.laws.times_of_a_whole_file_stand_ahead.Goals as goal

pub returns : goal.returns
returns c = file_times_ahead
