use Rattle.ch11_file.proofs.FileDistances.{file_times_late}
use Rattle.ch11_file.proofs.laws.times_of_a_whole_file_stand_late.Goals as goal

pub returns : goal.returns
returns c = file_times_late
