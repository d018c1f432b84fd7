use Rattle.ch11_file.proofs.FileMerges.{file_keeps}
use Rattle.ch11_file.proofs.laws.a_whole_file_keeps_each_channel.Goals as goal

pub returns : goal.returns
returns c = file_keeps
