use Rattle.ch11_file.proofs.FileMerges.{file_has_none_else}
use Rattle.ch11_file.proofs.laws.a_whole_file_has_no_other_channel.Goals as goal

pub returns : goal.returns
returns c = file_has_none_else
