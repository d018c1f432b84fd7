use Rattle.ch11_channels.proofs.FileNumbering.{keep_ids}
use Rattle.ch11_channels.proofs.laws.a_file_of_one_run_keeps_its_ids.Goals as goal

pub returns : goal.returns
returns c = keep_ids
