use Rattle.rec_runs.proofs.FileProgramsRise.{file_rises}
use Rattle.rec_runs.proofs.laws.versions_rise_through_a_run.Goals as goal

pub returns : goal.returns
returns c = file_rises
