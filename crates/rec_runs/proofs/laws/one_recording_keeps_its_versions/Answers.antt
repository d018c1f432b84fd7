use Rattle.rec_runs.proofs.FileProgramsRise.{alone_in_file}
use Rattle.rec_runs.proofs.laws.one_recording_keeps_its_versions.Goals as goal

pub returns : goal.returns
returns c = alone_in_file
