use Rattle.rec_reader.proofs.Approving.{approved, ends_well}
use Rattle.rec_reader.proofs.laws.an_approved_recording_is_what_it_says.Goals as goal

pub returns-clause-approved : goal.returns-clause-approved
returns-clause-approved c = λ packets audit is. approved packets is.passed

pub returns-clause-ends : goal.returns-clause-ends
returns-clause-ends c = ends_well
