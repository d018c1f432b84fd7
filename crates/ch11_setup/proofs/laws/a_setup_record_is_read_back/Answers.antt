use Rattle.ch11_setup.specs.Setups.{setup_attributes}
use Rattle.ch11_setup.proofs.AttributesRead.{read_back, one_reading}
use Rattle.ch11_setup.proofs.SetupAttributes.{setup_are}
use Rattle.ch11_setup.proofs.laws.a_setup_record_is_read_back.Goals as goal

pub returns-clause-found : goal.returns-clause-found
returns-clause-found c setup is = read_back (setup_attributes setup) (setup_are setup is)

pub returns-clause-one : goal.returns-clause-one
returns-clause-one c = one_reading
