use Rattle.ch11_setup.proofs.SetupSources.{sources_said}
use Rattle.ch11_setup.proofs.laws.a_setup_record_names_the_channels.Goals as goal

pub returns : goal.returns
returns c = sources_said
