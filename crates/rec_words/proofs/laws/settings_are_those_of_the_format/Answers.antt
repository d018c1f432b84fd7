use Rattle.rec_words.proofs.FormatRead.{same_settings, same_fault}
use Rattle.rec_words.proofs.laws.settings_are_those_of_the_format.Goals as goal

pub returns-clause-settings : goal.returns-clause-settings
returns-clause-settings c = same_settings

pub returns-clause-fault : goal.returns-clause-fault
returns-clause-fault c = same_fault
