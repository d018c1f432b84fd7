use Rattle.ch11_setup.proofs.CleanedNames.{plain_name, name_length}
use Rattle.ch11_setup.proofs.laws.cleaned_names_are_plain.Goals as goal

pub returns-clause-plain : goal.returns-clause-plain
returns-clause-plain c = plain_name

pub returns-clause-some : goal.returns-clause-some
returns-clause-some c text = (name_length text).0

pub returns-clause-few : goal.returns-clause-few
returns-clause-few c text = (name_length text).1
