use Rattle.ch11_moved.proofs.FirstOrigins.{one_of, none_earlier, some_moved}
use Rattle.ch11_moved.proofs.laws.a_start_lies_before_all_origins.Goals as goal

pub returns-clause-one : goal.returns-clause-one
returns-clause-one c = one_of

pub returns-clause-least : goal.returns-clause-least
returns-clause-least c = none_earlier

pub returns-clause-moved : goal.returns-clause-moved
returns-clause-moved c = some_moved
