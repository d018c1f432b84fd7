use Rattle.eth_frame.proofs.OneFeedReading.{said, meant, one}
use Rattle.eth_frame.proofs.laws.feed_has_one_reading.Goals as goal

pub returns-clause-said : goal.returns-clause-said
returns-clause-said c = said

pub returns-clause-meant : goal.returns-clause-meant
returns-clause-meant c = meant

pub returns-clause-one : goal.returns-clause-one
returns-clause-one c = one
