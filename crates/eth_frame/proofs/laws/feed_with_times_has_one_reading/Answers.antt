use Rattle.eth_frame.proofs.TimedReading.{said, same}
use Rattle.eth_frame.proofs.laws.feed_with_times_has_one_reading.Goals as goal

pub returns-clause-said : goal.returns-clause-said
returns-clause-said c = said

pub returns-clause-same : goal.returns-clause-same
returns-clause-same c = same
