use Rattle.ch11_clock.proofs.OriginRead.{origin_read}
use Rattle.ch11_clock.proofs.laws.an_origin_is_read_as_it_is_said.Goals as goal

pub returns : goal.returns
returns c = origin_read
