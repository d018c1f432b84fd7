use Rattle.ch11_clock.proofs.OneCivilTime.{one_time, one_body}
use Rattle.ch11_clock.proofs.laws.a_time_packet_says_one_time.Goals as goal

pub returns-clause-moment : goal.returns-clause-moment
returns-clause-moment c = one_time

pub returns-clause-body : goal.returns-clause-body
returns-clause-body c = one_body
