use Rattle.ch11_clock.proofs.TimesRead.{time_read}
use Rattle.ch11_clock.proofs.laws.a_time_packet_is_read_back.Goals as goal

pub returns : goal.returns
returns c = time_read
