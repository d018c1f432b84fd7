use Rattle.rec_stream.proofs.EachPacket.{stream_says}
use Rattle.rec_stream.proofs.laws.setup_records_of_a_stream_say_its_channels.Goals as goal

pub returns : goal.returns
returns c = λ facts packets blocks stage go. stream_says facts packets blocks stage go
