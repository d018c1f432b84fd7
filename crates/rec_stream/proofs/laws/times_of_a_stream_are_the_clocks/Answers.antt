use Rattle.rec_stream.proofs.EachPacket.{stream_tells}
use Rattle.rec_stream.proofs.laws.times_of_a_stream_are_the_clocks.Goals as goal

pub returns : goal.returns
returns c = λ facts packets blocks stage clock go. stream_tells facts packets blocks stage clock go
