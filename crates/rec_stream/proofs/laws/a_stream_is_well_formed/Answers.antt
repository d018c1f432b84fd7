use Rattle.rec_stream.proofs.EachPacket.{stream_formed}
use Rattle.rec_stream.proofs.laws.a_stream_is_well_formed.Goals as goal

pub returns : goal.returns
returns c = λ facts packets blocks stage go. stream_formed facts packets blocks stage go
