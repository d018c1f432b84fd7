use Rattle.std.proofs.Common.{[]}
use Rattle.rec_stream.specs.Streams.StreamStage.{Waiting}
use Rattle.rec_stream.proofs.OneStream.{begins_all}
use Rattle.rec_stream.proofs.laws.a_stream_grows_with_its_recording.Goals as goal

pub returns : goal.returns
returns c = λ facts packets more blocks others stage last clock go its na nb.
    begins_all facts clock (Waiting []) stage last packets more [] blocks others go its na nb
