use Rattle.rec_theorem.proofs.ReadBack.{read_back}
use Rattle.rec_theorem.proofs.reading.a_recording_is_read_back.Goals as goal

pub returns : goal.returns
returns c = read_back c.bytes_have_one_reading.ensures.one
