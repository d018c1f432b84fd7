use Rattle.std.specs.Prelude.{◌++◌}
use Rattle.rec_theorem.proofs.CutShort.{front_read_back, cut_read_back}
use Rattle.rec_theorem.proofs.cut.a_cut_recording_is_read_back.Goals as goal

pub returns-clause-front : goal.returns-clause-front
returns-clause-front c = λ version channels front rest small are recording.
    front_read_back c.bytes_have_one_reading.ensures.one channels front rest
    (c.a_recording_is_read_back.ensures version channels (front ++ rest) small are recording)

pub returns-clause-failed : goal.returns-clause-failed
returns-clause-failed c = cut_read_back c.bytes_have_one_reading.ensures.one
