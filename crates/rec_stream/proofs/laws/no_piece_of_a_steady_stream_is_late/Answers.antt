use Rattle.rec_stream.proofs.NoneIsLate.{none_late}
use Rattle.rec_stream.proofs.laws.no_piece_of_a_steady_stream_is_late.Goals as goal

pub returns : goal.returns
returns c = λ facts packets blocks stage go never first. none_late facts packets blocks stage go never first
