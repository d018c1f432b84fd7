use Rattle.rec_core.proofs.Written.{cut_short, cut_short_at}
use Rattle.rec_core.proofs.laws.a_failed_output_is_cut_in_one_piece.Goals as goal

pub returns-clause-cut : goal.returns-clause-cut
returns-clause-cut c = cut_short

pub returns-clause-channel : goal.returns-clause-channel
returns-clause-channel c = cut_short_at
