use Rattle.rec_writer.proofs.OneChannelRecordings.{written_later}
use Rattle.rec_writer.proofs.laws.later_pieces_are_written_after_the_others.Goals as goal

pub returns : goal.returns
returns c = written_later
