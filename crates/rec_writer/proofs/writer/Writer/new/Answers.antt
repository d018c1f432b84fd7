use Rattle.rec_writer.proofs.Putting.{new_stands}
use Rattle.rec_writer.proofs.writer.Writer.new.Goals as goal

pub returns-clause-stands : goal.returns-clause-stands
returns-clause-stands g c = search (new_stands)
