use Rattle.rec_words.proofs.ReservedRead.{same_names, written_are}
use Rattle.rec_words.proofs.laws.a_setup_record_writes_reserved_names.Goals as goal

pub returns-clause-is : goal.returns-clause-is
returns-clause-is c = same_names

pub returns-clause-written : goal.returns-clause-written
returns-clause-written c = written_are
