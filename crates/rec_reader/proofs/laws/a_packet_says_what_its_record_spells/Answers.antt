use Rattle.rec_reader.proofs.StoredPrograms.{says_record}
use Rattle.rec_reader.proofs.laws.a_packet_says_what_its_record_spells.Goals as goal

pub returns : goal.returns
returns c = says_record
