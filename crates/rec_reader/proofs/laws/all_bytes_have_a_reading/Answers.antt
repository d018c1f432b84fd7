use Rattle.rec_reader.proofs.EveryReading.{a_reading}
use Rattle.rec_reader.proofs.laws.all_bytes_have_a_reading.Goals as goal

pub returns : goal.returns
returns c = λ bytes fit.
    a_reading (record { header = c.header_has_one_spelling.ensures.some; thing = c.a_packet_holds_one_thing.ensures.some }) bytes fit
