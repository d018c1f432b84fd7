use Rattle.rec_reader.proofs.OneRecordingReading.{Known, no_longer, one_packet, one_reading, they_follow}
use Rattle.rec_reader.proofs.laws.bytes_have_one_reading.Goals as goal

known : goal.After-a_packet_holds_one_thing → Known
known c = record {
  one_header = c.header_has_one_spelling.ensures.one;
  valid_header = c.header_has_one_spelling.ensures.valid;
  one_thing = c.a_packet_holds_one_thing.ensures.one;
  no_fault = c.a_packet_holds_one_thing.ensures.valid;
  one_wrong = c.a_packet_holds_one_thing.ensures.one_fault;
}

pub returns-clause-prefix : goal.returns-clause-prefix
returns-clause-prefix c = no_longer (known c)

pub returns-clause-packet : goal.returns-clause-packet
returns-clause-packet c = one_packet (known c)

pub returns-clause-one : goal.returns-clause-one
returns-clause-one c = one_reading (known c)

pub returns-clause-front : goal.returns-clause-front
returns-clause-front c = λ bytes rest packets all fault begins reads.
    let follow = they_follow (known c) 0 packets all bytes rest reads.rest fault begins reads.held reads.ends in
    (follow.more, follow.whole)
