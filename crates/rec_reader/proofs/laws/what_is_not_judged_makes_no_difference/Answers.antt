use Rattle.std.proofs.Common.{ap}
use Rattle.ch11_packet.specs.declared.class.ClassFault.TheVariants.{DataChecksum, Body}
use Rattle.rec_reader.specs.ChannelFrames.{frames_held}
use Rattle.rec_reader.proofs.CutRecordings.{spells_again}
use Rattle.rec_reader.proofs.Splitting.{bad_bytes}
use Rattle.rec_reader.proofs.laws.what_is_not_judged_makes_no_difference.Goals as goal

pub returns-clause-packet : goal.returns-clause-packet
returns-clause-packet c = λ packet spelling body header spells judged is bytes sums long.
    spells_again c.a_packet_holds_one_thing.ensures.unjudged packet spelling body header spells judged is bytes sums long

pub returns-clause-frames : goal.returns-clause-frames
returns-clause-frames c = λ packet body header bytes. ap (frames_held packet.what) bytes

pub returns-clause-fault : goal.returns-clause-fault
returns-clause-fault c = λ header other body more rest wrong judged is bytes right long.
    bad_bytes other more rest Body is long (c.a_packet_holds_one_thing.ensures.unjudged_fault header other body more judged bytes right wrong)

pub returns-clause-checksum : goal.returns-clause-checksum
returns-clause-checksum c = λ header other body more rest isnt judged is bytes has wrong long.
    bad_bytes other more rest DataChecksum is long (c.a_packet_holds_one_thing.ensures.wrong_sum header other body more judged bytes isnt has wrong)
