use Rattle.rec_whole.specs.WholeRecordings.{channel_of_packets, facts_with}
use Rattle.rec_whole.proofs.ChannelsApart.{channel_there, channels_apart}
use Rattle.rec_whole.proofs.laws.times_of_a_recordings_file_stand_late.Goals as goal

pub returns : goal.returns
returns c = λ packets rules most setup blocks whole channel less is steady.
    let there = channel_there packets channel less is in
    c.times_of_a_whole_file_stand_late.ensures (facts_with packets rules most setup) blocks whole (channels_apart packets) there.0
    (channel_of_packets packets channel) there.1 steady
