use Rattle.std.proofs.Common.{◌∙◌, ap}
use Rattle.std.specs.List.{flat_map}
use Rattle.rec_pieces.specs.Entries.{pieces_of_channel}
use Rattle.rec_whole.specs.WholeFrames.{frame_held}
use Rattle.rec_whole.specs.WholeRecordings.{channel_of_packets, facts_with}
use Rattle.rec_whole.proofs.ChannelsApart.{channel_there, channels_apart}
use Rattle.rec_whole.proofs.FramesHeld.{frames_held}
use Rattle.rec_whole.proofs.laws.a_whole_file_keeps_the_frames.Goals as goal

pub returns : goal.returns
returns c = λ packets rules most setup blocks whole channel some less is.
    let there = channel_there packets channel less is in
    ap (flat_map frame_held)
    (c.a_whole_file_keeps_each_channel.ensures (facts_with packets rules most setup) blocks whole (channels_apart packets) there.0
    (channel_of_packets packets channel) there.1)
    ∙ frames_held (pieces_of_channel channel packets)
    ∙ c.pieces_hold_the_frames_of_a_channel.ensures channel packets some
