use Rattle.std.proofs.Common.{ap}
use Rattle.std.specs.List.{flat_map}
use Rattle.rec_whole.specs.WholeFrames.{frame_held}
use Rattle.rec_whole.specs.WholeRecordings.{facts_with}
use Rattle.rec_whole.proofs.ChannelsApart.{channel_nowhere}
use Rattle.rec_whole.proofs.laws.a_whole_file_has_no_other_frames.Goals as goal

pub returns : goal.returns
returns c = λ packets rules most setup blocks whole channel off.
    ap (flat_map frame_held)
    (c.a_whole_file_has_no_other_channel.ensures (facts_with packets rules most setup) blocks whole channel (channel_nowhere packets channel off))
