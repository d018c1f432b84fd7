use Rattle.std.proofs.Common.{◌∙◌}
use Rattle.rec_joined.specs.JoinedPackets.{joined_packets}
use Rattle.joined_theorem.proofs.files.a_joined_file_keeps_each_channel.Goals as goal

pub returns : goal.returns
returns g c = λ parts read are rules most setup blocks whole id some fits named.
    c.a_whole_file_keeps_the_frames.ensures (joined_packets parts read) rules most setup blocks whole id some fits named
    ∙ c.joined_recordings_keep_each_channel.ensures parts read are id
