use Rattle.rec_joined.proofs.JoinedFrames.{frames_kept}
use Rattle.rec_joined.proofs.laws.joined_recordings_keep_each_channel.Goals as goal

pub returns : goal.returns
returns g c = frames_kept g.P.PacketsAt.there 0
