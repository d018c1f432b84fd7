use Rattle.rec_joined.proofs.JoinedFrames.{own_frames}
use Rattle.rec_joined.proofs.laws.an_id_has_the_frames_of_its_channel.Goals as goal

pub returns : goal.returns
returns c = own_frames
