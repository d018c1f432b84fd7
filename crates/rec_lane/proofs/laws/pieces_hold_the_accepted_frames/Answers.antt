use Rattle.rec_lane.proofs.Contents.{pieces_frames}
use Rattle.rec_lane.proofs.laws.pieces_hold_the_accepted_frames.Goals as goal

pub returns : goal.returns
returns c = pieces_frames
