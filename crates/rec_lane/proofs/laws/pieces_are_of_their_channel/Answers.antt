use Rattle.rec_lane.proofs.Contents.{pieces_of}
use Rattle.rec_lane.proofs.laws.pieces_are_of_their_channel.Goals as goal

pub returns : goal.returns
returns c = pieces_of
