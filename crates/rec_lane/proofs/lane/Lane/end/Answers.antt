use Rattle.rec_lane.specs.Views.{pieces_data}
use Rattle.rec_lane.proofs.lane.Lane.end.Goals as goal

pub returns-clause-in_history : goal.returns-clause-in_history
returns-clause-in_history c = c.a_lane_stands_for_frames_and_a_history.ensures.ends c.args.self (pieces_data c.last_pieces.result.items) c.last_pieces.ensures
