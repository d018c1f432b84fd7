use Rattle.rec_core.proofs.Written.{recorded}
use Rattle.rec_core.proofs.laws.a_run_that_ended_is_a_recording.Goals as goal

pub returns : goal.returns
returns c = recorded c.later_versions_leave_the_frames.ensures.kept c.pieces_are_of_their_channel.ensures c.pieces_so_far_begin_all_pieces.ensures.frames
