use Rattle.rec_core.proofs.Written.{channels_in_order, written_in_order, written_whole}
use Rattle.rec_core.proofs.laws.a_run_writes_each_channel_in_order.Goals as goal

pub returns-clause-channels : goal.returns-clause-channels
returns-clause-channels c = channels_in_order c.later_versions_leave_the_frames.ensures.kept c.pieces_are_of_their_channel.ensures
    c.pieces_so_far_begin_all_pieces.ensures.frames

pub returns-clause-in_order : goal.returns-clause-in_order
returns-clause-in_order c = written_in_order c.later_versions_leave_the_frames.ensures.kept c.pieces_are_of_their_channel.ensures
    c.pieces_so_far_begin_all_pieces.ensures.frames

pub returns-clause-whole : goal.returns-clause-whole
returns-clause-whole c = written_whole c.later_versions_leave_the_frames.ensures.kept c.pieces_are_of_their_channel.ensures
    c.pieces_so_far_begin_all_pieces.ensures.frames
