use Rattle.rec_core.specs.Written.{recorded_channels}
use Rattle.rec_theorem.proofs.Worlds.{world_recordable, world_cut}
use Rattle.rec_theorem.proofs.interleaving.every_interleaving_is_read_back.Goals as goal

pub returns-clause-ended : goal.returns-clause-ended
returns-clause-ended c = λ ring specs before core new run are events ended stands small.
    let holds = c.an_ended_world_holds_its_recording.ensures ring specs before core new run ended stands in
    let channels = world_recordable ring specs new run are events (c.a_run_writes_each_channel_in_order.ensures.channels ring specs new run) in
    (holds.0, holds.1, c.a_recording_is_read_back.ensures core.writer.version (recorded_channels new) holds.0 small channels holds.2)

pub returns-clause-always : goal.returns-clause-always
returns-clause-always c = λ ring specs before core new run are events stands small.
    let channels = world_recordable ring specs new run are events (c.a_run_writes_each_channel_in_order.ensures.channels ring specs new run) in
    let cut = world_cut c.later_versions_leave_the_frames.ensures.kept c.pieces_are_of_their_channel.ensures c.pieces_so_far_begin_all_pieces.ensures.frames
    ring specs before core new run
    (c.a_failed_output_is_cut_in_one_piece.ensures.cut ring before core new stands) stands in
    (cut.0, cut.1, c.a_cut_recording_is_read_back.ensures.failed core.writer.version (recorded_channels new) cut.0 small channels cut.2)
