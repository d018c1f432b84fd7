use Rattle.rec_writer.proofs.OneChannelRecordings.{one_recorded, only_recorded}
use Rattle.rec_writer.proofs.laws.a_recording_of_one_channel_is_of_its_pieces.Goals as goal

pub returns-clause-recording : goal.returns-clause-recording
returns-clause-recording c = one_recorded c.pieces_are_of_their_channel.ensures

pub returns-clause-nothing_else : goal.returns-clause-nothing_else
returns-clause-nothing_else c = only_recorded
