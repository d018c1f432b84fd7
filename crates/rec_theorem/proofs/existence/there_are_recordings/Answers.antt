use Rattle.rec_theorem.proofs.SomeRecordings.{some_recording, some_channel, some_program}
use Rattle.rec_theorem.proofs.SomeWorlds.{some_world}
use Rattle.rec_theorem.proofs.existence.there_are_recordings.Goals as goal

pub returns-clause-recording : goal.returns-clause-recording
returns-clause-recording c = some_recording c.accepted_frames_are_one_list.ensures.some c.pieces_are_of_their_channel.ensures

pub returns-clause-channel : goal.returns-clause-channel
returns-clause-channel c = some_channel

pub returns-clause-program : goal.returns-clause-program
returns-clause-program c = some_program

pub returns-clause-world : goal.returns-clause-world
returns-clause-world c = some_world c.a_recording_is_a_run.ensures c.accepted_frames_are_one_list.ensures.some c.pieces_are_of_their_channel.ensures
