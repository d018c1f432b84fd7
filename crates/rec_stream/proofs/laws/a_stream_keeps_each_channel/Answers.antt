use Rattle.std.proofs.Common.{inr, ◌∙◌}
use Rattle.rec_pieces.specs.Entries.{pieces_of_channel}
use Rattle.rec_whole.specs.WholeFrames.{frame_held}
use Rattle.rec_whole.proofs.FramesHeld.{frames_held}
use Rattle.rec_stream.specs.StreamsRead.{if_counted, if_uncounted}
use Rattle.rec_stream.proofs.StreamKeeps.{begun_keeps, counted_keeps, no_counted, no_frame, no_uncounted}
use Rattle.rec_stream.proofs.laws.a_stream_keeps_each_channel.Goals as goal

pub returns-clause-frames : goal.returns-clause-frames
returns-clause-frames c = λ facts packets blocks stage go channel some.
    counted_keeps channel frame_held facts no_frame packets blocks stage go
    ∙ frames_held (pieces_of_channel channel packets)
    ∙ c.pieces_hold_the_frames_of_a_channel.ensures channel packets some

pub returns-clause-counted : goal.returns-clause-counted
returns-clause-counted c = λ facts packets blocks stage go channel.
    counted_keeps channel if_counted facts no_uncounted packets blocks stage go

pub returns-clause-uncounted : goal.returns-clause-uncounted
returns-clause-uncounted c = λ facts packets blocks state go channel.
    begun_keeps channel if_uncounted facts (inr no_counted) packets blocks state go
