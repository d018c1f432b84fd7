use Rattle.rec_writer.proofs.OneChannelRecordings.{end_recorded, only_end}
use Rattle.rec_writer.proofs.laws.a_channel_of_no_frames_is_recorded_as_its_end.Goals as goal

pub returns : goal.returns
returns c = λ version settings history bytes. (
  only_end version settings history bytes,
  end_recorded c.pieces_are_of_their_channel.ensures version settings history bytes,
)
