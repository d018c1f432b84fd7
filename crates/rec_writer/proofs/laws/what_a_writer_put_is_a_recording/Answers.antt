use Rattle.rec_writer.proofs.OneChannelRecordings.{put_recording}
use Rattle.rec_writer.proofs.laws.what_a_writer_put_is_a_recording.Goals as goal

pub returns : goal.returns
returns c = put_recording
