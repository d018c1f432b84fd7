use Rattle.rec_joined.proofs.PartsRead.{parts_read}
use Rattle.rec_joined.proofs.laws.joined_recordings_are_a_recording.Goals as goal

pub returns : goal.returns
returns g c = parts_read g.P.PacketsAt.there
