use Rattle.rec_joined.proofs.PartsRead.{parts_there}
use Rattle.rec_joined.proofs.joined.JoinedPackets.new.Goals as goal

pub returns : goal.returns
returns g c = λ read are. parts_there g.P.PacketsAt.there 0 c.args.parts.now read are
