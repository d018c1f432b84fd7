use Rattle.std.proofs.Common.{◌-◌, arith}
use Rattle.rec_joined.specs.Moving.{moving_of}
use Rattle.rec_joined.proofs.PartsRead.{some_moved}
use Rattle.rec_joined.proofs.joined.packet_of.Goals as goal

pub returns-in-Ok : goal.returns-in-Ok
returns-in-Ok g c =
    some_moved (moving_of c.args.part.now.moves) (g.P.PacketsAt.there c.args.part.now.packets) c.in-Some.own (c.args.at - c.args.part.now.start)
    c.in_ok-packet.packet c.in-Ok.moved (omega (arith, c.in-Some.ensures)) c.in-Ok.ensures.there c.in_ok-packet.ensures
