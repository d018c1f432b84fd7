use Rattle.std.proofs.Common.{arith}
use Rattle.std.proofs.lemmas.Bool.Decides.{nat_tests}
use Rattle.ch11_packet.proofs.Bodies.{open_len}
use Rattle.ch11_packet.proofs.frames.builder.DataBuilder.fits.Goals as goal

pub returns-then-len-limit : goal.returns-then-len-limit
returns-then-len-limit c =
    let known = open_len _ _ _ _ _ _ _ c.self.invariant c.self.view_is in
    record { fits = grind (arith, nat_tests) }
