use Rattle.std.proofs.Common.{arith}
use Rattle.std.proofs.lemmas.Bool.Decides.{nat_tests}
use Rattle.std.proofs.lemmas.List.{nil_from_length}
use Rattle.ch11_packet.proofs.Bodies.{open_count}
use Rattle.ch11_packet.proofs.frames.builder.DataBuilder.is_empty.Goals as goal

pub returns : goal.returns
returns c =
    let many = open_count _ _ _ _ _ _ c.self.view_is in
    record { empty = (λ is. nil_from_length _ (grind (arith, nat_tests)), λ none. grind (arith, nat_tests)) }
