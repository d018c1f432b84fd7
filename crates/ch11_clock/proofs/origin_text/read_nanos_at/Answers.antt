use Rattle.std.proofs.Common.{arith}
use Rattle.ch11_clock.proofs.DigitsRead.{below_most}
use Rattle.ch11_clock.proofs.origin_text.read_nanos_at.Goals as goal

pub returns-in_default-clause-small : goal.returns-in_default-clause-small
returns-in_default-clause-small c =
    let few = c.in_ok-seconds.ensures.few in
    let small = below_most _ 12 c.in_ok-seconds.seconds few.0 few.1 in
    omega (arith, small)

pub returns-clause-small : goal.returns-clause-small
returns-clause-small c =
    let few = c.in_ok-seconds-2.ensures.few in
    let small = below_most _ 12 c.in_ok-seconds-2.seconds few.0 few.1 in
    omega (arith, small, c.in_ok-fraction.ensures.small)
