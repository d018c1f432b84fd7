use Rattle.ch11_clock.proofs.DigitsRead.{scaled}
use Rattle.ch11_clock.proofs.origin_text.read_fraction.Goals as goal

pub returns-clause-small : goal.returns-clause-small
returns-clause-small c =
    let few = c.in_ok-value.ensures.few in
    rw c.pow.ensures (scaled c.in_ok-value.value _ few.0 few.1)
