use Rattle.ch11_clock.proofs.HeldOrigins.{held_clock, held_time}
use Rattle.ch11_clock.proofs.laws.held_origins_are_the_clock.Goals as goal

pub returns-clause-clock : goal.returns-clause-clock
returns-clause-clock c = held_clock

pub returns-clause-same : goal.returns-clause-same
returns-clause-same c = held_time
