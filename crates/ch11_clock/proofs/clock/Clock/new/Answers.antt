use Rattle.std.proofs.Common.{sym, subst, ◌∙◌, ap}
use Rattle.ch11_clock.specs.Clock.{IsClock, clock_time}
use Rattle.ch11_clock.proofs.HeldOrigins.{held_clock, held_time}
use Rattle.ch11_clock.proofs.clock.Clock.new.Goals as goal

pub invariant_of-result : goal.invariant_of-result
invariant_of-result c = subst IsClock (sym c.in_ok-rules.ensures) (held_clock c.args.origins.now c.requires.some)

pub returns-clause-same : goal.returns-clause-same
returns-clause-same c counter = ap (λ rules. clock_time rules counter) c.in_ok-rules.ensures ∙ held_time c.args.origins.now counter
