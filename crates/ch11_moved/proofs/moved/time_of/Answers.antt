use Rattle.std.proofs.Common.{subst, sym, ◌∙◌, rules, FitsSigned, to_z-of_z}
use mir.Syntax.{w128}
use Rattle.ch11_clock.specs.Moments.{IsTime}
use Rattle.ch11_moved.proofs.FirstOrigins.{time_in}
use Rattle.ch11_moved.proofs.moved.time_of.Goals as goal

pub returns-clause-in_range : goal.returns-clause-in_range
returns-clause-in_range c =
    let fits : FitsSigned w128 c.time.result = search rules in
    subst IsTime (sym (to_z-of_z fits ∙ c.time.ensures)) (time_in c.args.clock.now c.args.counter c.requires)
