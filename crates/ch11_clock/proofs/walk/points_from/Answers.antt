use Rattle.std.proofs.Common.{◌<◌, arith, rules, to_z-of_z, w64, FitsSigned}
use Rattle.ch11_clock.specs.Clock.{rule_end}
use Rattle.ch11_clock.proofs.FirstMoments.{points_here}
use Rattle.ch11_clock.proofs.walk.points_from.Goals as goal

pub returns-then-least-rule_end-clause-same : goal.returns-then-least-rule_end-clause-same
returns-then-least-rule_end-clause-same c =
    let start = c.first_moment.result in
    let fits : FitsSigned w64 start = search rules in
    let within : c.args.least < rule_end c.in-Some.later.now = omega (arith, c.if-least-rule_end.true, c.rule_end.ensures.end) in
    rw (to_z-of_z fits) (points_here c.args.least c.args.rules.now c.rules.left.now c.in-Some.rule.now c.in-Some.later.now start
    c.in-Some.ensures.cases.0 c.rules.invariant.same within (c.first_moment.ensures.first _ within))
