use Rattle.std.proofs.Common.{arith, ◌≤◌, ap, ◌∙◌, length}
use Rattle.std.specs.Prelude.{reverse}
use Rattle.ch11_clock.specs.Clock.{started}
use Rattle.ch11_clock.proofs.HeldOrigins.{kept_more, passed_more, length_started}
use Rattle.ch11_clock.proofs.held.held_origins.Goals as goal

pub held-preserved-then-origin-end : goal.held-preserved-then-origin-end
held-preserved-then-origin-end c =
    let held = c.held.invariant in
    let within : c.held.at ≤ length (started c.args.origins.now) = rw (length_started c.args.origins.now) held.within in
    let more = kept_more (started c.args.origins.now) c.held.rules.items c.held.at c.noted_at-origin.result c.held.end c.held-test.true within
    c.noted_at-origin.ensures held.rules held.end c.if-origin-end.true in
    record { within = omega (arith, held.within); rules = ap reverse c.in_ok-push.ensures.items ∙ more.0; end = more.1 }

pub held-preserved : goal.held-preserved
held-preserved c =
    let held = c.held.invariant in
    let within : c.held.at ≤ length (started c.args.origins.now) = rw (length_started c.args.origins.now) held.within in
    let more = passed_more (started c.args.origins.now) c.held.rules.items c.held.at c.noted_at-origin.result c.held.end c.held-test.true within
    c.noted_at-origin.ensures held.rules held.end c.if-origin-end.false in
    record { within = omega (arith, held.within); rules = more.0; end = more.1 }
