use Rattle.std.proofs.Common.{◌≡◌, ◌<◌, ◌^◌, Option, Some, sym, subst, ◌∙◌, arith}
use Rattle.std.specs.Prelude.{IfSome}
use Rattle.ch11_clock.specs.declared.time_point.TimePoint.{TimePoint}
use Rattle.ch11_file.specs.FileTimes.{tick_of}
use Rattle.rec_stream.proofs.DueTimes.{all_due, all_due_by, passes, reaches}
use Rattle.rec_stream.proofs.due.last_due.Goals as goal

pub returns-in_default-clause-some : goal.returns-in_default-clause-some
returns-in_default-clause-some c = all_due c.args.counter c.due.last c.args.times.now c.due.times c.due.invariant.walks c.due.invariant.passed
    (subst (λ (o : Option TimePoint). c.args.counter < tick_of o) (sym (sym c.next.ensures ∙ c.in_default.is)) c.requires.counter)

pub returns-then-counter-point-clause-some : goal.returns-then-counter-point-clause-some
returns-then-counter-point-clause-some c =
    all_due c.args.counter c.due.last c.args.times.now c.due.times c.due.invariant.walks c.due.invariant.passed
    (subst (λ (o : Option TimePoint). c.args.counter < tick_of o) (sym (sym c.next.ensures ∙ c.in-Some.is)) c.if-counter-point.true)

pub returns-clause-some : goal.returns-clause-some
returns-clause-some c = all_due_by c.args.counter c.due.last c.args.times.now c.due.times c.due.invariant.walks c.due.invariant.passed
    (λ rules least time walking. let reach = c.due.invariant.reach rules least time walking in let end = c.due-test.false in omega (arith, reach, end))

pub returns-clause-early : goal.returns-clause-early
returns-clause-early c = λ rules least time walking.
    let reach = c.due.invariant.reach rules least time walking in
    let end = c.due-test.false in
    omega (arith, reach, end)

pub due-preserved : goal.due-preserved
due-preserved c =
    let is : c.due.times.next ≡ Some c.in-Some.point = sym c.next.ensures ∙ c.in-Some.is in
    record {
      walks = λ rules least time walking.
          let old = c.due.invariant.walks rules least time walking in
          record {
            walks = c.advance.ensures.walks least rules c.in-Some.point is old.walks;
            follows = c.advance.ensures.follows least rules c.in-Some.point is old.walks;
          };
      passed = λ rules least time walking.
          passes rules least time c.args.counter c.due.last c.in-Some.point c.due.times (c.due.invariant.walks rules least time walking)
          (c.due.invariant.passed rules least time walking) is c.if-counter-point.false;
      reach = λ rules least time walking.
          let old = c.due.invariant.walks rules least time walking in
          reaches rules least c.due._at c.in-Some.point c.due.times c.advance.new.self (c.due.invariant.reach rules least time walking) is
          (c.advance.ensures.follows least rules c.in-Some.point is old.walks);
      none = tt;
      fits = c.advance.ensures.fits;
      tick = subst (λ (o : Option TimePoint). IfSome o (λ point. point.tick < 2 ^ 48)) is c.due.invariant.fits;
    }
