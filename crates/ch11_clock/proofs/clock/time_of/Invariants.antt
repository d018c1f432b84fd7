use Rattle.std.proofs.Common.{◌≡◌, drop}
use Rattle.ch11_clock.specs.Clock.{origin_at, clock_time, time_under}
use Rattle.ch11_clock.proofs.clock.time_of.Given as goal

-- the origin so far, and those that are left, give the counter its time
abbrev pub invariant-origins : goal.invariant-origins
invariant-origins l =
    time_under (origin_at l.held (drop l.origin-index l.later) l.counter) l.counter ≡ clock_time l.origins l.counter
