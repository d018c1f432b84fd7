use Rattle.std.proofs.Common.{ℕ, ◌≡◌, ◌≤◌, ◌<◌, ◌^◌, List}
use Rattle.std.specs.Prelude.{IfNone, IfSome}
use Rattle.ch11_clock.specs.declared.origin.Origin.{Origin}
use Rattle.ch11_file.specs.FileTimes.{tick_of}
use Rattle.rec_stream.specs.Sending.{IsWalking}
use Rattle.rec_stream.proofs.DueTimes.{IsPassed, last_tick}
use Rattle.rec_stream.proofs.due.last_due.Given as goal

-- what is known of the walk so far, whatever it was before
abbrev pub invariant-due : goal.invariant-due
invariant-due l = record {
  walks : (rules : List Origin) (least time : ℕ) → IsWalking rules least time l.fn.times → IsWalking rules least (last_tick time l.last) l.times;
  passed : (rules : List Origin) (least time : ℕ) → IsWalking rules least time l.fn.times → IfSome l.last (IsPassed rules least time l.counter);
  reach : (rules : List Origin) (least time : ℕ) → IsWalking rules least time l.fn.times → l._at ≤ tick_of l.times.next;
  none : IfNone l.last (l.times ≡ l.fn.times);
  fits : IfSome l.times.next (λ point. point.tick < 2 ^ 48);
  tick : IfSome l.last (λ point. point.tick < 2 ^ 48);
}
