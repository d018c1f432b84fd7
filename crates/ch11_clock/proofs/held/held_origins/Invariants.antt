use Rattle.std.proofs.Common.{◌≡◌, ◌≤◌, length, drop}
use Rattle.std.specs.Prelude.{reverse}
use Rattle.ch11_clock.specs.Clock.{started, held_origins, rule_end}
use Rattle.ch11_clock.proofs.held.held_origins.Given as goal

-- the rules so far are those of the origins from `at` on, the last one first
abbrev pub invariant-held : goal.invariant-held
invariant-held l = record {
  within : l.at ≤ length l.origins;
  rules : reverse l.rules.items ≡ held_origins (drop l.at (started l.origins));
  end : l.end ≡ rule_end (held_origins (drop l.at (started l.origins)));
}

abbrev pub decreases-held : goal.decreases-held
decreases-held l = l.at
