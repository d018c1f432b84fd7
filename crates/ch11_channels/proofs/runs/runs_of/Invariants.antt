use Rattle.std.proofs.Common.{ℕ, ◌≡◌, ◌<◌, length, get_or}
use Rattle.std.specs.Prelude.{None}
use Rattle.ch11_channels.specs.Runs.{run_by}
use Rattle.ch11_channels.proofs.runs.runs_of.Given as goal

-- the recordings so far have their runs
abbrev pub invariant-afters : goal.invariant-afters
invariant-afters l = record {
  as_many : length l.runs.items ≡ l.at;
  each : (at : ℕ) → at < l.at → get_or l.runs.items at 0 ≡ run_by l.runs.items at (get_or l.afters at None);
}
