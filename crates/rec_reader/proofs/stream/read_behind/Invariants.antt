use Rattle.std.proofs.Common.{◌≡◌, ◌-◌, ◌≤◌, ◌++◌, ℕ, List, length}
use Rattle.std.specs.Io.KnownBytes.{Consumes}
use Rattle.rec_reader.proofs.stream.read_behind.Given as goal

-- the bytes that came so far, and no more than the body has
abbrev pub invariant-steps : goal.invariant-steps
invariant-steps g l = record {
  within : length l.body.items ≤ l.len;
  part : List ℕ;
  items : l.body.items ≡ l.initial.body.items ++ part;
  taken : Consumes (g.R.Read.remaining l.initial.input) (g.R.Read.remaining l.input) part;
}

abbrev pub decreases-steps : goal.decreases-steps
decreases-steps g l = l.len - length l.body.items
