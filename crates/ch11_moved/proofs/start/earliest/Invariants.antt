use Rattle.std.proofs.Common.{◌≡◌, drop}
use Rattle.ch11_moved.specs.FileStarts.{earliest_from}
use Rattle.ch11_moved.proofs.start.earliest.Given as goal

-- with those that are still to come it leads to the same one
abbrev pub invariant-origins : goal.invariant-origins
invariant-origins l = earliest_from l.earliest (drop l.origin-index l.origins) ≡ earliest_from l.fn.first l.origins
