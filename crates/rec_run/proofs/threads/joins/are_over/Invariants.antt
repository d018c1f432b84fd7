use Rattle.std.proofs.Common.{◌≡◌}
use Rattle.std.specs.List.{AllWithin}
use Rattle.rec_run.specs.Endings.{IsOverThen}
use Rattle.rec_run.proofs.threads.joins.are_over.Given as goal

abbrev pub invariant-channels : goal.invariant-channels
invariant-channels g l = AllWithin (λ j. (j.remaining ≡ 0) × IsOverThen j.done.end) l.joined 0 l.one-index
