use Rattle.std.specs.List.{AllWithin}
use Rattle.rec_run.specs.Endings.{HasEnding}
use Rattle.rec_run.proofs.threads.joins.are_ended.Given as goal

abbrev pub invariant-channels : goal.invariant-channels
invariant-channels g l = AllWithin (λ j. HasEnding j.done.end) l.joined 0 l.one-index
