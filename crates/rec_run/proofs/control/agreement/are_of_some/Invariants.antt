use Rattle.std.specs.List.{AllWithin}
use Rattle.rec_run.specs.Control.{IsOfSome}
use Rattle.rec_run.proofs.control.agreement.are_of_some.Given as goal

abbrev pub invariant-entries : goal.invariant-entries
invariant-entries l = AllWithin (IsOfSome l.channels) l.log 0 l.entry-index
