use Rattle.std.proofs.Common.{◌≡◌}
use Rattle.rec_run.proofs.control.thread.make_room.Given as goal

abbrev pub invariant-turns : goal.invariant-turns
invariant-turns g l = l.log.items ≡ l.initial.log.items
