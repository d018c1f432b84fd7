use Rattle.rec_run.specs.Control.{MayBeAsked}
use Rattle.rec_run.specs.Control.{HasControlled}
use Rattle.rec_run.proofs.control.thread.run_control.Given as goal

abbrev pub invariant-changes : goal.invariant-changes
invariant-changes g l =
    MayBeAsked g.C.Control.given g.C.Control.answered g.C.Control.ended l.run.control
    × HasControlled g.C.Control.given g.C.Control.answered l.fn.control l.run.control l.run.log.items
