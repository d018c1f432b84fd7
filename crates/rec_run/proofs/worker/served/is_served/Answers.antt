use Rattle.std.proofs.Common.{rules, arith, None, Some}
use Rattle.std.proofs.lemmas.Option.{slice_get_past}
use Rattle.rec_run.specs.WorkerRuns.{met_data}
use Rattle.rec_run.proofs.HistoryRows.{served_rows, found}
use Rattle.rec_run.proofs.worker.served.is_served.Goals as goal

pub returns-in-None : goal.returns-in-None
returns-in-None c = λ u.
    let p = c.in-Some.ensures.lookup in
    let m = c.in-Some-get.ensures.lookup in
    served_rows _ _ (met_data c.args.one.now) c.args.until c.in-Some.program.now c.in-Some-get.mark.now c.requires (found _ _ _ p.1 p.3.0)
    (found _ _ _ m.1 m.3.0) (search rules) (omega arith) None (slice_get_past _ _ c.in-None.ensures.lookup.3) tt

pub returns-in-Some-get-2 : goal.returns-in-Some-get-2
returns-in-Some-get-2 c = λ within.
    let p = c.in-Some.ensures.lookup in
    let m = c.in-Some-get.ensures.lookup in
    let n = c.in-Some-get-2.ensures.lookup in
    served_rows _ _ (met_data c.args.one.now) c.args.until c.in-Some.program.now c.in-Some-get.mark.now c.requires (found _ _ _ p.1 p.3.0)
    (found _ _ _ m.1 m.3.0) (search rules) (omega arith) (Some c.in-Some-get-2.next.now) (found _ _ _ n.1 n.3.0) (search rules)
