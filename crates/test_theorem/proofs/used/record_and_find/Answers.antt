use Rattle.test_theorem.proofs.Using.{finds_all, finds_part}
use Rattle.test_theorem.proofs.used.record_and_find.Goals as goal

pub returns-clause-found : goal.returns-clause-found
returns-clause-found g c =
    finds_all g.S.FrameSource.left g.S.FrameSource.failures g.S.FrameSource.ending g.C.Control.given g.C.Control.answered g.C.Control.ended g.W.Write.contents
    c.args.jobs.items c.args.version c.args.control c.args.out
    c.what_is_recorded_is_found.ensures.found c.record.result c.record.ensures.recorded c.record.ensures.controlled

pub returns-clause-cut : goal.returns-clause-cut
returns-clause-cut g c =
    finds_part g.S.FrameSource.left g.S.FrameSource.failures g.S.FrameSource.ending g.C.Control.given g.C.Control.answered g.C.Control.ended g.W.Write.contents
    c.args.jobs.items c.args.version c.args.control c.args.out
    c.what_is_recorded_is_found.ensures.cut c.record.result c.record.ensures.cut
