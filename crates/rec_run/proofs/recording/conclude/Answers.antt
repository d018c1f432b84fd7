use Rattle.std.proofs.Common.{refl, subst, All, rules}
use Rattle.std.specs.List.{AllZip}
use Rattle.rec_run.specs.Threads.{AreOver, AreEnded}
use Rattle.rec_run.specs.Control.{IsOfSome}
use Rattle.rec_run.specs.Verdicts.{TellsOf}
use Rattle.rec_run.proofs.Judging.{good_of, concludes, concludes_cut, concludes_control, cut_here}
use Rattle.rec_run.proofs.recording.conclude.Goals as goal

pub returns-in-Nothing-clause-recorded : goal.returns-in-Nothing-clause-recorded
returns-in-Nothing-clause-recorded g c =
    concludes g.S.FrameSource.left g.S.FrameSource.failures g.S.FrameSource.ending g.W.Write.contents c.args.outcome c.as_slice-3.result.now _ _ refl
    c.whole.ensures c.in-Some.ensures (good_of c.args.outcome.wrote c.in-Nothing.is)
    (subst (λ js. AreOver js) c.as_slice.ensures.value (c.are_over-over.ensures (search rules))) c.end_well.result c.end_well.ensures.whole

pub returns-in-Nothing-clause-controlled : goal.returns-in-Nothing-clause-controlled
returns-in-Nothing-clause-controlled g c =
    concludes_control g.S.FrameSource.left g.S.FrameSource.failures g.S.FrameSource.ending g.W.Write.contents g.C.Control.given g.C.Control.answered
    g.C.Control.ended c.args.outcome c.args.channels.now _ (good_of c.args.outcome.wrote c.in-Nothing.is)
    (subst (λ l. AllZip (TellsOf l) c.args.outcome.joined.items c.in-Some.told.items) c.as_slice-3.ensures.value c.in-Some.ensures)
    (subst (λ l. All (IsOfSome c.args.channels.now) l) c.as_slice-4.ensures.value (c.are_of_some.ensures c.if-not-are_of_some.false)) (search rules)
    c.end_well.result c.end_well.ensures.whole

pub returns-in-Nothing-clause-cut : goal.returns-in-Nothing-clause-cut
returns-in-Nothing-clause-cut g c =
    concludes_cut g.S.FrameSource.left g.S.FrameSource.failures g.S.FrameSource.ending g.W.Write.contents c.args.outcome c.as_slice-3.result.now _
    c.args.outcome.controlled.control refl c.whole.ensures c.in-Some.ensures (good_of c.args.outcome.wrote c.in-Nothing.is)
    (subst (λ js. AreOver js) c.as_slice.ensures.value (c.are_over-over.ensures (search rules))) c.end_well.result c.end_well.ensures.cut

pub returns-in-Failed-clause-cut : goal.returns-in-Failed-clause-cut
returns-in-Failed-clause-cut g c =
    cut_here g.S.FrameSource.left g.S.FrameSource.failures g.S.FrameSource.ending g.W.Write.contents c.args.outcome c.as_slice-3.result.now _
    c.args.outcome.controlled.control refl c.whole.ensures c.in-Some.ensures c.in-Failed.fault c.out_of.result c.in-Failed.is
    (subst (λ js. AreEnded js) c.as_slice-2.ensures.value (c.are_ended-with_endings.ensures c.if-with_endings.true)) c.out_of.ensures
