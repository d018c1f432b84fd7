use Rattle.rec_theorem.proofs.JobRuns.{run_found, are_answered, cut_found}
use Rattle.rec_theorem.proofs.theorem.what_is_recorded_is_found.Goals as goal

pub returns-clause-found : goal.returns-clause-found
returns-clause-found g c = run_found g.S.FrameSource.left g.S.FrameSource.failures g.S.FrameSource.ending g.C.Control.given g.C.Control.answered
    g.C.Control.ended g.W.Write.contents c.a_recording_is_read_back.ensures c.accepted_frames_are_one_list.ensures.accepted

pub returns-clause-cut : goal.returns-clause-cut
returns-clause-cut g c = cut_found g.S.FrameSource.left g.S.FrameSource.failures g.S.FrameSource.ending g.W.Write.contents
    c.a_cut_recording_is_read_back.ensures.failed c.accepted_frames_are_one_list.ensures.accepted

pub returns-clause-calls : goal.returns-clause-calls
returns-clause-calls g c = λ jobs version control out done before bytes recorded.
    are_answered g.S.FrameSource.left jobs done.report.channels.items recorded.controlled.changes bytes
    (run_found g.S.FrameSource.left g.S.FrameSource.failures g.S.FrameSource.ending g.C.Control.given g.C.Control.answered g.C.Control.ended g.W.Write.contents
    c.a_recording_is_read_back.ensures c.accepted_frames_are_one_list.ensures.accepted jobs version control out done before bytes recorded)
