use Rattle.rec_lane.proofs.Beginnings.{begin_all}
use Rattle.rec_lane.proofs.Longer.{begin_in_history}
use Rattle.rec_lane.proofs.laws.pieces_so_far_begin_all_pieces.Goals as goal

pub returns-clause-frames : goal.returns-clause-frames
returns-clause-frames c = begin_all

pub returns-clause-history : goal.returns-clause-history
returns-clause-history c = λ settings frames times history so_far a more after later all marked b. begin_in_history c.one_version_is_in_force.ensures.one
    c.runs_once.ensures.one_run c.later_versions_leave_the_past.ensures.kept settings frames more times after history later so_far all marked a b
