use Rattle.rec_lane.proofs.FramesMet.{one_list, some_list, accepted_once}
use Rattle.rec_lane.proofs.laws.accepted_frames_are_one_list.Goals as goal

pub returns-clause-one : goal.returns-clause-one
returns-clause-one c = one_list c.one_version_is_in_force.ensures.one c.runs_once.ensures.one_run

pub returns-clause-accepted : goal.returns-clause-accepted
returns-clause-accepted c = accepted_once c.one_version_is_in_force.ensures.one c.runs_once.ensures.one_run

pub returns-clause-some : goal.returns-clause-some
returns-clause-some c = some_list c.one_version_is_in_force.ensures.some c.a_valid_program_returns.ensures
