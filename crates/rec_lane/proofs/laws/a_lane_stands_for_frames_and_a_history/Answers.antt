use Rattle.rec_lane.proofs.FramesMet.{takes_frame, ends}
use Rattle.rec_lane.proofs.Noting.{takes_time}
use Rattle.rec_lane.proofs.laws.a_lane_stands_for_frames_and_a_history.Goals as goal

pub returns-clause-takes : goal.returns-clause-takes
returns-clause-takes c = takes_frame c.one_version_is_in_force.ensures.one c.runs_once.ensures.one_run c.later_versions_leave_the_past.ensures.kept

pub returns-clause-ends : goal.returns-clause-ends
returns-clause-ends c = ends c.one_version_is_in_force.ensures.one c.runs_once.ensures.one_run

pub returns-clause-times : goal.returns-clause-times
returns-clause-times c = takes_time c.one_version_is_in_force.ensures.one c.runs_once.ensures.one_run
