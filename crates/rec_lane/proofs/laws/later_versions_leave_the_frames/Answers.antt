use Rattle.rec_lane.proofs.FramesMet.{later_list, before_list}
use Rattle.rec_lane.proofs.laws.later_versions_leave_the_frames.Goals as goal

pub returns-clause-kept : goal.returns-clause-kept
returns-clause-kept c = later_list c.later_versions_leave_the_past.ensures.kept

pub returns-clause-nothing_else : goal.returns-clause-nothing_else
returns-clause-nothing_else c = before_list c.later_versions_leave_the_past.ensures.nothing_else
