use Rattle.rec_lane.proofs.Groups.{groups_are, one_groups}
use Rattle.rec_lane.proofs.laws.groups_are_frames_of_one_version.Goals as goal

pub returns-clause-groups : goal.returns-clause-groups
returns-clause-groups c = groups_are

pub returns-clause-one : goal.returns-clause-one
returns-clause-one c = one_groups
