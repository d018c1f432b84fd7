use Rattle.ch11_clock.proofs.PointTimes.{point_agrees}
use Rattle.ch11_clock.proofs.laws.time_points_have_the_clocks_time.Goals as goal

pub returns : goal.returns
returns c = point_agrees
