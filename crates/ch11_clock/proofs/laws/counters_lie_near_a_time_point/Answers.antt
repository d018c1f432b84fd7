use Rattle.ch11_clock.proofs.PointDistances.{counters_near, point_fits}
use Rattle.ch11_clock.proofs.laws.counters_lie_near_a_time_point.Goals as goal

pub returns-clause-near : goal.returns-clause-near
returns-clause-near c = counters_near

pub returns-clause-fits : goal.returns-clause-fits
returns-clause-fits c = point_fits
