-- Each further place of a path uses up one step.
use Rattle.test_slow_readings.proofs.search.+walk.Given as goal

abbrev pub decreases-walk : goal.decreases-walk
decreases-walk l = l.steps
