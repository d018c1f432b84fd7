-- Each packet takes up one of the frames that are left at least.
use Rattle.std.proofs.Common.{◌-◌, vec_len}
use Rattle.test_slow_readings.proofs.pieces.add_group.Given as goal

abbrev pub decreases-loop-from : goal.decreases-loop-from
decreases-loop-from l = vec_len l.moments - l.from
