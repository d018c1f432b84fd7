use Rattle.ch11_clock.specs.Clock.{clock_time}
use Rattle.rec_joined.specs.Moving.{moving_of}
use Rattle.rec_joined.proofs.MovedTimes.{is_nearest}
use Rattle.rec_joined.proofs.laws.joined_frames_keep_their_times.Goals as goal

pub returns : goal.returns
returns c = λ moves counter fits.
    c.moved_counters_keep_their_times.ensures.near moves.start moves.clock counter ((moving_of moves).counters counter)
    (is_nearest moves.start.nanos (clock_time moves.clock counter) fits)
