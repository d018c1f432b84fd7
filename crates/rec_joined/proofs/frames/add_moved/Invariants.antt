use Rattle.rec_joined.specs.Moving.{moving_of}
use Rattle.rec_joined.proofs.MovedFrames.{IsAdded}
use Rattle.rec_joined.proofs.frames.add_moved.Given as goal

-- with those of the frames that are left, the bytes so far are those of all
abbrev pub invariant-frames : goal.invariant-frames
invariant-frames l = IsAdded (moving_of l.fn.moves).counters l.fn.out.items l.fn.count l.fn.bytes l.out.items l.left l.rest

abbrev pub decreases-frames : goal.decreases-frames
decreases-frames l = l.left
