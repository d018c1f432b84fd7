use Rattle.ch11_packet.specs.FramesRead.{AreFrames}
use Rattle.rec_pieces.proofs.PartsGoing.{IsGoing}
use Rattle.rec_pieces.proofs.part.take_part.Given as goal

-- the frames so far go out together
abbrev pub invariant-frames : goal.invariant-frames
invariant-frames l =
    IsGoing l.fn.tick l.fn.ahead l.fn.count l.fn.bytes l.left l.rest l.piece l.builder × ∥ AreFrames l.left l.rest ∥₁

abbrev pub decreases-frames : goal.decreases-frames
decreases-frames l = l.left
