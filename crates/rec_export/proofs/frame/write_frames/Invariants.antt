use Rattle.rec_export.specs.Frames.{IsShort, text_of}
use Rattle.rec_export.proofs.Showing.{Shown}
use Rattle.rec_export.proofs.frame.write_frames.Given as goal

abbrev pub invariant-frames : goal.invariant-frames
invariant-frames g l =
    Shown l.interface (g.W.Write.contents l.initial.out) (g.W.Write.contents l.out) (text_of l.said) (text_of l.initial.said) l.frame-iterator
    l.initial.frame-iterator
    × IsShort (text_of l.said)
