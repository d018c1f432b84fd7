use Rattle.rec_reader.proofs.Extracting.{Counted}
use Rattle.rec_reader.proofs.Feeds.{Taken}
use Rattle.rec_reader.proofs.extract.extract_frames.Given as goal

abbrev pub invariant-frames : goal.invariant-frames
invariant-frames g l =
    Taken (g.W.Write.contents l.initial.feed) (g.W.Write.contents l.feed) l.read-iterator l.initial.read-iterator
    × Counted l.initial.extracted l.extracted l.read-iterator l.initial.read-iterator
