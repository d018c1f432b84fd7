use Rattle.std.proofs.Common.{◌≡◌, ◌++◌, List}
use Rattle.rec_stream.specs.StreamPieces.{StreamPiece}
use Rattle.rec_stream.specs.StreamEnds.{StreamPast}
use Rattle.rec_stream.specs.Sending.{HasCome, origin_pieces, pieces_size}
use Rattle.rec_stream.proofs.pieces.put_frames.Given as goal

-- the pieces that are left are on their way
abbrev pub invariant-pieces : goal.invariant-pieces
invariant-pieces g l = record {
  come : (past : StreamPast) (others : List StreamPiece) → past.facts.setup ≡ l.setup
      → HasCome past (g.W.Write.contents l.fn.out) l.fn.sent l.fn.course (origin_pieces l.origin l.fn.frames ++ others)
      → HasCome past (g.W.Write.contents l.out) l.sent l.course (origin_pieces l.origin l.left ++ others);
  other : l.sent.counts.other ≡ l.fn.sent.counts.other;
}

abbrev pub decreases-pieces : goal.decreases-pieces
decreases-pieces g l = pieces_size l.left
