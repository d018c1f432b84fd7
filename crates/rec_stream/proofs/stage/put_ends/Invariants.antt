use Rattle.std.proofs.Common.{◌≡◌, drop, map}
use Rattle.rec_stream.specs.StreamEnds.{StreamPast}
use Rattle.rec_stream.specs.Sending.{HasCome, waiting_piece}
use Rattle.rec_stream.proofs.stage.put_ends.Given as goal

-- the ends that are left are on their way
abbrev pub invariant-ends : goal.invariant-ends
invariant-ends g l = record {
  come : (past : StreamPast) → past.facts.setup ≡ l.setup
      → HasCome past (g.W.Write.contents l.fn.out) l.fn.sent l.fn.course (map waiting_piece l.ends)
      → HasCome past (g.W.Write.contents l.out) l.sent l.course (map waiting_piece (drop l.k l.ends));
  other : l.sent.counts.other ≡ l.fn.sent.counts.other;
}
