use Rattle.std.proofs.Common.{ℕ, List, []}
use Rattle.rec_reader.specs.Readers.{HasRead}
use Rattle.rec_stream.specs.StreamEnds.{stream_facts}
use Rattle.rec_stream.proofs.StreamWrites.{HasStreamed}
use Rattle.rec_stream.proofs.writing.write_packets.Given as goal

-- the stream of the packets so far went out
abbrev pub invariant-packets : goal.invariant-packets
invariant-packets g l = (recording : List ℕ) → HasRead recording [] l.fn.reader
    → HasStreamed (stream_facts l.made.setup.now l.made.clock.now) recording (g.W.Write.contents l.fn.out) (g.W.Write.contents l.out) l.sent l.stage l.reader
