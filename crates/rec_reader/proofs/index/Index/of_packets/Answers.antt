use Rattle.std.proofs.Common.{arith}
use Rattle.rec_reader.specs.Indexes.{entries_in}
use Rattle.rec_reader.proofs.Indexing.{one_more_entry}
use Rattle.rec_reader.proofs.index.Index.of_packets.Goals as goal

pub packets-preserved : goal.packets-preserved
packets-preserved c =
    let was = c.packets.invariant in
    record {
      number = omega arith;
      entries = λ channel. one_more_entry c.args.packets.now c.packets.packet-index c.packets.number channel c.packet-item.result
          (entries_in c.packets.index channel) (entries_in c.add.new.self channel)
          c.packets-test.true c.packet-item.is was.number (was.entries channel) (c.in_ok-add.ensures channel);
    }
