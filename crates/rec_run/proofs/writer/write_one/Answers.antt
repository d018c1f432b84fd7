use Rattle.std.proofs.Common.{◌∙◌, sym, refl}
use Rattle.rec_run.proofs.writer.write_one.Goals as goal

pub returns-in-Err-clause-wrote : goal.returns-in-Err-clause-wrote
returns-in-Err-clause-wrote g c = (
  record {
    p = c.in-Ok.piece;
    takes = record { channel_is = sym c.channel.ensures.channel ∙ c.if-channel-line.false; received_is = c.in-Ok.ensures.ok.0; buffers_same = refl };
    fails = c.in-Err.ensures.fault;
  },
  c.in-Err.ensures.count,
)

pub returns-then-give_back-clause-wrote : goal.returns-then-give_back-clause-wrote
returns-then-give_back-clause-wrote g c =
    record {
      p = c.in-Ok.piece;
      takes = record { channel_is = sym c.channel.ensures.channel ∙ c.if-channel-line.false; received_is = c.in-Ok.ensures.ok.0; buffers_same = refl };
      puts = c.in-Ok-put.ensures.whole;
      counts = c.in-Ok-put.ensures.counted;
      gave = c.give_back.ensures.gave c.if-give_back.true;
    }
