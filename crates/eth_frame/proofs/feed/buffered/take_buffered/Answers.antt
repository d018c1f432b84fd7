use Rattle.std.proofs.Common.{subst, rules}
use Rattle.std.specs.Io.BufRead.{FillKeeps}
use Rattle.eth_frame.proofs.Shown.{TakesRecord-none, TakesRecord-shown}
use Rattle.eth_frame.proofs.feed.buffered.take_buffered.Goals as goal

pub returns-then-is_empty-clause-record : goal.returns-then-is_empty-clause-record
returns-then-is_empty-clause-record g c =
    TakesRecord-none (g.R.Read.remaining c.args.reader.now) (g.R.Read.remaining c.fill_buf.follows.lender-at-none) c.in-Ok.bytes.now c.args.buffer.now
    (search rules) c.in-Ok.ensures.end c.fill_buf.follows.holds-at-none.0

pub returns-in-Some-clause-record : goal.returns-in-Some-clause-record
returns-in-Some-clause-record g c =
    let rested = c.fill_buf.follows.lender-at-none in
    let filled = subst (FillKeeps _ (g.R.Read.remaining rested) (g.R.BufRead.consumable_len rested)) c.in-Ok.is c.fill_buf.follows.holds-at-none in
    TakesRecord-shown (g.R.Read.remaining c.args.reader.now) (g.R.Read.remaining rested) (g.R.Read.remaining c.consume.new.self)
    (g.R.BufRead.consumable_len rested)
    c.in-Ok.bytes.now c.in-Some.taken c.put_record.new.buffer c.in-Some.ensures.count c.in-Ok.ensures.front c.in-Ok.ensures.end filled.0 filled.1
    c.consume.ensures.bytes c.in-Some.ensures.record
