use Rattle.std.proofs.Common.{◌≡◌, ◌<◌, length, None, arith, take_all, subst}
use Rattle.std.proofs.lemmas.Result.{err_from_is_err_and}
use Rattle.std.specs.Io.KnownBytes.{Consumes}
use Rattle.eth_frame.specs.declared.feed.head.TheConstants.{HEAD_LEN}
use Rattle.eth_frame.proofs.Taken.{TakesRecord-end, TakesRecord-short, TakesRecord-head, TakesRecord-cut, TakesRecord-held}
use Rattle.eth_frame.proofs.feed.source.take_record.Goals as goal

pub returns-then-filled-eq0-clause-record : goal.returns-then-filled-eq0-clause-record
returns-then-filled-eq0-clause-record g c =
    let short : c.in_ok-filled.filled < length c.fill.new.places = omega (arith, c.fill.auto.places) in
    TakesRecord-end (g.R.Read.remaining c.args.reader.now) (g.R.Read.remaining c.fill.new.reader) c.in_ok-filled.filled c.fill.new.places None
    c.if-filled-eq0.true c.in_ok-filled.ensures.taken (c.in_ok-filled.ensures.end short)

pub returns-then-filled-lt-HEAD_LEN-clause-record :
    goal.returns-then-filled-lt-HEAD_LEN-clause-record
returns-then-filled-lt-HEAD_LEN-clause-record g c =
    let short : c.in_ok-filled.filled < length c.fill.new.places = omega (arith, c.fill.auto.places) in
    TakesRecord-short (g.R.Read.remaining c.args.reader.now) (g.R.Read.remaining c.fill.new.reader) None c.in_ok-filled.filled c.fill.new.places None
    (omega arith) c.if-filled-lt-HEAD_LEN.true c.in_ok-filled.ensures.count c.in_ok-filled.ensures.taken (c.in_ok-filled.ensures.end short)

pub returns-in_err-head-clause-record : goal.returns-in_err-head-clause-record
returns-in_err-head-clause-record g c =
    let len : length c.fill.new.places ≡ HEAD_LEN = omega (arith, c.fill.auto.places) in
    let whole = take_all c.in_ok-filled.filled c.fill.new.places (omega arith) in
    let p = err_from_is_err_and c.from_residual-in_err-head.result c.from_residual-in_err-head.ensures.1 in
    rw (p.1, p.2) (TakesRecord-head (g.R.Read.remaining c.args.reader.now) (g.R.Read.remaining c.fill.new.reader) None c.fill.new.places
    c.in_err-head.field-0.0 None
    len c.in_err-head.ensures.fault (subst (Consumes _ _) whole c.in_ok-filled.ensures.taken))

pub returns-in_err-take_body-clause-record : goal.returns-in_err-take_body-clause-record
returns-in_err-take_body-clause-record g c =
    let len : length c.fill.new.places ≡ HEAD_LEN = omega (arith, c.fill.auto.places) in
    let whole = take_all c.in_ok-filled.filled c.fill.new.places (omega arith) in
    let cut = rw c.in_ok-head.ensures.len at c.in_err-take_body.ensures.fault in
    let p = err_from_is_err_and c.from_residual-in_err-take_body.result c.from_residual-in_err-take_body.ensures.1 in
    rw (p.1, p.2) (TakesRecord-cut (g.R.Read.remaining c.args.reader.now) (g.R.Read.remaining c.fill.new.reader) None c.fill.new.places
    c.in_err-take_body.field-0.0 None
    len c.in_ok-head.ensures.fault (subst (Consumes _ _) whole c.in_ok-filled.ensures.taken) cut)

pub returns-clause-record : goal.returns-clause-record
returns-clause-record g c =
    let len : length c.fill.new.places ≡ HEAD_LEN = omega (arith, c.fill.auto.places) in
    let whole = take_all c.in_ok-filled.filled c.fill.new.places (omega arith) in
    let head = c.in_ok-head.ensures in
    TakesRecord-held (g.R.Read.remaining c.args.reader.now) (g.R.Read.remaining c.fill.new.reader) (g.R.Read.remaining c.take_body.new.reader)
    c.fill.new.places c.in_ok-head.head c.take_body.new.buffer
    len head.fault (record { counter = head.counter; crc_error = head.crc_error; frame_error = head.frame_error; len = head.len })
    (subst (Consumes _ _) whole c.in_ok-filled.ensures.taken) c.in_ok-take_body.ensures.ok
