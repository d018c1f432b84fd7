use Rattle.std.proofs.Common.{Some, ap, ◌∙◌, arith}
use Rattle.eth_frame.proofs.Shown.{TakesRecord-whole}
use Rattle.eth_frame.proofs.feed.buffered.put_record.Goals as goal

pub returns-clause-record : goal.returns-clause-record
returns-clause-record c =
    let head = c.in-Ok.ensures in
    TakesRecord-whole c.args.bytes.now c.in_ok-front.front.now c.in-Ok.head c.put.new.self c.in_ok-front.ensures.cases.same
    (omega (arith, c.if-bytes-end.false)) head.fault
    (record { counter = head.counter; crc_error = head.crc_error; frame_error = head.frame_error; len = head.len })
    (c.put.ensures.held ∙ ap (λ f. Some f) c.with_bytes.ensures.same)
