use Rattle.std.proofs.Common.{rules, arith}
use Rattle.ch11_packet.proofs.Bodies.{body_bytes, body_len, body_valid}
use Rattle.ch11_packet.proofs.frames.body.DataBody.bytes.Goals as goal

pub returns-clause-bytes : goal.returns-clause-bytes
returns-clause-bytes c =
    let same = c.as_slice.ensures.value in
    let known = body_bytes _ _ _ _ _ _ _ _ c.self.invariant c.self.view_is in
    grind arith

pub returns-clause-len : goal.returns-clause-len
returns-clause-len c =
    let same = c.as_slice.ensures.value in
    let known = body_len _ _ _ _ _ _ _ _ c.self.invariant c.self.view_is in
    grind arith

pub returns-clause-valid : goal.returns-clause-valid
returns-clause-valid c = search (rules, body_valid)
