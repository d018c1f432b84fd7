use Rattle.std.proofs.Common.{rules, ◌%◌, ◌^◌, ap, ◌∙◌, arith}
use Rattle.ch11_packet.proofs.SplitFrame.{StandsFirst-split, behind}
use Rattle.ch11_packet.proofs.frames.decode.split_frame.Goals as goal

pub returns-clause-first : goal.returns-clause-first
returns-clause-first c =
    let known = StandsFirst-split c.args.body.now c.in_ok-bytes.bytes.now c.in_ok-bytes.after.now c.after_filler.result.now _ _
    (λ i. omega (arith, c.type_inv.body i)) c.if-body-lt-FRAME_HEADER_LEN.false c.counter_of.ensures.value (c.from-len.ensures
    ∙ ap (λ n. n % 2 ^ 14) c.from_le_bytes.ensures) (behind c.args.body.now _ _ _ c.in_ok-bytes.ensures.cases) c.in_ok-bytes.ensures.cases.3
    c.after_filler.ensures.filler in
    search rules
