use Rattle.std.proofs.Common.{◌∙◌, arith}
use Rattle.ch11_packet.proofs.Sums.{sum_one, sum_three}
use Rattle.ch11_packet.proofs.sum.last_word.Goals as goal

pub returns-in-len1 : goal.returns-in-len1
returns-in-len1 c = c.from_le_bytes.ensures ∙ sum_one c.args.bytes.now (omega (arith, c.in-len1.len_at_least, c.in-len1.len_below))
    (omega (arith, c.type_inv.bytes 0))

pub returns-in-len3-up : goal.returns-in-len3-up
returns-in-len3-up c = c.from_le_bytes-in-len3-up.ensures ∙ sum_three c.args.bytes.now (omega (arith, c.in-len3-up.len_at_least, c.requires))
    (omega (arith, c.type_inv.bytes 0, c.type_inv.bytes 1, c.type_inv.bytes 2))
