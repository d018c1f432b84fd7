use Rattle.std.proofs.Common.{drop, take_all, arith}
use Rattle.std.proofs.lemmas.List.{length-drop}
use Rattle.ch11_packet.proofs.Sums.{sum_below, sum_more}
use Rattle.ch11_packet.proofs.sum.body_sum.Goals as goal

pub words-init : goal.words-init
words-init c = omega (arith, sum_below c.args.bytes.now)

pub words-preserved : goal.words-preserved
words-preserved c =
    let rest = c.words.rest.now in
    let long = length-drop 4 rest in
    sum_more _ c.words.sum c.from_le_bytes-sum.result rest _ c.in-len4-up.len_at_least (take_all _ (drop 4 rest) (omega (arith, long)))
    c.from_le_bytes-sum.ensures c.words.invariant
