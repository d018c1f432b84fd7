use Rattle.std.proofs.Common.{arith}
use Rattle.std.proofs.lemmas.List.Elements.{AllWithin-more, at_read}
use Rattle.rec_run.specs.Endings.{HasEnding}
use Rattle.rec_run.proofs.threads.joins.are_ended.Goals as goal

pub channels-preserved : goal.channels-preserved
channels-preserved g c =
    let here = at_read c.args.joined.now (λ j. HasEnding j.done.end) c.channels.one-index c.one-item.result (omega arith) c.one-item.is
    (c.is_ended.ensures.0 c.if-not-is_ended.false) in
    AllWithin-more (λ j. HasEnding j.done.end) c.args.joined.now 0 c.channels.one-index c.channels.invariant here

pub returns : goal.returns
returns g c = λ u k d low. c.channels.invariant k d (omega arith) (omega arith)
