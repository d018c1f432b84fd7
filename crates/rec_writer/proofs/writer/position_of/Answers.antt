use Rattle.std.proofs.Common.{◌≢◌, get_or, arith, below_more, sym, ◌∙◌}
use Rattle.std.proofs.lemmas.List.{length-map}
use Rattle.rec_writer.specs.declared.numbers.Numbered.{Numbered}
use Rattle.rec_writer.specs.Numbers.{numbered_channels}
use Rattle.rec_writer.proofs.NumberPlaces.{channel_at, not_contained}
use Rattle.rec_writer.proofs.writer.position_of.Goals as goal

pub numbers-preserved : goal.numbers-preserved
numbers-preserved c = below_more (λ j. get_or (numbered_channels c.args.numbers.now) j 0 ≢ c.args.channel) c.numbers.at c.numbers.invariant
    (λ e. c.if-numbers-at.false (sym (channel_at c.args.numbers.now c.numbers.at) ∙ e))

pub returns-clause-none : goal.returns-clause-none
returns-clause-none c = not_contained (numbered_channels c.args.numbers.now) c.args.channel c.numbers.at
    (let l = length-map c.args.numbers.now (λ (n : Numbered). n.channel) in let e = c.numbers-test.false in omega (arith, l, e)) c.numbers.invariant
