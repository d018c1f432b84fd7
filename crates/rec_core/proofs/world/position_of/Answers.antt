use Rattle.std.proofs.Common.{◌≢◌, Some, get_or, arith, below_more, sym, ◌∙◌, ap}
use Rattle.std.proofs.lemmas.Option.{get_or_from_slice_get}
use Rattle.rec_core.specs.Worlds.{channels_of_parts}
use Rattle.rec_core.specs.Views.{all_parts}
use Rattle.rec_core.proofs.Openings.{id_at, ids_len, none_is}
use Rattle.rec_core.proofs.world.position_of.Goals as goal

pub returns-then-channels-at-clause-found : goal.returns-then-channels-at-clause-found
returns-then-channels-at-clause-found c = id_at c.args.channels.now c.channels.at c.index-channels-at.result (omega arith)
    ∙ ap (λ n. Some n) c.if-channels-at.true

pub channels-preserved : goal.channels-preserved
channels-preserved c =
    let channels = c.args.channels.now in
    let ids = channels_of_parts (all_parts channels) in
    below_more (λ j. get_or ids j 0 ≢ c.args.channel) c.channels.at c.channels.invariant (λ e. c.if-channels-at.false
    (sym (get_or_from_slice_get ids c.channels.at (get_or channels c.channels.at c.index-channels-at.result).spec.channel 0
    (id_at channels c.channels.at c.index-channels-at.result (omega arith))) ∙ e))

pub returns-clause-none : goal.returns-clause-none
returns-clause-none c =
    let channels = c.args.channels.now in
    none_is (channels_of_parts (all_parts channels)) c.args.channel c.channels.at (let e = ids_len channels in let f = c.channels-test.false in
    omega (arith, e, f)) c.channels.invariant
