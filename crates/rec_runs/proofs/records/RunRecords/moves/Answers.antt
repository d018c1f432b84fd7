use Rattle.std.proofs.Common.{map, ◌++◌, ◌∙◌, ap}
use Rattle.rec_runs.proofs.MovesListed.{entry_moves, all_moves, one_more_listed, all_listed}
use Rattle.rec_runs.proofs.records.RunRecords.moves.Goals as goal

pub channels-init : goal.channels-init
channels-init c =
    ap (λ l. l ++ map entry_moves c.into_iter-channel-iterator.result) c.new-moves.ensures.items
    ∙ ap (map entry_moves) c.into_iter-channel-iterator.ensures.into_iter_gives.0

pub channels-preserved : goal.channels-preserved
channels-preserved c =
    ap (λ l. l ++ map entry_moves c.next.new.self) c.in_ok-push.ensures.items
    ∙ one_more_listed c.channels.moves.items (c.in-Some.channel.now, c.in-Some.run'.now) c.channels.channel-iterator c.next.new.self
    c.args.self.now.channels.entries c.moves.result c.channels.invariant c.in-Some.ensures.steps c.moves.ensures

pub returns : goal.returns
returns c =
    all_moves c.args.self.now c.channels.moves.items
    (all_listed c.channels.moves.items c.channels.channel-iterator c.args.self.now.channels.entries c.channels.invariant c.in-None.ensures.steps.0)
    c.into_iter-channel-iterator.ensures.into_iter_gives.5
