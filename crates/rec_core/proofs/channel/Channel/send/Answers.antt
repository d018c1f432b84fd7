use Rattle.std.proofs.Common.{ap}
use Rattle.rec_lane.specs.Views.{piece_data, pieces_data}
use Rattle.rec_core.specs.Views.{channel_parts}
use Rattle.rec_core.proofs.EventsServed.{not_full, send_sends}
use Rattle.rec_core.proofs.channel.Channel.send.Goals as goal

pub returns-clause-answers : goal.returns-clause-answers
returns-clause-answers c = λ size channel.
    let parts = channel_parts c.args.self.now in
    send_sends size channel parts c.push.new.self (piece_data c.in-Some.piece) (pieces_data c.pop_front.new.self.items) c.of-which.result
    (ap pieces_data c.in-Some.ensures.items) (not_full c.is_full.result _ _ c.is_full.ensures c.if-is_full.false) c.push.ensures c.of-which.ensures
