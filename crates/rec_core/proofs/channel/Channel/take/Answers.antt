use Rattle.std.proofs.Common.{◌∙◌}
use Rattle.eth_frame.specs.Views.{frame_data}
use Rattle.rec_lane.specs.Views.{pieces_data}
use Rattle.rec_core.specs.Views.{channel_parts}
use Rattle.rec_core.proofs.EventsServed.{take_offers}
use Rattle.rec_core.proofs.channel.Channel.take.Goals as goal

pub returns-clause-answers : goal.returns-clause-answers
returns-clause-answers c = λ size channel.
    take_offers size channel (channel_parts c.args.self.now) c.in-Some.lane c.offer.new.lane c.offer.new.slot (pieces_data c.offer.new.pending.items)
    (frame_data c.args.frame.now) c.offer.result
    c.in-Some.is (λ full. c.if-offered-self.false (c.offered.ensures.offered ∙ full)) c.offer.ensures.took c.offer.ensures.refused
