use Rattle.rec_lane.specs.Views.{pieces_data}
use Rattle.rec_core.specs.Views.{channel_parts}
use Rattle.rec_core.proofs.EventsServed.{time_notes}
use Rattle.rec_core.proofs.channel.Channel.meet_time.Goals as goal

pub returns-clause-answers : goal.returns-clause-answers
returns-clause-answers c = λ size channel.
    time_notes size channel (channel_parts c.args.self.now) c.in-Some.lane c.note.new.lane (pieces_data c.note.new.pending.items) c.args.counter c.note.result
    c.in-Some.is c.note.ensures.took c.note.ensures.refused
