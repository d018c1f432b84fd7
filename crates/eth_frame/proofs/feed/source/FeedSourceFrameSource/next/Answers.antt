use Rattle.std.proofs.Common.{inr, refl}
use Rattle.eth_frame.proofs.Lefts.{Gives-taken, Gives-frame, Gives-end, Gives-fault, Fails-device}
use Rattle.eth_frame.proofs.feed.source.FeedSourceFrameSource.next.Goals as goal

pub returns-clause-frame : goal.returns-clause-frame
returns-clause-frame g c = λ framed.
    let took = c.take_record-answer.ensures in
    Gives-frame _ _ _ _ framed (Gives-taken _ _ _ _ _ _ c.in_default.is c.of-self.ensures.ending (took.time refl) took.record)

pub returns-clause-time : goal.returns-clause-time
returns-clause-time g c = λ counter is. absurd (c.take_record-answer.ensures.time refl counter is)

pub returns-clause-end : goal.returns-clause-end
returns-clause-end g c = λ ended.
    let took = c.take_record-answer.ensures in
    Gives-end _ _ c.take_record-answer.new.buffer _ ended
    (Gives-taken _ _ _ _ _ _ c.in_default.is c.of-self.ensures.ending (took.time refl) took.record)

pub returns-clause-fault : goal.returns-clause-fault
returns-clause-fault g c =
    let took = c.take_record-answer.ensures in
    Gives-fault _ _ c.take_record-answer.new.buffer _
    (Gives-taken _ _ _ _ _ _ c.in_default.is c.of-self.ensures.ending (took.time refl) took.record)

pub returns-clause-failed : goal.returns-clause-failed
returns-clause-failed g c = λ device. inr (Fails-device _ _ (g.R.Read.remaining c.args.self.now.reader) (g.R.Read.remaining c.take_record-answer.new.reader) _
    c.in_default.is c.of-self.ensures.ending device)
