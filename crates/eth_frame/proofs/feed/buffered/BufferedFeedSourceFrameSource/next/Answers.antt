use Rattle.std.proofs.Common.{inr}
use Rattle.eth_frame.proofs.Lefts.{Gives-frame, Gives-time, Gives-end, Gives-fault}
use Rattle.eth_frame.proofs.TimedLefts.{Gives-given, Fails-given}
use Rattle.eth_frame.proofs.feed.buffered.BufferedFeedSourceFrameSource.next.Goals as goal

pub returns-clause-frame : goal.returns-clause-frame
returns-clause-frame g c = λ framed.
    let took = c.take_buffered-answer.ensures in
    Gives-frame _ _ _ _ framed (Gives-given _ _ _ _ _ _ _ c.in_default.is c.of-self.ensures.ending took.time took.unmarked took.record)

pub returns-clause-time : goal.returns-clause-time
returns-clause-time g c = λ counter is.
    let took = c.take_buffered-answer.ensures in
    Gives-time _ _ c.take_buffered-answer.new.buffer _ counter is
    (Gives-given _ _ _ _ _ _ _ c.in_default.is c.of-self.ensures.ending took.time took.unmarked took.record)

pub returns-clause-end : goal.returns-clause-end
returns-clause-end g c = λ ended.
    let took = c.take_buffered-answer.ensures in
    Gives-end _ _ c.take_buffered-answer.new.buffer _ ended
    (Gives-given _ _ _ _ _ _ _ c.in_default.is c.of-self.ensures.ending took.time took.unmarked took.record)

pub returns-clause-fault : goal.returns-clause-fault
returns-clause-fault g c =
    let took = c.take_buffered-answer.ensures in
    Gives-fault _ _ c.take_buffered-answer.new.buffer _
    (Gives-given _ _ _ _ _ _ _ c.in_default.is c.of-self.ensures.ending took.time took.unmarked took.record)

pub returns-clause-failed : goal.returns-clause-failed
returns-clause-failed g c = λ device. inr (Fails-given _ _ _ (g.R.Read.remaining c.args.self.now.reader)
    (g.R.Read.remaining c.take_buffered-answer.new.reader) _ c.in_default.is c.of-self.ensures.ending device)
