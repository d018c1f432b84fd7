use Rattle.ch11_packet.specs.Views.{read_frame_data}
use Rattle.rec_reader.proofs.Accepting.{one_more_accepted, all_accepted}
use Rattle.rec_reader.proofs.audits.channel.first_refused.Goals as goal

pub frames-preserved : goal.frames-preserved
frames-preserved c =
    let is = c.frames.invariant in
    one_more_accepted c.args.program.now c.args.frames.now is.0 c.frames.frame-iterator c.next.new.self (read_frame_data c.in-Some.frame) c.frames.number is.1
    c.in-Some.ensures.steps is.2 is.3
    (c.accepts.ensures.0 c.if-not-accepts.false) is.4

pub returns : goal.returns
returns c =
    let is = c.frames.invariant in
    all_accepted c.args.program.now c.args.frames.now is.0 c.frames.frame-iterator is.1 c.in-None.ensures.steps.0 is.3
