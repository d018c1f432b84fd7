use Rattle.ch11_packet.specs.Views.{read_frame_data}
use Rattle.ch11_packet.proofs.FirstFrames.{none_left, takes_first, rest_of}
use Rattle.ch11_packet.proofs.frames.decode.first_frame.Goals as goal

pub returns-in_err-frame-clause-none : goal.returns-in_err-frame-clause-none
returns-in_err-frame-clause-none c =
    rw c.from_residual.ensures (none_left c.args.count c.args.bytes.now c.requires c.in_err-frame.ensures.cut)

pub returns-clause-some : goal.returns-clause-some
returns-clause-some c =
    (takes_first c.args.count (read_frame_data c.in_ok-frame.frame) c.args.bytes.now c.in_ok-frame.after.now c.requires c.in_ok-frame.ensures.first).some

pub returns-clause-first : goal.returns-clause-first
returns-clause-first c =
    (takes_first c.args.count (read_frame_data c.in_ok-frame.frame) c.args.bytes.now c.in_ok-frame.after.now c.requires c.in_ok-frame.ensures.first).whole

pub returns-clause-others : goal.returns-clause-others
returns-clause-others c =
    (takes_first c.args.count (read_frame_data c.in_ok-frame.frame) c.args.bytes.now c.in_ok-frame.after.now c.requires c.in_ok-frame.ensures.first).others

pub returns-clause-rest : goal.returns-clause-rest
returns-clause-rest c = rest_of (read_frame_data c.in_ok-frame.frame) c.args.bytes.now c.in_ok-frame.after.now c.in_ok-frame.ensures.first
