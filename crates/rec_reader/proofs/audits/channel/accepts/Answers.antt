use Rattle.std.proofs.Common.{refl}
use Rattle.eth_frame.specs.Views.{frame_data}
use Rattle.ch11_packet.specs.Views.{read_frame_data}
use Rattle.rec_reader.proofs.Accepting.{accepts_is}
use Rattle.rec_reader.proofs.audits.channel.accepts.Goals as goal

pub returns-in-Some : goal.returns-in-Some
returns-in-Some c =
    accepts_is c.runs_once.ensures.one_run c.args.program.now (read_frame_data c.args.read.now) (frame_data c.in-Some.frame) c.run_on.result.steps
    c.run_on.result.value
    c.insns.ensures.valid (c.in-Some.ensures.whole.0 refl) c.in-Some.ensures.parts c.run_on.ensures
