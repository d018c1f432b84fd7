use Rattle.std.proofs.Common.{refl, sym}
use Rattle.rec_reader.specs.Views.{packet_data, said_data}
use Rattle.rec_reader.proofs.AuditorStanding.{takes_said, takes_other}
use Rattle.rec_reader.proofs.audits.auditor.Auditor.judge.Goals as goal

pub returns-in-Some-clause-takes : goal.returns-in-Some-clause-takes
returns-in-Some-clause-takes c =
    takes_said c.args.self.now (record c.args.self.now { channels = c.take_said.new.channels }) (packet_data c.args.packet.now) c.in-Some.channel
    (said_data c.in-Some.said) c.take_said.result (sym c.in-Some.ensures) refl
    c.take_said.ensures.judged c.take_said.ensures.set

pub returns-in-None-clause-takes : goal.returns-in-None-clause-takes
returns-in-None-clause-takes c =
    takes_other c.args.self.now (record c.args.self.now { other = c.saturating_add-self.result }) (packet_data c.args.packet.now) (sym c.in-None.ensures)
    c.saturating_add-self.ensures refl
