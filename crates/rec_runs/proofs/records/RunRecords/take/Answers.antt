use Rattle.std.proofs.Common.{sym}
use Rattle.rec_reader.specs.Views.{packet_data}
use Rattle.rec_runs.specs.ToldData.{told_data}
use Rattle.rec_runs.proofs.RunsStanding.{if_taken, takes_told, takes_none}
use Rattle.rec_runs.proofs.records.RunRecords.take.Goals as goal

pub returns-in-Some-clause-taken : goal.returns-in-Some-clause-taken
returns-in-Some-clause-taken c =
    if_taken c.take_told.result
    (takes_told c.args.self.now (record c.args.self.now { channels = c.take_told.new.channels }) (packet_data c.args.packet.now) c.in-Some.channel
    (told_data c.in-Some.told) (sym c.in-Some.ensures))
    c.take_told.ensures.set

pub returns-in-None-clause-taken : goal.returns-in-None-clause-taken
returns-in-None-clause-taken c = takes_none c.args.self.now (packet_data c.args.packet.now) (sym c.in-None.ensures)
