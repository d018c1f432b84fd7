use Rattle.ch11_packet.specs.Profiles.Profile.{WithoutSum}
use Rattle.std.proofs.Common.{[]}
use Rattle.rec_theorem.proofs.OldPieces.{reads_old, become_new, each_is_old}
use Rattle.rec_theorem.proofs.PacketReadings.{packets_after}
use Rattle.rec_theorem.proofs.upgraded.an_old_recording_becomes_a_new_one.Goals as goal

pub returns-clause-read : goal.returns-clause-read
returns-clause-read c = λ version pieces small all. (packets_after WithoutSum version 0 [] pieces, reads_old version pieces small all)

pub returns-clause-upgrade : goal.returns-clause-upgrade
returns-clause-upgrade c = become_new c.bytes_have_one_reading.ensures.one

pub returns-clause-each : goal.returns-clause-each
returns-clause-each c = each_is_old c.bytes_have_one_reading.ensures.one
