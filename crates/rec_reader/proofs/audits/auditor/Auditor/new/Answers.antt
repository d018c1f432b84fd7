use Rattle.std.proofs.Common.{refl}
use Rattle.rec_reader.proofs.Walking.{none_pass}
use Rattle.rec_reader.proofs.AuditorStanding.{no_channels}
use Rattle.rec_reader.proofs.audits.auditor.Auditor.new.Goals as goal

pub returns-clause-stands : goal.returns-clause-stands
returns-clause-stands c = record { passed = none_pass; taken = refl; other = refl; channels = no_channels c.new.result c.new.ensures.empty }
