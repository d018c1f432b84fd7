use Rattle.std.proofs.Common.{subst}
use Rattle.cli_reading.specs.Written.{GivesNext}
use Rattle.cli_reading.proofs.reading.packet_again.Goals as goal

pub returns-in-Ok-Some : goal.returns-in-Ok-Some
returns-in-Ok-Some g c =
    record {
      gives = subst (λ taken. GivesNext taken c.args.reader.now c.next_packet.new.reader) c.in-Ok-Some.field-0-is c.in-Ok-Some.ensures.gives;
    }
