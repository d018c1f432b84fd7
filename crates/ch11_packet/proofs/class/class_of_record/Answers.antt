use Rattle.ch11_packet.proofs.Classing.{program_holds}
use Rattle.ch11_packet.proofs.class.class_of_record.Goals as goal

pub returns-in-Program : goal.returns-in-Program
returns-in-Program c = λ header bytes says spells.
    program_holds header bytes c.args.found c.in-Program.program c.in-Program.is says spells
