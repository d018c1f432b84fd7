use Rattle.std.proofs.Common.{refl}
use Rattle.ch11_packet.proofs.class.class_of_frames.Goals as goal

pub returns-in-Err : goal.returns-in-Err
returns-in-Err c = λ header says.
    c.class_of_fault.ensures header c.args.bytes.now says ((c.in-Err.ensures.fault c.in-Err.fault).0 refl)
