use Rattle.ch11_packet.proofs.Sending.{second_part, third_part}
use Rattle.ch11_packet.proofs.output.write_parts.Goals as goal

pub returns-in-Err-write_bytes-clause-part : goal.returns-in-Err-write_bytes-clause-part
returns-in-Err-write_bytes-clause-part g c =
    second_part _ _ _ _ _ _ _ c.in-Ok.ensures.whole c.in-Err-write_bytes.ensures.part.1 c.in-Err-write_bytes.ensures.part.0

pub returns-in-Err-write_bytes-2-clause-part : goal.returns-in-Err-write_bytes-2-clause-part
returns-in-Err-write_bytes-2-clause-part g c =
    third_part _ _ _ _ _ _ _ _ c.in-Ok.ensures.whole c.in-Ok-write_bytes.ensures.whole c.in-Err-write_bytes-2.ensures.part.1
    c.in-Err-write_bytes-2.ensures.part.0
