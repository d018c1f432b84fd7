use Rattle.std.proofs.Common.{◌+◌}
use Rattle.pcapng_blocks.proofs.BlockParts.{first_bytes, more_taken, none_taken}
use Rattle.pcapng_blocks.proofs.output.write_bytes.Goals as goal

pub returns-in-Ok-eq0-clause-part : goal.returns-in-Ok-eq0-clause-part
returns-in-Ok-eq0-clause-part g c =
    first_bytes _ _ _ (c.writes.at + c.in-Ok-eq0.field-0)
    (more_taken _ _ _ _ c.writes.at c.in-Ok-eq0.field-0 c.writes.invariant.1 c.in-Ok-eq0.ensures.bytes c.in-Ok-eq0.ensures.bound)

pub returns-in-Err-clause-part : goal.returns-in-Err-clause-part
returns-in-Err-clause-part g c = none_taken _ _ _ _ c.writes.at c.writes.invariant.1 c.in-Err.ensures.bytes
