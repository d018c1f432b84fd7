use Rattle.std.proofs.Common.{List, ℕ, ◌++◌, length, ap}
use Rattle.pcapng_blocks.specs.Bytes.{padding}
use Rattle.pcapng_blocks.proofs.BlockParts.{first_fails, second_fails, head_is}
use Rattle.pcapng_blocks.proofs.output.write_field.Goals as goal

pub returns-in_err-write_bytes-clause-part : goal.returns-in_err-write_bytes-clause-part
returns-in_err-write_bytes-clause-part g c =
    let value = c.args.value.now in
    let padded = value ++ padding (length value) in
    first_fails _ _ _ _ _ padded (ap (λ (l : List ℕ). l ++ padded) (head_is c.to_le_bytes.result c.to_le_bytes-2.result c.args.code (length value)
    c.to_le_bytes.ensures c.to_le_bytes-2.ensures)) c.in_err-write_bytes.ensures.part

pub returns-clause-part : goal.returns-clause-part
returns-clause-part g c =
    let value = c.args.value.now in
    let padded = value ++ padding (length value) in
    second_fails _ _ _ _ _ _ padded (ap (λ (l : List ℕ). l ++ padded) (head_is c.to_le_bytes.result c.to_le_bytes-2.result c.args.code (length value)
    c.to_le_bytes.ensures c.to_le_bytes-2.ensures)) c.in_ok-write_bytes.ensures.whole c.write_padded.ensures.part
