use Rattle.std.proofs.Common.{List, ℕ, ◌++◌, refl, ap}
use Rattle.pcapng_blocks.proofs.BlockParts.{first_fails, second_fails}
use Rattle.pcapng_blocks.proofs.output.write_padded.Goals as goal

pub returns-in_err-write_bytes-clause-part : goal.returns-in_err-write_bytes-clause-part
returns-in_err-write_bytes-clause-part g c = first_fails _ _ _ _ _ _ refl c.in_err-write_bytes.ensures.part

pub returns-clause-part : goal.returns-clause-part
returns-clause-part g c =
    second_fails _ _ _ _ _ _ _ (ap (λ (l : List ℕ). c.args.bytes.now ++ l) c.padding.ensures) c.in_ok-write_bytes.ensures.whole c.write_bytes-2.ensures.part
