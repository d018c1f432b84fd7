use Rattle.std.proofs.Common.{◌++◌, List, ℕ, length, refl, ap, append_assoc}
use Rattle.std.specs.Int.{w32, to_le_bytes}
use Rattle.pcapng_blocks.specs.Bytes.{padding}
use Rattle.pcapng_blocks.specs.Options.{options_bytes}
use Rattle.pcapng_blocks.specs.Views.{options_data}
use Rattle.pcapng_blocks.proofs.BlockParts.{first_fails, second_fails}
use Rattle.pcapng_blocks.proofs.output.write_parts.Goals as goal

pub returns-in_err-write_bytes-clause-part : goal.returns-in_err-write_bytes-clause-part
returns-in_err-write_bytes-clause-part g c = first_fails _ _ _ _ _ _ refl c.in_err-write_bytes.ensures.part

pub returns-in_err-write_padded-clause-part : goal.returns-in_err-write_padded-clause-part
returns-in_err-write_padded-clause-part g c =
    second_fails _ _ _ _ _ _ _ refl c.in_ok-write_bytes.ensures.whole
    (first_fails _ _ _ _ _ _ (append_assoc c.args.bytes.now (padding (length c.args.bytes.now))
    (options_bytes (options_data c.args.options.now) ++ to_le_bytes w32 c.args.len)) c.in_err-write_padded.ensures.part)

pub returns-in_err-write_options-clause-part : goal.returns-in_err-write_options-clause-part
returns-in_err-write_options-clause-part g c =
    second_fails _ _ _ _ _ _ _ refl c.in_ok-write_bytes.ensures.whole
    (second_fails _ _ _ _ _ _ _ (append_assoc c.args.bytes.now (padding (length c.args.bytes.now))
    (options_bytes (options_data c.args.options.now) ++ to_le_bytes w32 c.args.len)) c.in_ok-write_padded.ensures.whole
    (first_fails _ _ _ _ _ _ refl c.in_err-write_options.ensures.part))

pub returns-clause-part : goal.returns-clause-part
returns-clause-part g c =
    second_fails _ _ _ _ _ _ _ refl c.in_ok-write_bytes.ensures.whole
    (second_fails _ _ _ _ _ _ _ (append_assoc c.args.bytes.now (padding (length c.args.bytes.now))
    (options_bytes (options_data c.args.options.now) ++ to_le_bytes w32 c.args.len)) c.in_ok-write_padded.ensures.whole
    (second_fails _ _ _ _ _ _ _ (ap (λ (l : List ℕ). options_bytes (options_data c.args.options.now) ++ l)
    c.to_le_bytes.ensures) c.in_ok-write_options.ensures.whole c.write_bytes-2.ensures.part))
