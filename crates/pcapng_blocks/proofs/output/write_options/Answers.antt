use Rattle.pcapng_blocks.proofs.BlockParts.{option_fails, end_fails}
use Rattle.pcapng_blocks.proofs.output.write_options.Goals as goal

pub returns-in_err-write_option-clause-part : goal.returns-in_err-write_option-clause-part
returns-in_err-write_option-clause-part g c =
    option_fails _ _ _ _ c.args.options.now c.options.option-index _ c.options-test.true c.options.invariant.0 c.in_err-write_option.ensures.part

pub returns-clause-part : goal.returns-clause-part
returns-clause-part g c =
    end_fails _ _ _ _ c.args.options.now c.options.option-index c.options-test.false c.if-is_empty.ensures c.options.invariant.0 c.write_bytes.ensures.part
