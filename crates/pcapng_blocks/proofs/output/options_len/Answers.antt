use Rattle.std.proofs.Common.{arith}
use Rattle.pcapng_blocks.proofs.BlockParts.{option_room}
use Rattle.pcapng_blocks.proofs.output.options_len.Goals as goal

pub padded_len-requires : goal.padded_len-requires
padded_len-requires c =
    let room = option_room c.args.options.now c.options.option-index _ c.value_len.result c.options-test.true c.value_len.ensures c.requires in
    omega (arith, room)

pub overflow_add-len : goal.overflow_add-len
overflow_add-len c =
    let room = option_room c.args.options.now c.options.option-index _ c.value_len.result c.options-test.true c.value_len.ensures c.requires in
    let its = c.padded_len.ensures in
    omega (arith, room, its)

pub overflow_add-len-in-options : goal.overflow_add-len-in-options
overflow_add-len-in-options c =
    let room = option_room c.args.options.now c.options.option-index _ c.value_len.result c.options-test.true c.value_len.ensures c.requires in
    let its = c.padded_len.ensures in
    let had = c.options.invariant in
    omega (arith, room, its, had)
