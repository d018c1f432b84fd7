use Rattle.std.proofs.Common.{get_or, arith}
use Rattle.std.proofs.lemmas.List.{get_or_default}
use Rattle.ch11_channels.specs.declared.channels.RunChannel.{RunChannel}
use Rattle.ch11_channels.proofs.TakenFlags.{none_taken, taken_named}
use Rattle.ch11_channels.proofs.taken.taken_ids.Goals as goal

pub named-init : goal.named-init
named-init c = none_taken c.in_ok-taken.taken.items (c.in_ok-taken.ensures.items_if_clones_equal (λ y is. is))

pub named-preserved : goal.named-preserved
named-preserved c =
    let one : RunChannel = get_or c.args.named.now c.named.of-index (record { run = 0; channel = 0 }) in
    rw c.from.ensures (taken_named c.named.taken.items c.args.named.now c.named.of-index one c.named.invariant c.named-test.true
    (get_or_default c.args.named.now c.named.of-index (record { run = 0; channel = 0 }) one c.named-test.true) (search arith))
