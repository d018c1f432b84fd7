use Rattle.std.proofs.Common.{take, []}
use Rattle.ch11_channels.specs.GivenIds.{AreTakenIds}
use Rattle.ch11_channels.proofs.taken.taken_ids.Given as goal

-- the IDs are taken that were named so far
abbrev pub invariant-named : goal.invariant-named
invariant-named l = AreTakenIds l.taken.items (take l.of-index l.named) []
