use Rattle.std.proofs.Common.{◌≡◌, ◌++◌, [], map, drop}
use Rattle.ch11_channels.specs.GivenIds.{AreTakenIds, HaveIds, each_once, owner}
use Rattle.ch11_channels.proofs.given.file_channels.Given as goal

-- the channels so far have their IDs, which are taken; behind them come those that are still named for the first time
abbrev pub invariant-named : goal.invariant-named
invariant-named l = record {
  each : map owner l.channels.items ++ each_once (map owner l.channels.items) (drop l.of-index l.named) ≡ each_once [] l.named;
  ids : HaveIds l.named [] l.channels.items;
  taken : AreTakenIds l.taken.items l.named l.channels.items;
}
