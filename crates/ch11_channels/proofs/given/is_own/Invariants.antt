use Rattle.std.proofs.Common.{◌≡◌, drop}
use Rattle.std.specs.List.{list_any}
use Rattle.ch11_channels.specs.GivenIds.{was_own}
use Rattle.ch11_channels.proofs.given.is_own.Given as goal

-- the channels so far have other IDs in their recordings
abbrev pub invariant-channels : goal.invariant-channels
invariant-channels l = list_any (was_own l.id) l.channels ≡ list_any (was_own l.id) (drop l.channel-index l.channels)
