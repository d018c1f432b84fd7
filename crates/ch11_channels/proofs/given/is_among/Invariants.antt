use Rattle.std.proofs.Common.{◌≡◌, drop}
use Rattle.std.specs.List.{list_any}
use Rattle.ch11_channels.specs.GivenIds.{is_owned_by}
use Rattle.ch11_channels.proofs.given.is_among.Given as goal

-- the channels so far are others
abbrev pub invariant-channels : goal.invariant-channels
invariant-channels l = list_any (is_owned_by l.of) l.channels ≡ list_any (is_owned_by l.of) (drop l.channel-index l.channels)
