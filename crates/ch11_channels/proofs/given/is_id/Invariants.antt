use Rattle.std.proofs.Common.{◌≡◌, drop}
use Rattle.ch11_channels.specs.GivenIds.{is_id_of}
use Rattle.ch11_channels.proofs.given.is_id.Given as goal

-- the channels so far have other IDs
abbrev pub invariant-channels : goal.invariant-channels
invariant-channels l = is_id_of l.channels l.id ≡ is_id_of (drop l.channel-index l.channels) l.id
