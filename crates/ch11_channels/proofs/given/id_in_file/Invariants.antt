use Rattle.std.proofs.Common.{◌≡◌, drop}
use Rattle.std.specs.List.{find}
use Rattle.ch11_channels.specs.GivenIds.{is_owned_by}
use Rattle.ch11_channels.proofs.given.id_in_file.Given as goal

-- the channels so far are others
abbrev pub invariant-channels : goal.invariant-channels
invariant-channels l = find (is_owned_by l.of) (drop l.channel-index l.channels) ≡ find (is_owned_by l.of) l.channels
