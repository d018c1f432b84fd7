use Rattle.std.proofs.Common.{◌≡◌, drop}
use Rattle.rec_whole.specs.NamedChannels.{name_of}
use Rattle.rec_whole.proofs.channels.named.Given as goal

-- none of the names so far has the ID
abbrev pub invariant-names : goal.invariant-names
invariant-names l = name_of (drop l.channel-index l.names) l.id ≡ name_of l.names l.id
