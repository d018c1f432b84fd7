use Rattle.std.proofs.Common.{take}
use Rattle.rec_whole.specs.NamedChannels.{AreNamed}
use Rattle.rec_whole.proofs.channels.setup_channels.Given as goal

-- the channels so far are named
abbrev pub invariant-channels : goal.invariant-channels
invariant-channels l = AreNamed l.names (take l.k l.ids) l.channels.items
