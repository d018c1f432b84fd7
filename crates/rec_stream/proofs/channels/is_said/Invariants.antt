use Rattle.std.proofs.Common.{◌≡◌, drop}
use Rattle.rec_stream.specs.StreamChannels.{is_said}
use Rattle.rec_stream.proofs.channels.is_said.Given as goal

-- none of the channels so far has the ID
abbrev pub invariant-channels : goal.invariant-channels
invariant-channels l = is_said (drop l.channel-index l.channels) l.id ≡ is_said l.channels l.id
