use Rattle.std.proofs.Common.{◌≡◌}
use Rattle.rec_stream.specs.StreamChannels.{said_below}
use Rattle.rec_stream.proofs.channels.said_ids.Given as goal

-- the IDs so far
abbrev pub invariant-ids : goal.invariant-ids
invariant-ids l = l.ids.items ≡ said_below l.channels l.at
