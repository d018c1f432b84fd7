use Rattle.std.proofs.Common.{ℕ, ◌≡◌, ◌≤◌, ◌<◌, true}
use Rattle.rec_stream.specs.StreamChannels.{is_said}
use Rattle.rec_stream.proofs.channels.time_channel.Given as goal

-- all channel IDs so far are taken
abbrev pub invariant-ids : goal.invariant-ids
invariant-ids l = (other : ℕ) → 1 ≤ other → other < l.id → is_said l.channels other ≡ true
