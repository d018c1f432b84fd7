use Rattle.std.proofs.Common.{ℕ, ◌≡◌, ◌≤◌, ◌<◌, true}
use Rattle.ch11_channels.specs.GivenIds.{is_id_of}
use Rattle.ch11_channels.proofs.given.time_channel.Given as goal

-- all channel IDs so far are channels of the file
abbrev pub invariant-ids : goal.invariant-ids
invariant-ids l = (other : ℕ) → 1 ≤ other → other < l.id → is_id_of l.channels other ≡ true
