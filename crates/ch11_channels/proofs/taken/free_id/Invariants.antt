use Rattle.std.proofs.Common.{ℕ, ◌≡◌, ◌≤◌, ◌<◌, true, false, get_or}
use Rattle.ch11_channels.proofs.taken.free_id.Given as goal

-- all channel IDs so far are taken
abbrev pub invariant-ids : goal.invariant-ids
invariant-ids l = (other : ℕ) → 1 ≤ other → other < l.id → get_or l.taken other false ≡ true
