use Rattle.std.proofs.Common.{ℕ, ◌≡◌, ◌≤◌, ◌<◌, true}
use Rattle.rec_pieces.specs.PieceListings.{is_listed}
use Rattle.rec_whole.proofs.channels.time_channel.Given as goal

-- all channel IDs so far are taken
abbrev pub invariant-ids : goal.invariant-ids
invariant-ids l = (other : ℕ) → 1 ≤ other → other < l.id → is_listed l.listing other ≡ true
