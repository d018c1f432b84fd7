use Rattle.std.proofs.Common.{◌≡◌}
use Rattle.rec_pieces.specs.PieceListings.{listed_below}
use Rattle.rec_pieces.proofs.listing.PieceListing.channels.Given as goal

-- the channels so far
abbrev pub invariant-channels : goal.invariant-channels
invariant-channels l = l.channels.items ≡ listed_below l.self l.id
