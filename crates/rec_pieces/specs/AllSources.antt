-- What is left of all channels of a listing, before anything is taken.
use Rattle.std.specs.Prelude.{ℕ, List, Option}
use Rattle.ch11_merge.specs.Merging.{FilePiece, ChannelLeft, channel_with}
use Rattle.rec_pieces.specs.Entries.{PacketPlaces}
use Rattle.rec_pieces.specs.Sources.{SourceState, pieces_to_come}
use Rattle.rec_pieces.specs.declared.listing.PieceListing.{PieceListing}
use Rattle.rec_pieces.specs.PieceListings.{listed_entries}

-- what a source says is left
abbrev pub source_left : SourceState → Option (List FilePiece)
source_left source = source.left

-- a channel with all its pieces, as they are read
abbrev pub left_of : PacketPlaces → PieceListing → (channel : ℕ) → ChannelLeft
left_of places listing channel =
    channel_with channel (pieces_to_come (listed_entries listing channel) 0 places)
