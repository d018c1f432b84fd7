-- A listing of packets.
use Rattle.std.specs.Prelude.{ℕ, ◌≡◌, ◌^◌, Bool, true, false, List, [], ◌∷◌}
use Rattle.std.specs.Ordering.{nat_cmp}
use Rattle.std.specs.BTreeMap.{get}
use Rattle.std.specs.List.{filter, range_with_len}
use Rattle.rec_reader.specs.Packets.{PacketData}
use Rattle.rec_pieces.specs.declared.entry.PieceEntry.{PieceEntry}
use Rattle.rec_pieces.specs.declared.listing.PieceListing.{PieceListing}
use Rattle.rec_pieces.specs.Listings.{entries_held, channel_entries, counters_of, least_of}
use Rattle.rec_pieces.specs.Listings.{other_of}

-- the entries of a channel in it
abbrev pub listed_entries : PieceListing → (channel : ℕ) → List PieceEntry
listed_entries listing channel = entries_held (get nat_cmp listing.channels channel)

-- whether there are some entries
abbrev pub are_some : List PieceEntry → Bool
are_some [] = false
are_some (entry ∷ entries) = true

-- whether it has some of a channel, and the channel IDs below a number of which it has some, the
-- least first
abbrev pub is_listed : PieceListing → (channel : ℕ) → Bool
is_listed listing channel = are_some (listed_entries listing channel)

unfoldable pub listed_below : PieceListing → (end : ℕ) → List ℕ
listed_below listing end = filter (is_listed listing) (range_with_len 0 end)

-- the channels in it
abbrev pub listed_channels : PieceListing → List ℕ
listed_channels listing = listed_below listing (2 ^ 16)

-- whether packets name a channel, and the channels that they name, the least first
abbrev pub is_named : List PacketData → (channel : ℕ) → Bool
is_named packets channel = are_some (channel_entries channel packets)

unfoldable pub named_channels : List PacketData → List ℕ
named_channels packets = filter (is_named packets) (range_with_len 0 (2 ^ 16))

-- it lists these packets
pub record ListsPackets (packets : List PacketData) (listing : PieceListing) : Type 0 where
  pub entries : (channel : ℕ) → listed_entries listing channel ≡ channel_entries channel packets
  pub least : listing.least ≡ least_of (counters_of packets)
  pub other : listing.other ≡ other_of packets
