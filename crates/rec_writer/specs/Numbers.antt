-- The sequence numbers of the packets to come, for each channel ID.
use Rattle.std.specs.Prelude.{ℕ, ◌≡◌, ◌≢◌, ◌+◌, ◌%◌, List, ◌∷◌, map, get_or, slice_set, All}
use Rattle.std.specs.Prelude.{AllPairs}
use Rattle.rec_lane.specs.Pieces.{PieceData}
use Rattle.rec_writer.specs.Encoding.{next_sequence}
use Rattle.rec_writer.specs.declared.numbers.Numbered.{Numbered}

-- the channel IDs
abbrev pub numbered_channels : List Numbered → List ℕ
numbered_channels numbers = map (λ (n : Numbered). n.channel) numbers

-- each number is that of the next packet with its channel ID, after these pieces
abbrev pub AreNext : List PieceData → List Numbered → Type 0
AreNext pieces numbers =
    All (λ (n : Numbered). n.next ≡ next_sequence pieces n.channel) numbers

-- no channel ID stands twice
abbrev pub AreDistinctChannels : List ℕ → Type 0
AreDistinctChannels channels = AllPairs (λ (one other : ℕ). one ≢ other) channels

-- the numbers before any piece: those of records, and of these channels
abbrev pub fresh_numbers : List ℕ → List Numbered
fresh_numbers channels =
    map (λ (channel : ℕ). record { channel = channel; next = 0 }) (0 ∷ channels)

-- the number that stands at an index
abbrev pub number_at : List Numbered → ℕ → Numbered
number_at numbers at = get_or numbers at (record { channel = 0; next = 0 })

-- the numbers after a packet with the channel ID that stands there
abbrev pub with_packet : List Numbered → ℕ → List Numbered
with_packet numbers at =
    let number = number_at numbers at in
    slice_set numbers at
    (record { channel = number.channel; next = (number.next + 1) % 256 })
