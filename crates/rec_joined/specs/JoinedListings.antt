-- What is listed of a recording that is joined with others, or why nothing is.
use Rattle.std.specs.Prelude.{ℕ, ◌≡◌, ◌+◌, List, ◌++◌, ⊤, false, None, Ok, Err, Some}
use Rattle.std.specs.List.{AllByRecursion}
use Rattle.rec_reader.specs.Packets.{PacketData, packets_len}
use Rattle.rec_reader.specs.Reading.{Reads}
use Rattle.rec_reader.specs.Readers.{Tells}
use Rattle.rec_pieces.specs.declared.listing.PieceListing.{PieceListing}
use Rattle.rec_pieces.specs.PieceListings.{ListsPackets}
use Rattle.rec_joined.specs.declared.listing.JoinEnd.{JoinEnd}
use Rattle.rec_joined.specs.declared.listing.JoinEnd.TheVariants.{Reading, Packet, Long, Memory}
use Rattle.rec_joined.specs.Moving.{Moving}
use Rattle.rec_joined.specs.MovedPackets.{IsNotMoved, IsPlaced, is_left_out}
use Rattle.rec_joined.specs.JoinedPackets.{moved_packets}

-- the recording is read to its end, each of its packets is moved or left out, and behind those that
-- were listed before they are listed; what follows them stands at `end`
pub record ListsMoved (moving : Moving) (start : ℕ) (recording : List ℕ) (before : List PacketData)
    (listing : PieceListing) (end : ℕ) : Type 0 where
  pub packets : List PacketData
  pub reads : Reads recording packets None
  pub movable : AllByRecursion (IsPlaced moving) packets
  pub ends : end ≡ start + packets_len packets
  pub lists : ListsPackets (before ++ moved_packets moving start packets) listing

-- why it isn't: it isn't read to its end; or a packet isn't moved, behind others that are or are
-- left out
abbrev pub FailsMoved : Moving → (recording : List ℕ) → JoinEnd → Type 0
FailsMoved moving recording (Reading end) =
    (packets : List PacketData) × Tells recording packets (Err end)
FailsMoved moving recording (Packet fault at) =
    (packets : List PacketData) × (packet : PacketData) × AllByRecursion (IsPlaced moving) packets
    × Tells recording packets (Ok (Some packet)) × (at ≡ packet.at)
    × (is_left_out moving packet ≡ false)
    × IsNotMoved moving packet fault
FailsMoved moving recording Long = ⊤
FailsMoved moving recording Memory = ⊤
