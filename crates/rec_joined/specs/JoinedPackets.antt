-- Several recordings as one: their packets one behind the other, moved to the clock and to the
-- channels of one file.
use Rattle.std.specs.Prelude.{ℕ, ◌≡◌, ◌+◌, ◌-◌, nat_lt, if◌then◌else◌, List, [], ◌∷◌, ◌++◌, Option}
use Rattle.std.specs.Prelude.{None, Some}
use Rattle.std.specs.List.{AllByRecursion}
use Rattle.ch11_packet.specs.Header.{header_of}
use Rattle.rec_reader.specs.Packets.{PacketData, packets_len}
use Rattle.rec_reader.specs.Reading.{Reads}
use Rattle.rec_pieces.specs.Entries.{AreThere, PacketThere, PacketPlaces}
use Rattle.rec_joined.specs.Moving.{Moving, moving_of}
use Rattle.rec_joined.specs.MovedRecords.{still_records}
use Rattle.rec_joined.specs.MovedPackets.{IsPlaced, is_left_out, listed_packet, moved_packet}
use Rattle.rec_joined.specs.MovedPackets.{moved_there}
use Rattle.rec_pieces.specs.PieceListings.{ListsPackets}
use Rattle.rec_joined.specs.declared.joined.Joined.{Joined}
use Rattle.rec_joined.specs.declared.joined.Part.{Part}

-- a packet at this place of the joined recording, unless it is left out
abbrev pub placed_packet : Moving → (at : ℕ) → PacketData → List PacketData
placed_packet moving at packet =
    if is_left_out moving packet then [] else listed_packet moving at packet ∷ []

-- packets of a recording, of which the first stands at this place of the joined one
abbrev pub moved_packets : Moving → (start : ℕ) → List PacketData → List PacketData
moved_packets moving start [] = []
moved_packets moving start (packet ∷ packets) =
    placed_packet moving start packet
    ++ moved_packets moving (start + packet.header.packet_len) packets

-- those of several recordings
abbrev pub joined_packets : {P : Type 0} → List (Part P) → List (List PacketData) → List PacketData
joined_packets (part ∷ parts) (packets ∷ more) =
    moved_packets (moving_of part.moves) part.start packets ++ joined_packets parts more
joined_packets parts more = []

-- ---- what they tell

-- a packet at this place as it is written, unless it is left out
abbrev pub told_packet : Moving → (at : ℕ) → PacketData → List PacketData
told_packet moving at packet =
    if is_left_out moving packet then [] else moved_packet moving at packet ∷ []

-- packets of a recording, and those of several recordings
abbrev pub told_packets : Moving → (start : ℕ) → List PacketData → List PacketData
told_packets moving start [] = []
told_packets moving start (packet ∷ packets) =
    told_packet moving start packet
    ++ told_packets moving (start + packet.header.packet_len) packets

abbrev pub joined_told : {P : Type 0} → List (Part P) → List (List PacketData) → List PacketData
joined_told (part ∷ parts) (packets ∷ more) =
    told_packets (moving_of part.moves) part.start packets ++ joined_told parts more
joined_told parts more = []

-- ---- what is read at a place

-- what is read where nothing stands
abbrev pub nothing_there : PacketThere
nothing_there = record { header = header_of 0 0 0 0 0 0 0 0; held = [] }

-- a place of the first recording that ends behind it
abbrev pub place_in : {P : Type 0} → Part P → (here others : PacketPlaces) → PacketPlaces
place_in part here others at =
    if nat_lt at part.end then moved_there (moving_of part.moves)
    (here (at - part.start)) else others at

abbrev pub both_places : {P : Type 0} → Part P → (here others : Option PacketPlaces)
    → Option PacketPlaces
both_places part (Some here) (Some others) = Some (place_in part here others)
both_places part here others = None

abbrev pub joined_places : {P : Type 0} → (there : P → Option PacketPlaces) → List (Part P)
    → Option PacketPlaces
joined_places there [] = Some (λ at. nothing_there)
joined_places there (part ∷ parts) =
    both_places part (there part.packets) (joined_places there parts)

-- ---- recordings that are joined

-- a recording begins at this place, and has these packets, which are read at their places, and each
-- of which is moved or left out
pub record IsJoinedPart {P : Type 0} (there : P
    → Option PacketPlaces) (start : ℕ) (part : Part P) (packets : List PacketData) : Type 0 where
  pub places : PacketPlaces
  pub known : there part.packets ≡ Some places
  pub read : AreThere places packets
  pub bytes : List ℕ
  pub reads : Reads bytes packets None
  pub movable : AllByRecursion (IsPlaced (moving_of part.moves)) packets
  pub starts : part.start ≡ start
  pub ends : part.end ≡ start + packets_len packets

-- so do several, each of which begins where the one before it ends
abbrev pub AreParts : {P : Type 0} → (there : P → Option PacketPlaces) → (start : ℕ) → List (Part P)
    → List (List PacketData) → Type 0
AreParts there start [] [] = Unit {0}
AreParts there start (part ∷ parts) (packets ∷ more) =
    IsJoinedPart there start part packets × AreParts there part.end parts more
AreParts there start parts more = ⊥

-- where what follows them begins
abbrev pub end_behind : {P : Type 0} → (start : ℕ) → List (Part P) → ℕ
end_behind start [] = start
end_behind start (part ∷ parts) = end_behind part.end parts

-- the records of no recording of them are moved
abbrev pub KeepRecords : {P : Type 0} → List (Part P) → Type 0
KeepRecords parts =
    AllByRecursion (λ (part : Part _). (channel : ℕ)
    → (moving_of part.moves).records channel ≡ still_records) parts

-- they have these packets, which are listed, one recording behind the other
pub record IsJoined {P : Type 0} (there : P
    → Option PacketPlaces) (joined : Joined P) (read : List (List PacketData)) : Type 0 where
  pub parts : AreParts there 0 joined.parts.items read
  pub ends : end_behind 0 joined.parts.items ≡ joined.end
  pub lists : ListsPackets (joined_packets joined.parts.items read) joined.listing

-- a recording was joined behind those that have these packets: it is read to its end, and each
-- packet is moved or left out
pub record JoinsRecording {P : Type 0} (there : P
    → Option PacketPlaces) (read : List (List PacketData)) (recording : List ℕ)
    (moving : Moving) (joined : Joined P) : Type 0 where
  pub own : List PacketData
  pub reads : Reads recording own None
  pub movable : AllByRecursion (IsPlaced moving) own
  pub is_joined : IsJoined there joined (read ++ own ∷ [])
