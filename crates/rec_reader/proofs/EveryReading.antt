-- All bytes have a reading.
use Rattle.std.proofs.Common.{◌≡◌, ℕ, zero, suc, ◌+◌, ◌-◌, ◌<◌, ◌≤◌, ◌⊎◌, inl, inr, List, [], ◌∷◌, ◌++◌, length}
use Rattle.std.proofs.Common.{take, drop, Option, None, Some, refl, sym, ap, subst, ◌∙◌, arith}
use Rattle.std.proofs.lemmas.Bool.{cases_lt}
use Rattle.std.proofs.lemmas.List.{length-take-le, take-append-drop, nil_from_length, drop_at}
use Rattle.eth_frame.specs.Bytes.{AreBytes}
use Rattle.eth_frame.proofs.Bytes.{AreBytes-drop}
use Rattle.ch11_packet.specs.declared.header.TheConstants.{HEADER_LEN}
use Rattle.ch11_packet.specs.declared.header.HeaderFault.{HeaderFault}
use Rattle.ch11_packet.specs.declared.class.What.{What}
use Rattle.ch11_packet.specs.Header.{HeaderData, IsHeader, HeaderHasFault, header_at, header_bytes}
use Rattle.ch11_packet.specs.declared.class.ClassFault.{ClassFault}
use Rattle.ch11_packet.specs.Classes.{Holds, HasClassFault}
use Rattle.ch11_packet.proofs.Outcomes.{AreBytes-take}
use Rattle.rec_reader.specs.declared.fault.ReadFaultKind.{ReadFaultKind}
use Rattle.rec_reader.specs.declared.fault.ReadFaultKind.TheVariants.{Truncated}
use Rattle.rec_reader.specs.Packets.{PacketData, packet_of, PacketStandsFirst, BeginsPackets}
use Rattle.rec_reader.specs.Reading.{HasHeader, HasReadFault, class_kind, header_kind, EndsReading, Reads}
use Rattle.rec_reader.proofs.Splitting.{bad_header, bad_packet, first_header, first_packet, length-headed}
use Rattle.rec_reader.proofs.Chains.{shorter}

-- what is known of headers and of what packets hold
pub record Known : Type 0 where
  pub header : (bytes : List ℕ) → AreBytes bytes → length bytes ≡ HEADER_LEN
      → (IsHeader (header_at bytes) × (bytes ≡ header_bytes (header_at bytes))) ⊎ ((fault : HeaderFault) × HeaderHasFault bytes fault)
  pub thing : (header : HeaderData) (body : List ℕ) → AreBytes body
      → ((what : What) × Holds header body what) ⊎ ((fault : ClassFault) × HasClassFault header body fault)

-- ---- a packet or a fault

-- a packet stands first, or the bytes have a fault
abbrev Outcome : (at : ℕ) → List ℕ → Type 0
Outcome at bytes = ((packet : PacketData) × (more : List ℕ) × PacketStandsFirst at packet bytes more) ⊎ ((kind : ReadFaultKind) × HasReadFault bytes kind)

with_body : Known → (at : ℕ) (header : HeaderData) (bytes behind : List ℕ) → AreBytes behind → HasHeader header bytes behind → header.packet_len ≤ length bytes
    → Outcome at bytes
with_body known at header bytes behind fit headed whole =
    let len = header.packet_len - HEADER_LEN in
    let body = take len behind in
    let more = drop len behind in
    let fits = headed.is_header.lengths.holds in
    let split : behind ≡ body ++ more = sym (take-append-drop len behind) in
    let long : HEADER_LEN + length body ≡ header.packet_len =
    omega (arith, fits, length-take-le len behind (omega (arith, length-headed header bytes behind headed))) in
    elim (known.thing header body (AreBytes-take len behind fit)) [
      | inl holds ↦ inl (packet_of at header body holds.0, more, first_packet at header bytes behind body more holds.0 headed split long holds.1)
      | inr wrong ↦ inr (class_kind wrong.0, bad_packet header bytes behind body more wrong.0 headed split long wrong.1)
    ]

with_header : Known → (at : ℕ) (header : HeaderData) (bytes behind : List ℕ) → AreBytes behind → HasHeader header bytes behind → Outcome at bytes
with_header known at header bytes behind fit headed =
    elim (cases_lt (length bytes) header.packet_len) [
      | inl few ↦ inr (Truncated, inr (header, behind, headed, few))
      | inr whole ↦ with_body known at header bytes behind fit headed whole
    ]

outcome : Known → (at : ℕ) (bytes : List ℕ) → AreBytes bytes → 0 < length bytes → Outcome at bytes
outcome known at bytes fit some =
    elim (cases_lt (length bytes) HEADER_LEN) [
      | inl few ↦ inr (Truncated, inl (some, few))
      | inr long ↦ (
          let head = take HEADER_LEN bytes in
          elim (known.header head (AreBytes-take HEADER_LEN bytes fit) (length-take-le HEADER_LEN bytes long)) [
            | inl is ↦ with_header known at (header_at head) bytes (drop HEADER_LEN bytes) (AreBytes-drop HEADER_LEN bytes fit)
                (first_header bytes head _ (header_at head) refl refl is.0 is.1)
            | inr wrong ↦ inr (header_kind wrong.0, bad_header bytes head wrong.0 refl long wrong.1)
          ])
    ]

-- ---- packets and an end

-- the bytes from this place on, read to the end
record ReadFrom (at : ℕ) (bytes : List ℕ) : Type 0 where
  packets : List PacketData
  fault : Option ReadFaultKind
  rest : List ℕ
  held : BeginsPackets at packets bytes rest
  ends : EndsReading rest fault

behind_fit : (at : ℕ) (packet : PacketData) (bytes more : List ℕ) → PacketStandsFirst at packet bytes more → AreBytes bytes → AreBytes more
behind_fit at packet bytes more first fit =
    let n = length first.spelling in
    subst AreBytes (ap (drop n) first.whole ∙ drop_at first.spelling more n refl) (AreBytes-drop n bytes fit)

read_on : (at : ℕ) (packet : PacketData) (bytes more : List ℕ) → PacketStandsFirst at packet bytes more → ReadFrom (at + packet.header.packet_len) more
    → ReadFrom at bytes
read_on at packet bytes more first later = record {
  packets = packet ∷ later.packets;
  fault = later.fault;
  rest = later.rest;
  held = (more, first, later.held);
  ends = later.ends;
}

none_left : (at : ℕ) (bytes : List ℕ) → bytes ≡ [] → ReadFrom at bytes
none_left at bytes none = record { packets = []; fault = None; rest = bytes; held = refl; ends = none }

read_from : Known → (most at : ℕ) (bytes : List ℕ) → AreBytes bytes → length bytes ≤ most → ReadFrom at bytes
read_from known zero at bytes fit few = none_left at bytes (nil_from_length bytes (omega arith))
read_from known (suc most) at bytes fit few =
    elim (cases_lt 0 (length bytes)) [
      | inr none ↦ none_left at bytes (nil_from_length bytes (omega arith))
      | inl some ↦ (
          elim (outcome known at bytes fit some) [
            | inl first ↦ read_on at first.0 bytes first.1 first.2
                (read_from known most (at + first.0.header.packet_len) first.1 (behind_fit at first.0 bytes first.1 first.2 fit)
                (omega (arith, shorter at first.0 bytes first.1 first.2)))
            | inr wrong ↦ record { packets = []; fault = Some wrong.0; rest = bytes; held = refl; ends = wrong.1 }
          ])
    ]

pub a_reading : Known → (bytes : List ℕ) → AreBytes bytes → (packets : List PacketData) × (fault : Option ReadFaultKind) × Reads bytes packets fault
a_reading known bytes fit =
    let from = read_from known (length bytes) 0 bytes fit (omega arith) in
    (from.packets, from.fault, record { rest = from.rest; held = from.held; ends = from.ends })
