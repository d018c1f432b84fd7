-- Packets one after the other.
use Rattle.std.proofs.Common.{◌≡◌, ℕ, ◌+◌, ◌<◌, ◌≤◌, List, [], ◌∷◌, ◌++◌, length, refl, sym, ap, subst, ◌∙◌, arith}
use Rattle.std.proofs.lemmas.List.{length-append, map-append}
use Rattle.rec_reader.specs.declared.packet.Packet.{Packet}
use Rattle.rec_reader.specs.Packets.{PacketData, PacketStandsFirst, HasPacket, Takes, BeginsPackets, packets_len}
use Rattle.rec_reader.specs.Reading.{GoesOn}
use Rattle.rec_reader.specs.Views.{packet_data, packets_data}

pub length-first : (at : ℕ) (packet : PacketData) (bytes more : List ℕ) → PacketStandsFirst at packet bytes more
    → length bytes ≡ packet.header.packet_len + length more
length-first at packet bytes more first =
    ap length first.whole ∙ length-append first.spelling more ∙ ap (λ n. n + length more) first.spelled.long

-- a packet isn't empty
pub shorter : (at : ℕ) (packet : PacketData) (bytes more : List ℕ) → PacketStandsFirst at packet bytes more → length more < length bytes
shorter at packet bytes more first =
    let holds = first.spelled.is_header.lengths.holds in
    omega (arith, length-first at packet bytes more first)

pub length-Begins : (at : ℕ) (packets : List PacketData) (bytes rest : List ℕ) → BeginsPackets at packets bytes rest
    → length bytes ≡ packets_len packets + length rest
length-Begins at [] bytes rest begins = let e = ap length begins in omega arith
length-Begins at (p ∷ ps) bytes rest begins =
    omega (arith, length-first at p bytes begins.0 begins.1, length-Begins (at + p.header.packet_len) ps begins.0 rest begins.2)

-- a further packet at the end
pub Begins-snoc : (at : ℕ) (packets : List PacketData) (packet : PacketData) (bytes rest more : List ℕ) → BeginsPackets at packets bytes rest
    → PacketStandsFirst (at + packets_len packets) packet rest more
    → BeginsPackets at (packets ++ packet ∷ []) bytes more
Begins-snoc at [] packet bytes rest more begins first = (
  more,
  subst (λ n. PacketStandsFirst n packet bytes more) (let e : at + 0 ≡ at = omega arith in
      e) (subst (λ l. PacketStandsFirst (at + 0) packet l more) (sym begins) first),
  refl,
)
Begins-snoc at (p ∷ ps) packet bytes rest more begins first =
    let place : at + (p.header.packet_len + packets_len ps) ≡ at + p.header.packet_len + packets_len ps = omega arith in (
      begins.0,
      begins.1,
      Begins-snoc (at + p.header.packet_len) ps packet begins.0 rest more begins.2
          (subst (λ n. PacketStandsFirst n packet rest more) place first),
    )

-- ---- what the loop takes

pub place_is : (packets : List PacketData) (bytes rest : List ℕ) (at : ℕ) → BeginsPackets 0 packets bytes rest → at + length rest ≡ length bytes
    → at ≡ packets_len packets
place_is packets bytes rest at begins is = omega (arith, length-Begins 0 packets bytes rest begins)

place_first : (packets : List PacketData) (bytes rest : List ℕ) (at : ℕ) → BeginsPackets 0 packets bytes rest → at + length rest ≡ length bytes
    → at ≡ 0 + packets_len packets
place_first packets bytes rest at begins is = omega (arith, length-Begins 0 packets bytes rest begins)

pub takes_on : (before after : List PacketData) (bytes rest more : List ℕ) (at : ℕ) → BeginsPackets 0 before bytes rest → at + length rest ≡ length bytes
    → Takes at rest more before after → BeginsPackets 0 after bytes more
takes_on before after bytes rest more at begins place takes =
    subst (λ ps. BeginsPackets 0 ps bytes more) (sym takes.2)
    (Begins-snoc 0 before takes.0 bytes rest more begins (subst (λ n. PacketStandsFirst n takes.0 rest more) (place_first before bytes rest at begins place)
    takes.1))

pub goes_on : (packets : List PacketData) (bytes rest : List ℕ) (at : ℕ) → BeginsPackets 0 packets bytes rest → at + length rest ≡ length bytes
    → HasPacket at rest → GoesOn bytes packets
goes_on packets bytes rest at begins place has = (
  has.0,
  has.1,
  Begins-snoc 0 packets has.0 bytes rest has.1 begins
      (subst (λ n. PacketStandsFirst n has.0 rest has.1) (place_first packets bytes rest at begins place) has.2),
)

pub pushed : (packets : List Packet) (packet : Packet) → packets_data (packets ++ packet ∷ []) ≡ packets_data packets ++ packet_data packet ∷ []
pushed packets packet = map-append packet_data packets (packet ∷ [])

pub rest_within : (packets : List PacketData) (bytes rest : List ℕ) → BeginsPackets 0 packets bytes rest → length rest ≤ length bytes
rest_within packets bytes rest begins = omega (arith, length-Begins 0 packets bytes rest begins)

-- ---- at a fault, where the packets stay

pub stays_on : (packets others : List Packet) (bytes rest : List ℕ) (at : ℕ) → others ≡ packets → BeginsPackets 0 (packets_data packets) bytes rest
    → at + length rest ≡ length bytes → HasPacket at rest
    → GoesOn bytes (packets_data others)
stays_on packets others bytes rest at same begins place has =
    subst (λ ps. GoesOn bytes (packets_data ps)) (sym same) (goes_on (packets_data packets) bytes rest at begins place has)

pub stays_at : (packets others : List Packet) (bytes rest : List ℕ) (at : ℕ) → others ≡ packets → BeginsPackets 0 (packets_data packets) bytes rest
    → at + length rest ≡ length bytes
    → at ≡ packets_len (packets_data others)
stays_at packets others bytes rest at same begins place =
    place_is (packets_data packets) bytes rest at begins place ∙ ap (λ ps. packets_len (packets_data ps)) (sym same)
