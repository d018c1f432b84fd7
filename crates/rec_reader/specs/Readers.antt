-- What a reader of a stream has left, and what it answers.
use Rattle.std.specs.Prelude.{ℕ, ◌≡◌, ◌+◌, ◌^◌, ◌<◌, ◌⊎◌, List, [], ◌∷◌, length, Option, None, Some}
use Rattle.std.specs.Prelude.{IfSome, Result, Ok, Err}
use Rattle.ch11_packet.specs.Header.{HeaderData}
use Rattle.rec_reader.specs.declared.fault.ReadEnd.{ReadEnd}
use Rattle.rec_reader.specs.declared.fault.ReadFaultKind.{ReadFaultKind}
use Rattle.rec_reader.specs.declared.fault.ReadFaultKind.TheVariants.{Device, Memory}
use Rattle.rec_reader.specs.Packets.{PacketData, PacketStandsFirst, BeginsPackets, packets_len}
use Rattle.rec_reader.specs.Reading.{HasHeader, HasReadFault, Reads}
use Rattle.rec_reader.specs.Channels.{capped}

-- ---- readers

-- a reader: the bytes that its input has left, if the input says them; the place of the first of
-- them in the recording; and how the reader has ended, once it has
pub record ReaderState : Type 0 where
  pub left : Option (List ℕ)
  pub at : ℕ
  pub ended : Option (Result (Unit {0}) ReadEnd)

-- what a reader answers that has ended
abbrev pub last_answer : Result (Unit {0}) ReadEnd → Result (Option PacketData) ReadEnd
last_answer (Ok end) = Ok None
last_answer (Err end) = Err end

-- how a reader has ended by this answer: by a packet it hasn't
abbrev pub ended_by : Result (Option PacketData) ReadEnd → Option (Result (Unit {0}) ReadEnd)
ended_by (Ok (Some packet)) = None
ended_by (Ok None) = Some (Ok tt)
ended_by (Err end) = Some (Err end)

-- the packet of an answer, if it has one
abbrev pub given_by : Result (Option PacketData) ReadEnd → List PacketData
given_by (Ok (Some packet)) = packet ∷ []
given_by (Ok None) = []
given_by (Err end) = []

-- the place of what follows this answer, which was given at a place
abbrev pub place_after : (at : ℕ) → Result (Option PacketData) ReadEnd → ℕ
place_after at (Ok (Some packet)) = capped (at + packet.header.packet_len)
place_after at (Ok None) = at
place_after at (Err end) = at

-- ---- one answer

-- why no packet is taken from the front of these bytes: they begin none; or the input failed; or
-- there was no memory for the packet whose header stands first
abbrev pub StopsOn : (bytes : List ℕ) → ReadFaultKind → Type 0
StopsOn bytes kind =
    HasReadFault bytes kind ⊎ (kind ≡ Device)
    ⊎ ((kind ≡ Memory)
    × (header : HeaderData) × (behind : List ℕ) × HasHeader header bytes behind)

-- what was taken from the front of these bytes, of which the first stands at this place, and what
-- is left: the packet that stands first, and exactly what follows it; or nothing, since there are
-- no bytes
abbrev pub TakesFirst :
    (at : ℕ) → (bytes : List ℕ) → Option PacketData → (left : Option (List ℕ)) → Type 0
TakesFirst at bytes (Some packet) left =
    (more : List ℕ) × (left ≡ Some more) × PacketStandsFirst at packet bytes more
TakesFirst at bytes None left = (bytes ≡ []) × (left ≡ Some [])

-- a header was taken from the front of these bytes, or nothing was left
abbrev pub TakesHeader : (bytes : List ℕ) → Option HeaderData → (left : Option (List ℕ)) → Type 0
TakesHeader bytes (Some header) left =
    (behind : List ℕ) × (left ≡ Some behind) × HasHeader header bytes behind
TakesHeader bytes None left = (bytes ≡ []) × (left ≡ Some [])

-- the rest of a packet was taken, whose header stood before the bytes that were left
abbrev pub TakesRest :
    (at : ℕ) → HeaderData → PacketData → (old new : Option (List ℕ)) → Type 0
TakesRest at header packet old new =
    IfSome old (λ behind.
    (more : List ℕ) × (new ≡ Some more)
    × ((bytes : List ℕ) → HasHeader header bytes behind → PacketStandsFirst at packet bytes more))

-- the answer of these bytes, of which the first stands at this place, and what is left: what was
-- taken from their front, or why nothing was
abbrev pub AnswersBytes :
    (at : ℕ) → (bytes : List ℕ) → Result (Option PacketData) ReadEnd → (left : Option (List ℕ))
    → Type 0
AnswersBytes at bytes (Ok taken) left = TakesFirst at bytes taken left
AnswersBytes at bytes (Err end) left = (end.at ≡ at) × StopsOn bytes end.kind

-- ---- all answers

-- where a reader stands before which this rest of the bytes lies: it has the rest left; or it has
-- ended, since the rest is empty or for this reason
abbrev pub IsBefore : (rest : List ℕ) → ReaderState → Option (Result (Unit {0}) ReadEnd) → Type 0
IsBefore rest reader None = reader.left ≡ Some rest
IsBefore rest reader (Some (Ok end)) = rest ≡ []
IsBefore rest reader (Some (Err end)) = (end.at ≡ reader.at) × StopsOn rest end.kind

-- the reader has given these packets of these bytes, which are fewer than 2^64, and it stands
-- where they end
pub record HasRead (bytes : List ℕ) (packets : List PacketData)
    (reader : ReaderState) : Type 0 where
  pub few : length bytes < 2 ^ 64
  pub rest : List ℕ
  pub held : BeginsPackets 0 packets bytes rest
  pub place : reader.at ≡ packets_len packets
  pub before : IsBefore rest reader reader.ended

-- what an answer says of the reading of these bytes, after these packets: the next packet of it; or
-- that they are all; or the fault after them; or only that they are its first packets, where the
-- input failed or there was no memory
abbrev pub Tells : (bytes : List ℕ) → List PacketData → Result (Option PacketData) ReadEnd → Type 0
Tells bytes packets (Ok (Some packet)) =
    (rest more : List ℕ) × BeginsPackets 0 packets bytes rest
    × PacketStandsFirst (packets_len packets) packet rest more
Tells bytes packets (Ok None) = Reads bytes packets None
Tells bytes packets (Err end) =
    (end.at ≡ packets_len packets)
    × (Reads bytes packets (Some end.kind)
    ⊎ (((end.kind ≡ Device) ⊎ (end.kind ≡ Memory))
    × (rest : List ℕ) × BeginsPackets 0 packets bytes rest))
