-- The packet that is read at a place, and the packets that are still to come.
use Rattle.std.proofs.Common.{ℕ, ◌≡◌, ◌≤◌, List, ◌++◌, length, take, drop, Option, None, Some}
use Rattle.std.proofs.Common.{refl, ◌∙◌, ap, subst, arith, append_assoc, length-append}
use Rattle.std.specs.Prelude.{IfSome}
use Rattle.std.specs.Option.{option_map}
use Rattle.std.proofs.lemmas.List.{take-append-le}
use Rattle.ch11_packet.specs.declared.header.TheConstants.{HEADER_LEN}
use Rattle.ch11_packet.specs.Header.{HeaderData, header_bytes, header_at}
use Rattle.ch11_packet.specs.Classes.{data_in}
use Rattle.ch11_packet.proofs.Headers.{header_at-header_bytes}
use Rattle.rec_reader.specs.Packets.{PacketData, PacketStandsFirst}
use Rattle.rec_reader.specs.Readers.{TakesFirst}
use Rattle.rec_pieces.specs.Placed.{known_from}
use Rattle.rec_pieces.specs.Entries.{IsThere, places_of}

-- ---- the packet at a place

front : (header : HeaderData) (xs : List ℕ) → header_at (header_bytes header ++ xs) ≡ header_at (header_bytes header)
unfolding header_bytes
front header xs = refl

behind : (header : HeaderData) (xs : List ℕ) → drop HEADER_LEN (header_bytes header ++ xs) ≡ xs
unfolding header_bytes
behind header xs = refl

header_len : (header : HeaderData) → length (header_bytes header) ≡ HEADER_LEN
unfolding header_bytes
header_len header = refl

-- the packet stands first
abbrev pub IsRead : PacketData → (rest : List ℕ) → Type 0
IsRead packet rest = IsThere (places_of rest 0) packet

pub first_is_read : (at : ℕ) (packet : PacketData) (rest more : List ℕ) → PacketStandsFirst at packet rest more → IsRead packet rest
first_is_read at packet rest more first =
    let spelled = first.spelled in
    let h = packet.header in
    let whole : rest ≡ header_bytes h ++ (packet.body ++ more) =
    first.whole ∙ ap (λ l. l ++ more) spelled.whole ∙ append_assoc (header_bytes h) packet.body more in
    let header : header_at rest ≡ h = ap header_at whole ∙ front h (packet.body ++ more) ∙ header_at-header_bytes h spelled.is_header in
    let lengths = spelled.is_header.lengths.holds in
    let fits : h.data_len ≤ length packet.body =
    omega (arith, lengths, spelled.long, ap length spelled.whole, length-append (header_bytes h) packet.body, header_len h) in
    record {
      header = header;
      held = ap (λ (x : HeaderData). data_in x (drop HEADER_LEN rest)) header
          ∙ ap (λ l. take h.data_len (drop HEADER_LEN l)) whole
          ∙ ap (take h.data_len) (behind h (packet.body ++ more))
          ∙ take-append-le h.data_len packet.body more fits;
    }

taken_there : (bytes : List ℕ) (at place : ℕ) (left new : Option (List ℕ)) (packet : PacketData) → left ≡ Some (drop at bytes)
    → IfSome left (λ known. TakesFirst place known (Some packet) new) → IsRead packet (drop at bytes)
taken_there bytes at place left new packet is taken =
    let took = subst (λ l. IfSome l (λ known. TakesFirst place known (Some packet) new)) is taken in
    first_is_read place packet (drop at bytes) took.0 took.2

read_known : (held left new : Option (List ℕ)) (at place : ℕ) (packet : PacketData) → left ≡ known_from held at
    → IfSome left (λ known. TakesFirst place known (Some packet) new)
    → IfSome (option_map places_of held) (λ places. IsThere (places at) packet)
read_known None left new at place packet is taken = tt
read_known (Some bytes) left new at place packet is taken = taken_there bytes at place left new packet is taken

pub read_there : (held left new : Option (List ℕ)) (at place : ℕ) (packet : PacketData) (took : Option PacketData) → took ≡ Some packet
    → left ≡ known_from held at → IfSome left (λ known. TakesFirst place known took new)
    → IfSome (option_map places_of held) (λ places. IsThere (places at) packet)
read_there held left new at place packet took one is taken =
    read_known held left new at place packet is (subst (λ t. IfSome left (λ known. TakesFirst place known t new)) one taken)

-- ---- the packets that are to come
