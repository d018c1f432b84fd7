-- A reader's answers, and the packets of all bytes.
use Rattle.std.proofs.Common.{◌≡◌, ℕ, ◌+◌, ◌-◌, ◌^◌, ◌<◌, min, ◌⊎◌, inl, inr, List, [], ◌∷◌, ◌++◌, length, take, Option, None, Some}
use Rattle.std.proofs.Common.{IfSome, Result, Ok, Err, IsErrAnd, IfErr, refl, sym, ap, subst, ◌∙◌, arith, length-append}
use Rattle.std.proofs.lemmas.List.{take_at}
use Rattle.std.specs.Io.KnownBytes.{Consumes}
use Rattle.ch11_packet.specs.declared.header.TheConstants.{HEADER_LEN}
use Rattle.ch11_packet.specs.declared.header.HeaderFault.{HeaderFault}
use Rattle.ch11_packet.specs.declared.class.What.{What}
use Rattle.ch11_packet.specs.Header.{HeaderData, HeaderHasFault}
use Rattle.ch11_packet.specs.declared.class.ClassFault.{ClassFault}
use Rattle.ch11_packet.specs.Classes.{Holds, HasClassFault}
use Rattle.rec_reader.specs.declared.fault.ReadEnd.{ReadEnd}
use Rattle.rec_reader.specs.declared.fault.ReadFaultKind.{ReadFaultKind}
use Rattle.rec_reader.specs.declared.fault.ReadFaultKind.TheVariants.{Truncated, Device, Memory}
use Rattle.rec_reader.specs.Reading.{HasHeader, HasReadFault, class_kind, header_kind}
use Rattle.rec_reader.proofs.Splitting.{bad_header, bad_packet, cut_packet, first_packet}
use Rattle.rec_reader.specs.Packets.{PacketData, packet_of, PacketStandsFirst, packets_len}
use Rattle.rec_reader.specs.Readers.{ReaderState, StopsOn, TakesFirst, TakesHeader, TakesRest, IsBefore, HasRead}
use Rattle.rec_reader.proofs.Chains.{length-first, length-Begins, Begins-snoc}

-- ---- one packet

-- a header with a fault
pub told_header : {X : Type 0} (known left : Option (List ℕ)) (head : List ℕ) (answer : Result X ReadFaultKind) (fault : HeaderFault)
    → IsErrAnd answer (λ kind. kind ≡ header_kind fault) → length head ≡ HEADER_LEN
    → Consumes known left head → HeaderHasFault head fault → IfErr answer (λ kind. IfSome known (λ bytes. HasReadFault bytes kind ⊎ (kind ≡ Device)))
told_header known left head (Ok x) fault told len took wrong = tt
told_header None left head (Err kind) fault told len took wrong = tt
told_header (Some xs) None head (Err kind) fault told len took wrong = absurd took
told_header (Some xs) (Some ys) head (Err kind) fault told len took wrong =
    let front : head ≡ take HEADER_LEN xs = sym (ap (take HEADER_LEN) took ∙ take_at head ys HEADER_LEN len) in
    let long = ap length took ∙ length-append head ys in
    inl (subst (HasReadFault xs) (sym told) (bad_header xs head fault front (omega (arith, long, len)) wrong))

-- why the rest of a packet didn't come
pub stops_on : (header : HeaderData) (kind : ReadFaultKind) (bytes behind : List ℕ) → HasHeader header bytes behind
    → (kind ≡ Device) ⊎ (kind ≡ Memory) ⊎ ((kind ≡ Truncated) × (length behind < header.packet_len - HEADER_LEN)) → StopsOn bytes kind
stops_on header kind bytes behind headed (inl device) = inr (inl device)
stops_on header kind bytes behind headed (inr (inl memory)) = inr (inr (memory, header, behind, headed))
stops_on header kind bytes behind headed (inr (inr cut)) = inl (subst (HasReadFault bytes) (sym cut.0) (cut_packet header bytes behind headed cut.1))

pub told_body : {X : Type 0} (header : HeaderData) (known : Option (List ℕ)) (answer : Result X ReadFaultKind) (kind : ReadFaultKind)
    → IsErrAnd answer (λ told. told ≡ kind)
    → (kind ≡ Device) ⊎ (kind ≡ Memory) ⊎ ((kind ≡ Truncated) × IfSome known (λ bytes. length bytes < header.packet_len - HEADER_LEN))
    → IfErr answer (λ told. IfSome known (λ behind. (bytes : List ℕ) → HasHeader header bytes behind → StopsOn bytes told))
told_body header known (Ok x) kind told why = tt
told_body header None (Err other) kind told why = tt
told_body header (Some behind) (Err other) kind told why = λ bytes headed. subst (StopsOn bytes) (sym told) (stops_on header kind bytes behind headed why)

-- the rest of a packet came, and is wrong
pub told_class : {X : Type 0} (header : HeaderData) (body : List ℕ) (old new : Option (List ℕ)) (answer : Result X ReadFaultKind) (fault : ClassFault)
    → IsErrAnd answer (λ told. told ≡ class_kind fault) → Consumes old new body
    → HEADER_LEN + length body ≡ header.packet_len → HasClassFault header body fault
    → IfErr answer (λ told. IfSome old (λ behind. (bytes : List ℕ) → HasHeader header bytes behind → StopsOn bytes told))
told_class header body old new (Ok x) fault told took long wrong = tt
told_class header body None new (Err kind) fault told took long wrong = tt
told_class header body (Some behind) None (Err kind) fault told took long wrong = absurd took
told_class header body (Some behind) (Some more) (Err kind) fault told took long wrong =
    λ bytes headed. inl (subst (HasReadFault bytes) (sym told) (bad_packet header bytes behind body more fault headed took long wrong))

-- the rest of a packet came
pub rest_taken : (at : ℕ) (header : HeaderData) (body : List ℕ) (what : What) (packet : PacketData) (old new : Option (List ℕ))
    → packet ≡ packet_of at header body what → Consumes old new body
    → HEADER_LEN + length body ≡ header.packet_len → Holds header body what → TakesRest at header packet old new
rest_taken at header body what packet None new is took long holds = tt
rest_taken at header body what packet (Some behind) None is took long holds = absurd took
rest_taken at header body what packet (Some behind) (Some more) is took long holds = (
  more,
  refl,
  λ bytes headed. subst (λ p. PacketStandsFirst at p bytes more) (sym is) (first_packet at header bytes behind body more what headed took long holds),
)

-- both parts of a packet
pub first_taken : (at : ℕ) (header : HeaderData) (packet : PacketData) (known mid left : Option (List ℕ))
    → IfSome known (λ bytes. TakesHeader bytes (Some header) mid) → TakesRest at header packet mid left
    → IfSome known (λ bytes. TakesFirst at bytes (Some packet) left)
first_taken at header packet None mid left head rest = tt
first_taken at header packet (Some bytes) mid left head rest =
    let taken : TakesRest at header packet (Some head.0) left = subst (λ (m : Option (List ℕ)). TakesRest at header packet m left) head.1 rest in
    (taken.0, taken.1, taken.2 bytes head.2)

pub first_stops : (header : HeaderData) (kind : ReadFaultKind) (known mid : Option (List ℕ)) → IfSome known (λ bytes. TakesHeader bytes (Some header) mid)
    → IfSome mid (λ behind. (bytes : List ℕ) → HasHeader header bytes behind → StopsOn bytes kind) → IfSome known (λ bytes. StopsOn bytes kind)
first_stops header kind None mid head stops = tt
first_stops header kind (Some bytes) mid head stops =
    let told : (all : List ℕ) → HasHeader header all head.0 → StopsOn all kind =
    subst (λ (m : Option (List ℕ)). IfSome m (λ behind. (all : List ℕ) → HasHeader header all behind → StopsOn all kind)) head.1 stops in
    told bytes head.2

-- ---- all packets

-- the rest that a reader has left which hasn't ended
left_is : (rest : List ℕ) (reader : ReaderState) (ended : Option (Result (Unit {0}) ReadEnd)) → ended ≡ None → IsBefore rest reader ended
    → reader.left ≡ Some rest
left_is rest reader None none before = before
left_is rest reader (Some how) none before = absurd (cc)

-- a packet more
pub stands_on : (old new : ReaderState) (packet : PacketData) → old.ended ≡ None → new.ended ≡ None
    → new.at ≡ min (old.at + packet.header.packet_len) (2 ^ 64 - 1)
    → IfSome old.left (λ bytes. TakesFirst old.at bytes (Some packet) new.left) → (bytes : List ℕ) (packets : List PacketData) → HasRead bytes packets old
    → HasRead bytes (packets ++ packet ∷ []) new
stands_on old new packet works goes place took bytes packets read =
    let left = left_is read.rest old old.ended works read.before in
    let taken : TakesFirst old.at read.rest (Some packet) new.left =
    subst (λ (known : Option (List ℕ)). IfSome known (λ bytes. TakesFirst old.at bytes (Some packet) new.left)) left took in
    let more = taken.0 in
    let first : PacketStandsFirst (0 + packets_len packets) packet read.rest more =
    subst (λ n. PacketStandsFirst n packet read.rest more) (let e : old.at ≡ 0 + packets_len packets = omega (arith, read.place) in e) taken.2 in
    let held = Begins-snoc 0 packets packet bytes read.rest more read.held first in
    let one = length-first (0 + packets_len packets) packet read.rest more first in
    let before = length-Begins 0 packets bytes read.rest read.held in
    let after = length-Begins 0 (packets ++ packet ∷ []) bytes more held in
    let few = read.few in
    let was = read.place in
    record {
      few = few;
      rest = more;
      held = held;
      place = omega (arith, one, before, after, few, was, place);
      before = subst (IsBefore more new) (sym goes) taken.1;
    }
