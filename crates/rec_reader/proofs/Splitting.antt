-- The packet that stands first, or why none does.
use Rattle.std.specs.Prelude.{IsErrAnd, IfErr, Result, Ok, Err}
use Rattle.rec_reader.specs.declared.fault.ReadFaultKind.{ReadFaultKind}
use Rattle.std.proofs.Common.{◌≡◌, ℕ, ◌+◌, ◌-◌, ◌<◌, ◌≤◌, inl, inr, List, ◌++◌, length, take, drop, refl, sym, ap, subst, ◌∙◌, arith}
use Rattle.std.proofs.lemmas.List.{append_assoc, length-append, take-append-drop}
use Rattle.ch11_packet.specs.declared.header.TheConstants.{HEADER_LEN}
use Rattle.ch11_packet.specs.declared.header.HeaderFault.{HeaderFault}
use Rattle.ch11_packet.specs.declared.header.HeaderFault.TheVariants.{Sync as BadSync, Checksum as BadChecksum, Length as BadLength}
use Rattle.ch11_packet.specs.declared.class.What.{What}
use Rattle.ch11_packet.specs.Header.{HeaderData, IsHeader, HeaderHasFault, header_bytes}
use Rattle.ch11_packet.specs.declared.class.ClassFault.{ClassFault}
use Rattle.ch11_packet.specs.declared.class.ClassFault.TheVariants.{DataChecksum as BadSum, Body as BadBody}
use Rattle.ch11_packet.specs.Classes.{Holds, HasClassFault}
use Rattle.rec_reader.specs.Packets.{packet_of, PacketStandsFirst}
use Rattle.rec_reader.specs.Reading.{HasHeader, IsTruncated, HasBadPacket, HasReadFault, class_kind, header_kind}

pub length-header : (header : HeaderData) → length (header_bytes header) ≡ HEADER_LEN
unfolding header_bytes
length-header header = refl

-- ---- the header

pub bad_header : (bytes head : List ℕ) (fault : HeaderFault) → head ≡ take HEADER_LEN bytes → HEADER_LEN ≤ length bytes → HeaderHasFault head fault
    → HasReadFault bytes (header_kind fault)
bad_header bytes head BadSync is long wrong = (long, subst (λ l. HeaderHasFault l BadSync) is wrong)
bad_header bytes head BadChecksum is long wrong = (long, subst (λ l. HeaderHasFault l BadChecksum) is wrong)
bad_header bytes head BadLength is long wrong = (long, subst (λ l. HeaderHasFault l BadLength) is wrong)

pub first_header : (bytes head behind : List ℕ) (header : HeaderData) → head ≡ take HEADER_LEN bytes → behind ≡ drop HEADER_LEN bytes → IsHeader header
    → head ≡ header_bytes header
    → HasHeader header bytes behind
first_header bytes head behind header front back is spelled = record {
  is_header = is;
  whole = sym (take-append-drop HEADER_LEN bytes) ∙ ap (λ l. l ++ drop HEADER_LEN bytes) (sym front ∙ spelled) ∙ ap (λ l. header_bytes header ++ l) (sym back);
}

-- ---- the body

pub length-headed : (header : HeaderData) (bytes behind : List ℕ) → HasHeader header bytes behind → length bytes ≡ HEADER_LEN + length behind
length-headed header bytes behind headed =
    ap length headed.whole ∙ length-append (header_bytes header) behind ∙ ap (λ n. n + length behind) (length-header header)

pub cut_packet : (header : HeaderData) (bytes behind : List ℕ) → HasHeader header bytes behind → length behind < header.packet_len - HEADER_LEN
    → IsTruncated bytes
cut_packet header bytes behind headed few =
    inr (header, behind, headed, omega (arith, length-headed header bytes behind headed, few))

has_bad_packet : (header : HeaderData) (bytes behind body more : List ℕ) (fault : ClassFault) → HasHeader header bytes behind → behind ≡ body ++ more
    → HEADER_LEN + length body ≡ header.packet_len
    → HasClassFault header body fault → HasBadPacket bytes fault
has_bad_packet header bytes behind body more fault headed split long wrong = record {
  header = header;
  body = body;
  more = more;
  headed = record { is_header = headed.is_header; whole = headed.whole ∙ ap (λ l. header_bytes header ++ l) split };
  long = long;
  wrong = wrong;
}

pub bad_packet : (header : HeaderData) (bytes behind body more : List ℕ) (fault : ClassFault) → HasHeader header bytes behind → behind ≡ body ++ more
    → HEADER_LEN + length body ≡ header.packet_len
    → HasClassFault header body fault → HasReadFault bytes (class_kind fault)
bad_packet header bytes behind body more BadSum headed split long wrong = has_bad_packet header bytes behind body more BadSum headed split long wrong
bad_packet header bytes behind body more BadBody headed split long wrong = has_bad_packet header bytes behind body more BadBody headed split long wrong

-- and of bytes that are put together
pub bad_bytes : (header : HeaderData) (body more : List ℕ) (fault : ClassFault) → IsHeader header → HEADER_LEN + length body ≡ header.packet_len
    → HasClassFault header body fault
    → HasReadFault (header_bytes header ++ (body ++ more)) (class_kind fault)
bad_bytes header body more fault is long wrong =
    bad_packet header (header_bytes header ++ (body ++ more)) (body ++ more) body more fault (record { is_header = is; whole = refl }) refl long wrong

pub first_packet : (at : ℕ) (header : HeaderData) (bytes behind body more : List ℕ) (what : What) → HasHeader header bytes behind → behind ≡ body ++ more
    → HEADER_LEN + length body ≡ header.packet_len
    → Holds header body what → PacketStandsFirst at (packet_of at header body what) bytes more
first_packet at header bytes behind body more what headed split long holds = record {
  place = refl;
  spelling = header_bytes header ++ body;
  spelled = record {
    is_header = headed.is_header;
    whole = refl;
    long = length-append (header_bytes header) body ∙ ap (λ n. n + length body) (length-header header) ∙ long;
    holds = holds;
  };
  whole = headed.whole ∙ ap (λ l. header_bytes header ++ l) split ∙ sym (append_assoc (header_bytes header) body more);
}

-- a fault, as it is told
pub is_told : {X : Type 0} (bytes : List ℕ) (answer : Result X ReadFaultKind) (told : ReadFaultKind) → IsErrAnd answer (λ kind. kind ≡ told)
    → HasReadFault bytes told
    → IfErr answer (HasReadFault bytes)
is_told bytes (Ok x) told is has = tt
is_told bytes (Err kind) told is has = subst (HasReadFault bytes) (sym is) has

pub split_is : (behind front back : List ℕ) (n : ℕ) → front ≡ take n behind → back ≡ drop n behind → behind ≡ front ++ back
split_is behind front back n is rest = sym (take-append-drop n behind) ∙ ap (λ l. l ++ drop n behind) (sym is) ∙ ap (λ l. front ++ l) (sym rest)
