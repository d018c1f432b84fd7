-- Bytes have one reading.
-- idea: a header says how long its packet is, so the packet that stands first is one, and so is what follows it; by
-- recursion over the bytes so are all packets, and bytes with a packet in front have no fault there.
use Rattle.std.proofs.Common.{◌≡◌, ℕ, ◌+◌, ◌<◌, inl, inr, List, [], ◌∷◌, ◌++◌, length, take, drop, Option, None, Some, refl, sym, ap, subst, ◌∙◌, arith}
use Rattle.std.proofs.lemmas.List.{append_assoc, append-nil, length-append, take_at, drop_at}
use Rattle.ch11_packet.specs.declared.header.TheConstants.{HEADER_LEN}
use Rattle.ch11_packet.specs.declared.header.HeaderFault.{HeaderFault}
use Rattle.ch11_packet.specs.declared.header.HeaderFault.TheVariants.{Sync as BadSync, Checksum as BadChecksum, Length as BadLength}
use Rattle.ch11_packet.specs.declared.class.What.{What}
use Rattle.ch11_packet.specs.Header.{HeaderData, IsHeader, HasSync, HasHeaderSum, HasLengths, header_bytes}
use Rattle.ch11_packet.specs.declared.class.ClassFault.{ClassFault}
use Rattle.ch11_packet.specs.declared.class.ClassFault.TheVariants.{DataChecksum as BadSum, Body as BadBody}
use Rattle.ch11_packet.specs.Classes.{Holds, HasClassFault}
use Rattle.rec_reader.specs.declared.fault.ReadFaultKind.{ReadFaultKind}
use Rattle.rec_reader.specs.declared.fault.ReadFaultKind.TheVariants.{Truncated, Sync, Checksum, Length, DataChecksum, Body, Device, Memory}
use Rattle.rec_reader.specs.Packets.{PacketData, packet_of, SpellsPacket, PacketStandsFirst, BeginsPackets}
use Rattle.rec_reader.specs.Reading.{HasHeader, IsTruncated, HasHeaderFault, HasBadPacket, HasReadFault, EndsReading, Reads}
use Rattle.rec_reader.proofs.Splitting.{length-header, length-headed}
use Rattle.rec_reader.proofs.Chains.{length-first}

-- ---- what is known of headers and of what packets hold

pub record Known : Type 0 where
  pub one_header : (header other : HeaderData) (rest more : List ℕ) → IsHeader header → IsHeader other
      → header_bytes header ++ rest ≡ header_bytes other ++ more → (header ≡ other) × (rest ≡ more)
  pub valid_header : (header : HeaderData) → IsHeader header → HasSync (header_bytes header) × HasHeaderSum (header_bytes header)
      × HasLengths (header_bytes header)
  pub one_thing : (header : HeaderData) (body : List ℕ) (what other : What) → Holds header body what → Holds header body other → what ≡ other
  pub no_fault : (header : HeaderData) (body : List ℕ) (what : What) (fault : ClassFault) → Holds header body what → HasClassFault header body fault → ⊥
  pub one_wrong : (header : HeaderData) (body : List ℕ) (fault other : ClassFault) → HasClassFault header body fault → HasClassFault header body other
      → fault ≡ other

-- ---- the packet that stands first

same_front : (some other rest more : List ℕ) → length some ≡ length other → some ++ rest ≡ other ++ more → (some ≡ other) × (rest ≡ more)
same_front some other rest more len e = (
  sym (take_at some rest (length some) refl) ∙ ap (take (length some)) e ∙ take_at other more (length some) (sym len),
  sym (drop_at some rest (length some) refl) ∙ ap (drop (length some)) e ∙ drop_at other more (length some) (sym len),
)

-- a header and as many bytes as it says, and more
pub record IsHeaded (header : HeaderData) (body bytes more : List ℕ) : Type 0 where
  pub is_header : IsHeader header
  pub whole : bytes ≡ header_bytes header ++ (body ++ more)
  pub long : HEADER_LEN + length body ≡ header.packet_len

pub headed_first : (at : ℕ) (packet : PacketData) (bytes more : List ℕ) → PacketStandsFirst at packet bytes more → IsHeaded packet.header packet.body bytes more
headed_first at packet bytes more first =
    let spelled = first.spelled in
    let joined = length-append (header_bytes packet.header) packet.body in
    let head = length-header packet.header in
    let all = ap length spelled.whole in
    let long = spelled.long in
    record {
      is_header = spelled.is_header;
      whole = first.whole ∙ ap (λ l. l ++ more) spelled.whole ∙ append_assoc (header_bytes packet.header) packet.body more;
      long = omega (arith, joined, head, all, long);
    }

pub one_headed : Known → (header other : HeaderData) (body others bytes more rest : List ℕ) → IsHeaded header body bytes more → IsHeaded other others bytes rest
    → (header ≡ other) × (body ≡ others) × (more ≡ rest)
one_headed known header other body others bytes more rest a b =
    let one = known.one_header header other (body ++ more) (others ++ rest) a.is_header b.is_header (sym a.whole ∙ b.whole) in
    let same = ap (λ (h : HeaderData). h.packet_len) one.0 in
    let long = a.long in
    let also = b.long in
    let len : length body ≡ length others = omega (arith, same, long, also) in
    let bodies = same_front body others more rest len one.1 in
    (one.0, bodies.0, bodies.1)

same_packet : (at at' : ℕ) (header header' : HeaderData) (body body' : List ℕ) (what what' : What) → at ≡ at' → header ≡ header' → body ≡ body' → what ≡ what'
    → packet_of at header body what ≡ packet_of at' header' body' what'
same_packet at at' header header' body body' what what' a h b w = cc

pub one_first : Known → (at : ℕ) (packet other : PacketData) (bytes more rest : List ℕ) → PacketStandsFirst at packet bytes more
    → PacketStandsFirst at other bytes rest → (packet ≡ other) × (more ≡ rest)
one_first known at packet other bytes more rest a b =
    let one = one_headed known _ _ _ _ bytes more rest (headed_first at packet bytes more a) (headed_first at other bytes rest b) in
    let also : Holds packet.header packet.body other.what =
    subst (λ h. Holds h packet.body other.what) (sym one.0) (subst (λ l. Holds other.header l other.what) (sym one.1) b.spelled.holds) in
    let what = known.one_thing packet.header packet.body packet.what other.what a.spelled.holds also in
    (same_packet _ _ _ _ _ _ _ _ (a.place ∙ sym b.place) one.0 one.1 what, one.2)

-- ---- packets and faults

some_fault : (bytes : List ℕ) (kind : ReadFaultKind) → HasReadFault bytes kind → 0 < length bytes
some_fault bytes Truncated (inl few) = few.0
some_fault bytes Truncated (inr cut) = omega (arith, length-headed cut.0 bytes cut.1 cut.2)
some_fault bytes Sync fault = omega (arith, fault.0)
some_fault bytes Checksum fault = omega (arith, fault.0)
some_fault bytes Length fault = omega (arith, fault.0)
some_fault bytes Device fault = elim fault [ ]
some_fault bytes Memory fault = elim fault [ ]
some_fault bytes DataChecksum fault = omega (arith, length-headed fault.header bytes _ fault.headed)
some_fault bytes Body fault = omega (arith, length-headed fault.header bytes _ fault.headed)

headed_front : (header : HeaderData) (bytes behind : List ℕ) → HasHeader header bytes behind → take HEADER_LEN bytes ≡ header_bytes header
headed_front header bytes behind headed = ap (take HEADER_LEN) headed.whole ∙ take_at (header_bytes header) behind HEADER_LEN (length-header header)

-- 24 bytes of a header have no header's fault
pub no_header_fault : Known → (header : HeaderData) (bytes behind : List ℕ) (fault : HeaderFault) → HasHeader header bytes behind → HasHeaderFault bytes fault
    → ⊥
no_header_fault known header bytes behind BadSync headed fault =
    fault.1 (subst HasSync (sym (headed_front header bytes behind headed)) (known.valid_header header headed.is_header).0)
no_header_fault known header bytes behind BadChecksum headed fault =
    fault.1.1 (subst HasHeaderSum (sym (headed_front header bytes behind headed)) (known.valid_header header headed.is_header).1)
no_header_fault known header bytes behind BadLength headed fault =
    fault.1.2 (subst HasLengths (sym (headed_front header bytes behind headed)) (known.valid_header header headed.is_header).2)

with_header : (header : HeaderData) (body bytes more : List ℕ) → IsHeaded header body bytes more → HasHeader header bytes (body ++ more)
with_header header body bytes more headed = record { is_header = headed.is_header; whole = headed.whole }

length-IsHeaded : (header : HeaderData) (body bytes more : List ℕ) → IsHeaded header body bytes more → length bytes ≡ header.packet_len + length more
length-IsHeaded header body bytes more headed =
    let long = headed.long in
    omega (arith, length-headed header bytes (body ++ more) (with_header header body bytes more headed), length-append body more, long)

-- a whole packet's bytes aren't cut
pub not_cut : Known → (header : HeaderData) (body bytes more : List ℕ) → IsHeaded header body bytes more → IsTruncated bytes → ⊥
not_cut known header body bytes more headed (inl few) =
    let holds = headed.is_header.lengths.holds in
    omega (arith, length-IsHeaded header body bytes more headed, few.1, holds)
not_cut known header body bytes more headed (inr cut) =
    let one = known.one_header header cut.0 (body ++ more) cut.1 headed.is_header cut.2.is_header (sym headed.whole ∙ cut.2.whole) in
    let same = ap (λ (h : HeaderData). h.packet_len) one.0 in
    omega (arith, length-IsHeaded header body bytes more headed, cut.3, same)

bad_headed : (bytes : List ℕ) (fault : ClassFault) (bad : HasBadPacket bytes fault) → IsHeaded bad.header bad.body bytes bad.more
bad_headed bytes fault bad = record { is_header = bad.headed.is_header; whole = bad.headed.whole; long = bad.long }

first_or_bad : Known → (at : ℕ) (packet : PacketData) (bytes more : List ℕ) (fault : ClassFault) → PacketStandsFirst at packet bytes more
    → HasBadPacket bytes fault → ⊥
first_or_bad known at packet bytes more fault first bad =
    let one = one_headed known _ _ _ _ bytes _ _ (headed_first at packet bytes more first) (bad_headed bytes fault bad) in
    known.no_fault bad.header bad.body packet.what fault
    (subst (λ h. Holds h bad.body packet.what) one.0 (subst (λ l. Holds packet.header l packet.what) one.1 first.spelled.holds)) bad.wrong

-- where a packet stands first there is no fault
pub none_first : Known → (at : ℕ) (packet : PacketData) (bytes more : List ℕ) (kind : ReadFaultKind) → PacketStandsFirst at packet bytes more
    → HasReadFault bytes kind → ⊥
none_first known at packet bytes more Truncated first fault = not_cut known _ _ bytes more (headed_first at packet bytes more first) fault
none_first known at packet bytes more Sync first fault =
    no_header_fault known _ bytes _ BadSync (with_header _ _ bytes more (headed_first at packet bytes more first)) fault
none_first known at packet bytes more Checksum first fault =
    no_header_fault known _ bytes _ BadChecksum (with_header _ _ bytes more (headed_first at packet bytes more first)) fault
none_first known at packet bytes more Length first fault =
    no_header_fault known _ bytes _ BadLength (with_header _ _ bytes more (headed_first at packet bytes more first)) fault
none_first known at packet bytes more Device first fault = elim fault [ ]
none_first known at packet bytes more Memory first fault = elim fault [ ]
none_first known at packet bytes more DataChecksum first fault = first_or_bad known at packet bytes more BadSum first fault
none_first known at packet bytes more Body first fault = first_or_bad known at packet bytes more BadBody first fault

-- ---- one fault

cut_or_wrong : Known → (bytes : List ℕ) (fault : HeaderFault) → IsTruncated bytes → HasHeaderFault bytes fault → ⊥
cut_or_wrong known bytes fault (inl few) wrong = omega (arith, few.1, wrong.0)
cut_or_wrong known bytes fault (inr cut) wrong = no_header_fault known cut.0 bytes cut.1 fault cut.2 wrong

cut_or_bad : Known → (bytes : List ℕ) (fault : ClassFault) → IsTruncated bytes → HasBadPacket bytes fault → ⊥
cut_or_bad known bytes fault cut bad = not_cut known bad.header bad.body bytes bad.more (bad_headed bytes fault bad) cut

wrong_or_bad : Known → (bytes : List ℕ) (fault : HeaderFault) (other : ClassFault) → HasHeaderFault bytes fault → HasBadPacket bytes other → ⊥
wrong_or_bad known bytes fault other wrong bad = no_header_fault known bad.header bytes _ fault bad.headed wrong

one_bad : Known → (bytes : List ℕ) (fault other : ClassFault) → HasBadPacket bytes fault → HasBadPacket bytes other → fault ≡ other
one_bad known bytes fault other a b =
    let one = one_headed known _ _ _ _ bytes _ _ (bad_headed bytes fault a) (bad_headed bytes other b) in
    known.one_wrong b.header b.body fault other
    (subst (λ h. HasClassFault h b.body fault) one.0 (subst (λ l. HasClassFault a.header l fault) one.1 a.wrong)) b.wrong

sum_or_body : BadSum ≡ BadBody → ⊥
sum_or_body e = cc

-- the bytes have one fault at most
pub one_fault : Known → (bytes : List ℕ) (kind other : ReadFaultKind) → HasReadFault bytes kind → HasReadFault bytes other → kind ≡ other
one_fault known bytes Device other a b = absurd a
one_fault known bytes Memory other a b = absurd a
one_fault known bytes Truncated Truncated a b = refl
one_fault known bytes Truncated Sync a b = absurd (cut_or_wrong known bytes BadSync a b)
one_fault known bytes Truncated Checksum a b = absurd (cut_or_wrong known bytes BadChecksum a b)
one_fault known bytes Truncated Length a b = absurd (cut_or_wrong known bytes BadLength a b)
one_fault known bytes Truncated DataChecksum a b = absurd (cut_or_bad known bytes BadSum a b)
one_fault known bytes Truncated Body a b = absurd (cut_or_bad known bytes BadBody a b)
one_fault known bytes Truncated Device a b = absurd b
one_fault known bytes Truncated Memory a b = absurd b
one_fault known bytes Sync Truncated a b = absurd (cut_or_wrong known bytes BadSync b a)
one_fault known bytes Sync Sync a b = refl
one_fault known bytes Sync Checksum a b = absurd (a.1 b.1.0)
one_fault known bytes Sync Length a b = absurd (a.1 b.1.0)
one_fault known bytes Sync DataChecksum a b = absurd (wrong_or_bad known bytes BadSync BadSum a b)
one_fault known bytes Sync Body a b = absurd (wrong_or_bad known bytes BadSync BadBody a b)
one_fault known bytes Sync Device a b = absurd b
one_fault known bytes Sync Memory a b = absurd b
one_fault known bytes Checksum Truncated a b = absurd (cut_or_wrong known bytes BadChecksum b a)
one_fault known bytes Checksum Sync a b = absurd (b.1 a.1.0)
one_fault known bytes Checksum Checksum a b = refl
one_fault known bytes Checksum Length a b = absurd (a.1.1 b.1.1)
one_fault known bytes Checksum DataChecksum a b = absurd (wrong_or_bad known bytes BadChecksum BadSum a b)
one_fault known bytes Checksum Body a b = absurd (wrong_or_bad known bytes BadChecksum BadBody a b)
one_fault known bytes Checksum Device a b = absurd b
one_fault known bytes Checksum Memory a b = absurd b
one_fault known bytes Length Truncated a b = absurd (cut_or_wrong known bytes BadLength b a)
one_fault known bytes Length Sync a b = absurd (b.1 a.1.0)
one_fault known bytes Length Checksum a b = absurd (b.1.1 a.1.1)
one_fault known bytes Length Length a b = refl
one_fault known bytes Length DataChecksum a b = absurd (wrong_or_bad known bytes BadLength BadSum a b)
one_fault known bytes Length Body a b = absurd (wrong_or_bad known bytes BadLength BadBody a b)
one_fault known bytes Length Device a b = absurd b
one_fault known bytes Length Memory a b = absurd b
one_fault known bytes DataChecksum Truncated a b = absurd (cut_or_bad known bytes BadSum b a)
one_fault known bytes DataChecksum Sync a b = absurd (wrong_or_bad known bytes BadSync BadSum b a)
one_fault known bytes DataChecksum Checksum a b = absurd (wrong_or_bad known bytes BadChecksum BadSum b a)
one_fault known bytes DataChecksum Length a b = absurd (wrong_or_bad known bytes BadLength BadSum b a)
one_fault known bytes DataChecksum DataChecksum a b = refl
one_fault known bytes DataChecksum Body a b = absurd (sum_or_body (one_bad known bytes BadSum BadBody a b))
one_fault known bytes DataChecksum Device a b = absurd b
one_fault known bytes DataChecksum Memory a b = absurd b
one_fault known bytes Body Truncated a b = absurd (cut_or_bad known bytes BadBody b a)
one_fault known bytes Body Sync a b = absurd (wrong_or_bad known bytes BadSync BadBody b a)
one_fault known bytes Body Checksum a b = absurd (wrong_or_bad known bytes BadChecksum BadBody b a)
one_fault known bytes Body Length a b = absurd (wrong_or_bad known bytes BadLength BadBody b a)
one_fault known bytes Body DataChecksum a b = absurd (sum_or_body (one_bad known bytes BadSum BadBody b a))
one_fault known bytes Body Body a b = refl
one_fault known bytes Body Device a b = absurd b
one_fault known bytes Body Memory a b = absurd b

-- ---- one reading

no_bytes : (bytes : List ℕ) → bytes ≡ [] → 0 < length bytes → ⊥
no_bytes bytes none some = let e = ap length none in omega arith

one_end : Known → (rest : List ℕ) (fault other : Option ReadFaultKind) → EndsReading rest fault → EndsReading rest other → fault ≡ other
one_end known rest None None a b = refl
one_end known rest None (Some kind) a b = absurd (no_bytes rest a (some_fault rest kind b))
one_end known rest (Some kind) None a b = absurd (no_bytes rest b (some_fault rest kind a))
one_end known rest (Some kind) (Some other) a b = ap (λ k. Some k) (one_fault known rest kind other a b)

-- where a packet stands first the bytes don't end
goes_on_first : Known → (at : ℕ) (packet : PacketData) (bytes more : List ℕ) (fault : Option ReadFaultKind) → PacketStandsFirst at packet bytes more
    → EndsReading bytes fault → ⊥
goes_on_first known at packet bytes more None first none =
    let holds = first.spelled.is_header.lengths.holds in
    no_bytes bytes none (omega (arith, length-first at packet bytes more first))
goes_on_first known at packet bytes more (Some kind) first fault = none_first known at packet bytes more kind first fault

-- the packets that bytes begin with are the first of each reading, and the others follow
pub record Follow (at : ℕ) (packets all : List PacketData) (rest end : List ℕ) : Type 0 where
  pub more : List PacketData
  pub whole : all ≡ packets ++ more
  pub place : ℕ
  pub begins : BeginsPackets place more rest end

pub they_follow : Known → (at : ℕ) (packets all : List PacketData) (bytes rest end : List ℕ) (fault : Option ReadFaultKind)
    → BeginsPackets at packets bytes rest → BeginsPackets at all bytes end → EndsReading end fault
    → Follow at packets all rest end
they_follow known at [] all bytes rest end fault a b ends = record {
  more = all;
  whole = refl;
  place = at;
  begins = subst (λ l. BeginsPackets at all l end) a b;
}
they_follow known at (p ∷ ps) [] bytes rest end fault a b ends =
    absurd (goes_on_first known at p bytes a.0 fault a.1 (subst (λ l. EndsReading l fault) (sym b) ends))
they_follow known at (p ∷ ps) (q ∷ qs) bytes rest end fault a b ends =
    let one = one_first known at p q bytes a.0 b.0 a.1 b.1 in
    let next : BeginsPackets (at + p.header.packet_len) qs a.0 end =
    subst (λ (r : PacketData). BeginsPackets (at + r.header.packet_len) qs a.0 end) (sym one.0)
    (subst (λ l. BeginsPackets (at + q.header.packet_len) qs l end) (sym one.1) b.2) in
    let later = they_follow known (at + p.header.packet_len) ps qs a.0 rest end fault a.2 next ends in
    record {
      more = later.more;
      whole = ap (λ (r : PacketData). r ∷ qs) (sym one.0) ∙ ap (λ l. p ∷ l) later.whole;
      place = later.place;
      begins = later.begins;
    }

none_later : Known → (place : ℕ) (more : List PacketData) (rest end : List ℕ) (fault : Option ReadFaultKind) → BeginsPackets place more rest end
    → EndsReading rest fault → (more ≡ []) × (rest ≡ end)
none_later known place [] rest end fault begins ends = (refl, begins)
none_later known place (p ∷ ps) rest end fault begins ends = absurd (goes_on_first known place p rest begins.0 fault begins.1 ends)

pub one_reading : Known → (bytes : List ℕ) (packets others : List PacketData) (fault other : Option ReadFaultKind) → Reads bytes packets fault
    → Reads bytes others other
    → (packets ≡ others) × (fault ≡ other)
one_reading known bytes packets others fault other a b =
    let follow = they_follow known 0 packets others bytes a.rest b.rest other a.held b.held b.ends in
    let none = none_later known follow.place follow.more a.rest b.rest fault follow.begins a.ends in (
      sym (follow.whole ∙ ap (λ l. packets ++ l) none.0 ∙ append-nil packets),
      one_end known a.rest fault other a.ends (subst (λ l. EndsReading l other) (sym none.1) b.ends),
    )

-- ---- spellings

at_once : (packet : PacketData) (spelling rest : List ℕ) → SpellsPacket packet spelling → PacketStandsFirst packet.at packet (spelling ++ rest) rest
at_once packet spelling rest spells = record { place = refl; spelling = spelling; spelled = spells; whole = refl }

pub no_longer : Known → (packet other : PacketData) (spelling rest : List ℕ) → SpellsPacket packet spelling → SpellsPacket other (spelling ++ rest) → rest ≡ []
no_longer known packet other spelling rest a b =
    let longer : PacketStandsFirst other.at other (spelling ++ rest) [] =
    record { place = refl; spelling = spelling ++ rest; spelled = b; whole = sym (append-nil (spelling ++ rest)) } in
    let one = one_headed known _ _ _ _ (spelling ++ rest) rest [] (headed_first packet.at packet (spelling ++ rest) rest (at_once packet spelling rest a))
    (headed_first other.at other (spelling ++ rest) [] longer) in
    one.2

pub one_packet : Known → (packet other : PacketData) (spelling : List ℕ) → SpellsPacket packet spelling → SpellsPacket other spelling → packet.at ≡ other.at
    → packet ≡ other
one_packet known packet other spelling a b place =
    let also : PacketStandsFirst packet.at other (spelling ++ []) [] = record { place = sym place; spelling = spelling; spelled = b; whole = refl } in
    (one_first known packet.at packet other (spelling ++ []) [] [] (at_once packet spelling [] a) also).0
