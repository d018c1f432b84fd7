-- Packets that are given a data checksum, and the upgrade of packets.
-- idea: an upgrade goes packet by packet, and a packet with a data checksum has the same data behind the same fields, so
-- what isn't judged of a packet makes no difference; its flags say that it has one, so it isn't old any more.
use Rattle.std.proofs.Common.{◌≡◌, ℕ, ◌+◌, ◌-◌, ◌/◌, ◌%◌, ◌^◌, ◌<◌, ◌≤◌, ◌⊎◌, ◌↔◌, inl, inr, true, false, List, []}
use Rattle.std.proofs.Common.{◌∷◌, ◌++◌, length, map, None, All, refl, sym, ap, subst, ◌∙◌, arith}
use Rattle.std.specs.Prelude.{◌≢◌, ◌==◌, ◌&&◌, not, nat_le, bit_and, bit_or}
use Rattle.std.proofs.lemmas.Bool.{cases_Bool, and_parts, and_left, and_right, not-true, eq-eqb, eqb-false, leb-true, cond-true, cond-false}
use Rattle.std.proofs.lemmas.List.{append_assoc, append-nil, length-append, length-take-le, take_at}
use Rattle.std.proofs.lemmas.List.Elements.{All-nil, All-cons, All-head, All-tail}
use Rattle.std.proofs.lemmas.Nat.Bits.{and_high_mask, or_low_ones}
use Rattle.ch11_packet.specs.declared.header.TheConstants.{HEADER_LEN, MAX_ETHERNET_PACKET_LEN}
use Rattle.ch11_packet.specs.declared.class.What.TheVariants.{Other}
use Rattle.ch11_packet.specs.Flags.{has_bit, IsPlain}
use Rattle.ch11_packet.specs.Header.{HeaderData, IsHeader, header_bytes}
use Rattle.ch11_packet.specs.PacketLen.{written_len}
use Rattle.ch11_packet.specs.Packet.{packet_trailer}
use Rattle.ch11_packet.specs.Classes.{IsJudgedAs, IsSummed, data_in}
use Rattle.ch11_packet.specs.Profiles.Profile.{WithSum}
use Rattle.rec_reader.specs.Packets.{PacketData, packet_of, SpellsPacket, BeginsPackets, BeginSomeBytes}
use Rattle.rec_reader.specs.Reading.{Reads}
use Rattle.rec_reader.specs.Audits.{is_other}
use Rattle.rec_reader.specs.Upgrades.{is_old, checked_header, with_checksum, upgraded, placed_from, upgrade, spelling_of, spellings, upgrade_bytes}
use Rattle.ch11_packet.proofs.Lengths.{length-trailer}
use Rattle.ch11_packet.proofs.Summed.{written_sum}
use Rattle.rec_reader.proofs.Alike.{Alike, AreAlike}
use Rattle.rec_reader.proofs.Splitting.{length-header}

-- ---- old packets

-- an old packet holds something, its flags are a multiple of 4, and its new length isn't too great
pub record IsOld (packet : PacketData) : Type 0 where
  pub held : is_other packet.what ≡ false
  pub flags : packet.header.flags % 4 ≡ 0
  pub fits : written_len WithSum packet.header.data_len ≤ MAX_ETHERNET_PACKET_LEN

low_bits : (flags : ℕ) → has_bit flags 1 ≡ false → has_bit flags 0 ≡ false → flags % 4 ≡ 0
low_bits flags high low =
    let a = eqb-false (flags / 2 ^ 1 % 2) 1 high in
    let b = eqb-false (flags / 2 ^ 0 % 2) 1 low in
    omega (arith, a, b)

pub old_is : (packet : PacketData) → is_old packet ≡ true → IsOld packet
old_is packet is =
    let bits = not (has_bit packet.header.flags 1) && not (has_bit packet.header.flags 0) in
    let short = nat_le (written_len WithSum packet.header.data_len) MAX_ETHERNET_PACKET_LEN in
    let outer = and_parts (not (is_other packet.what) && bits) short is in
    let inner = and_parts (not (is_other packet.what)) bits outer.0 in
    let two = and_parts (not (has_bit packet.header.flags 1)) (not (has_bit packet.header.flags 0)) inner.1 in
    record {
      held = not-true (is_other packet.what) inner.0;
      flags = low_bits packet.header.flags (not-true (has_bit packet.header.flags 1) two.0) (not-true (has_bit packet.header.flags 0) two.1);
      fits = leb-true (written_len WithSum packet.header.data_len) MAX_ETHERNET_PACKET_LEN outer.1;
    }

-- ---- flags with both bits set

set_low : (flags : ℕ) → flags % 4 ≡ 0 → has_bit (flags + 3) 0 ≡ true
set_low flags e = eq-eqb ((flags + 3) / 2 ^ 0 % 2) 1 (omega (arith, e))

set_high : (flags : ℕ) → flags % 4 ≡ 0 → has_bit (flags + 3) 1 ≡ true
set_high flags e = eq-eqb ((flags + 3) / 2 ^ 1 % 2) 1 (omega (arith, e))

unset_low : (flags : ℕ) → flags % 4 ≡ 0 → has_bit flags 0 ≡ has_bit flags 1
unset_low flags e =
    let low : flags / 2 ^ 0 % 2 ≡ 0 = omega (arith, e) in
    let high : flags / 2 ^ 1 % 2 ≡ 0 = omega (arith, e) in
    ap (λ n. n == 1) (low ∙ sym high)

kept_6 : (flags : ℕ) → flags % 4 ≡ 0 → has_bit (flags + 3) 6 ≡ has_bit flags 6
kept_6 flags e = let same : (flags + 3) / 64 ≡ flags / 64 = omega (arith, e) in ap (λ n. n % 2 == 1) same

kept_7 : (flags : ℕ) → flags % 4 ≡ 0 → has_bit (flags + 3) 7 ≡ has_bit flags 7
kept_7 flags e = let same : (flags + 3) / 128 ≡ flags / 128 = omega (arith, e) in ap (λ n. n % 2 == 1) same

plain_again : (flags : ℕ) → flags % 4 ≡ 0 → IsPlain flags ↔ IsPlain (flags + 3)
plain_again flags e = (
  λ plain. record {
    no_secondary_header = kept_7 flags e ∙ plain.no_secondary_header;
    no_secondary_times = kept_6 flags e ∙ plain.no_secondary_times;
    whole_checksum = set_high flags e ∙ sym (set_low flags e);
  },
  λ plain. record {
    no_secondary_header = sym (kept_7 flags e) ∙ plain.no_secondary_header;
    no_secondary_times = sym (kept_6 flags e) ∙ plain.no_secondary_times;
    whole_checksum = sym (unset_low flags e);
  },
)

-- to set both bits is to add them
pub set_both : (flags : ℕ) → flags < 2 ^ 8 → flags % 4 ≡ 0 → bit_or flags 3 ≡ flags + 3
set_both flags small e =
    let kept = and_high_mask 8 2 (omega arith) flags small in
    let same : bit_and flags (2 ^ 8 - 2 ^ 2) ≡ flags = kept ∙ omega (arith, e) in
    let both = or_low_ones 8 2 (omega arith) flags same in
    omega (arith, both)

-- ---- a packet with a data checksum

-- the packet's header with one is a header
pub checked_is : (header : HeaderData) → IsHeader header → header.flags % 4 ≡ 0 → written_len WithSum header.data_len ≤ MAX_ETHERNET_PACKET_LEN
    → IsHeader (checked_header header)
checked_is header is e fits = record {
  channel = is.channel;
  packet_len = omega (arith, fits);
  version = is.version;
  sequence = is.sequence;
  flags = let small = is.flags in omega (arith, small, e);
  kind = is.kind;
  counter = is.counter;
  lengths = record { holds = omega arith; checked = λ has. omega arith; aligned = omega arith; most = λ ethernet. fits };
}

-- the data of a packet are as long as its header says
length-data : (packet : PacketData) (spelling : List ℕ) → SpellsPacket packet spelling → length (data_in packet.header packet.body) ≡ packet.header.data_len
length-data packet spelling spells =
    let long : length spelling ≡ HEADER_LEN + length packet.body =
    ap (λ l. length l) spells.whole ∙ length-append (header_bytes packet.header) packet.body
    ∙ ap (λ n. n + length packet.body) (length-header packet.header) in
    let whole = spells.long in
    let holds = spells.is_header.lengths.holds in
    length-take-le packet.header.data_len packet.body (omega (arith, long, whole, holds))

-- and as many of those with a data checksum
same_data : (header : HeaderData) (own : List ℕ) → length own ≡ header.data_len → data_in (checked_header header) (own ++ packet_trailer WithSum own) ≡ own
same_data header own long = take_at own (packet_trailer WithSum own) header.data_len long

length-checked : (own : List ℕ) → HEADER_LEN + length (own ++ packet_trailer WithSum own) ≡ written_len WithSum (length own)
length-checked own = omega (arith, length-append own (packet_trailer WithSum own), length-trailer WithSum own)

judged_as : (header : HeaderData) → header.flags % 4 ≡ 0 → IsJudgedAs header (checked_header header)
judged_as header e = record { channel = refl; data_len = refl; kind = refl; flags = plain_again header.flags e }

-- what a law says of packets whose bytes aren't judged
abbrev pub Respells : Type 0
Respells =
    (packet : PacketData) (spelling body : List ℕ) (header : HeaderData)
    → SpellsPacket packet spelling → IsJudgedAs packet.header header → IsHeader header
    → data_in header body ≡ data_in packet.header packet.body → (packet.what ≢ Other → IsSummed header body)
    → HEADER_LEN + length body ≡ header.packet_len
    → SpellsPacket (packet_of packet.at header body packet.what) (header_bytes header ++ body)

spells_checked : Respells → (packet : PacketData) (spelling : List ℕ) → SpellsPacket packet spelling → IsOld packet
    → SpellsPacket (with_checksum packet) (spelling_of (with_checksum packet))
spells_checked again packet spelling spells old =
    let own = data_in packet.header packet.body in
    let long = length-data packet spelling spells in
    again packet spelling (own ++ packet_trailer WithSum own) (checked_header packet.header) spells (judged_as packet.header old.flags)
    (checked_is packet.header spells.is_header old.flags old.fits) (same_data packet.header own long) (λ other has. written_sum own)
    (length-checked own ∙ ap (λ n. written_len WithSum n) long)

-- ---- one packet of an upgrade

upgraded_old : (packet : PacketData) → is_old packet ≡ true → upgraded packet ≡ with_checksum packet
upgraded_old packet is = cond-true (is_old packet) (with_checksum packet) packet is

upgraded_other : (packet : PacketData) → is_old packet ≡ false → upgraded packet ≡ packet
upgraded_other packet isnt = cond-false (is_old packet) (with_checksum packet) packet isnt

alike_checked : (packet : PacketData) (spelling : List ℕ) → SpellsPacket packet spelling → Alike packet (with_checksum packet)
alike_checked packet spelling spells = record {
  channel = refl;
  what = refl;
  bytes = same_data packet.header (data_in packet.header packet.body) (length-data packet spelling spells);
}

upgraded_alike : (packet : PacketData) (spelling : List ℕ) → SpellsPacket packet spelling → (is_old packet ≡ true) ⊎ (is_old packet ≡ false)
    → Alike packet (upgraded packet)
upgraded_alike packet spelling spells (inl is) = subst (Alike packet) (sym (upgraded_old packet is)) (alike_checked packet spelling spells)
upgraded_alike packet spelling spells (inr isnt) = subst (Alike packet) (sym (upgraded_other packet isnt))
    (record { channel = refl; what = refl; bytes = refl })

upgraded_spells : Respells → (packet : PacketData) (spelling : List ℕ) → SpellsPacket packet spelling → (is_old packet ≡ true) ⊎ (is_old packet ≡ false)
    → SpellsPacket (upgraded packet) (spelling_of (upgraded packet))
upgraded_spells again packet spelling spells (inl is) =
    subst (λ p. SpellsPacket p (spelling_of p)) (sym (upgraded_old packet is)) (spells_checked again packet spelling spells (old_is packet is))
upgraded_spells again packet spelling spells (inr isnt) =
    subst (λ p. SpellsPacket p (spelling_of p)) (sym (upgraded_other packet isnt)) (subst (SpellsPacket packet) spells.whole spells)

-- a packet with a data checksum isn't old
checked_isnt_old : (packet : PacketData) → IsOld packet → is_old (with_checksum packet) ≡ false
checked_isnt_old packet old =
    let header = checked_header packet.header in
    let bits = not (has_bit header.flags 1) && not (has_bit header.flags 0) in
    let low : not (has_bit header.flags 0) ≡ false = ap not (set_low packet.header.flags old.flags) in
    and_left (not (is_other packet.what) && bits) (nat_le (written_len WithSum packet.header.data_len) MAX_ETHERNET_PACKET_LEN)
    (and_right (not (is_other packet.what)) bits (and_right (not (has_bit header.flags 1)) (not (has_bit header.flags 0)) low))

pub upgraded_isnt_old : (packet : PacketData) → (is_old packet ≡ true) ⊎ (is_old packet ≡ false) → is_old (upgraded packet) ≡ false
upgraded_isnt_old packet (inl is) = ap is_old (upgraded_old packet is) ∙ checked_isnt_old packet (old_is packet is)
upgraded_isnt_old packet (inr isnt) = ap is_old (upgraded_other packet isnt) ∙ isnt

-- ---- all of them

-- each packet has a spelling
abbrev AreSpelled : List PacketData → Type 0
AreSpelled [] = Unit {0}
AreSpelled (p ∷ ps) = ((spelling : List ℕ) × SpellsPacket p spelling) × AreSpelled ps

spelled_from : (at : ℕ) (ps : List PacketData) (bytes rest : List ℕ) → BeginsPackets at ps bytes rest → AreSpelled ps
spelled_from at [] bytes rest begins = tt
spelled_from at (p ∷ ps) bytes rest begins =
    ((begins.1.spelling, begins.1.spelled), spelled_from (at + p.header.packet_len) ps begins.0 rest begins.2)

are_spelled : (ps : List PacketData) → BeginSomeBytes ps → AreSpelled ps
are_spelled ps begin = spelled_from 0 ps begin.0 begin.1 begin.2

-- a packet at another place
moved_alike : (at : ℕ) (p q : PacketData) → Alike p q → Alike p (record q { at = at })
moved_alike at p q a = record { channel = a.channel; what = a.what; bytes = a.bytes }

moved_spells : (at : ℕ) (p : PacketData) (spelling : List ℕ) → SpellsPacket p spelling → SpellsPacket (record p { at = at }) spelling
moved_spells at p spelling spells = record { is_header = spells.is_header; whole = spells.whole; long = spells.long; holds = spells.holds }

alike_from : (at : ℕ) (ps : List PacketData) → AreSpelled ps → AreAlike ps (placed_from at (map upgraded ps))
alike_from at [] spelled = tt
alike_from at (p ∷ ps) spelled = (
  moved_alike at p (upgraded p) (upgraded_alike p spelled.0.0 spelled.0.1 (cases_Bool (is_old p))),
  alike_from (at + (upgraded p).header.packet_len) ps spelled.1,
)

pub alike_upgrade : (ps : List PacketData) → BeginSomeBytes ps → AreAlike ps (upgrade ps)
alike_upgrade ps begin = alike_from 0 ps (are_spelled ps begin)

begins_from : Respells → (at : ℕ) (ps : List PacketData) → AreSpelled ps → BeginsPackets at (placed_from at (map upgraded ps)) (upgrade_bytes ps) []
begins_from again at [] spelled = refl
begins_from again at (p ∷ ps) spelled =
    let new = upgraded p in (
      upgrade_bytes ps,
      record {
        place = refl;
        spelling = spelling_of new;
        spelled = moved_spells at new (spelling_of new) (upgraded_spells again p spelled.0.0 spelled.0.1 (cases_Bool (is_old p)));
        whole = refl;
      },
      begins_from again (at + new.header.packet_len) ps spelled.1,
    )

pub reads_upgrade : Respells → (ps : List PacketData) → BeginSomeBytes ps → Reads (upgrade_bytes ps) (upgrade ps) None
reads_upgrade again ps begin = record { rest = []; held = begins_from again 0 ps (are_spelled ps begin); ends = refl }

-- the bytes of a recording are those of its packets
spelled_by : (at : ℕ) (ps : List PacketData) (bytes rest : List ℕ) → BeginsPackets at ps bytes rest → bytes ≡ spellings ps ++ rest
spelled_by at [] bytes rest begins = begins
spelled_by at (p ∷ ps) bytes rest begins =
    let first = begins.1 in
    first.whole ∙ ap (λ l. l ++ begins.0) first.spelled.whole
    ∙ ap (λ l. spelling_of p ++ l) (spelled_by (at + p.header.packet_len) ps begins.0 rest begins.2)
    ∙ sym (append_assoc (spelling_of p) (spellings ps) rest)

pub bytes_are : (bytes : List ℕ) (ps : List PacketData) → Reads bytes ps None → bytes ≡ spellings ps
bytes_are bytes ps reads = spelled_by 0 ps bytes reads.rest reads.held ∙ ap (λ l. spellings ps ++ l) reads.ends ∙ append-nil (spellings ps)

-- ---- twice

placed_twice : (at : ℕ) (ps : List PacketData) → placed_from at (placed_from at ps) ≡ placed_from at ps
placed_twice at [] = refl
placed_twice at (p ∷ ps) = ap (λ l. record p { at = at } ∷ l) (placed_twice (at + p.header.packet_len) ps)

-- packets of which none is old stay as they are
pub none_changed : (ps : List PacketData) → All (λ p. is_old p ≡ false) ps → map upgraded ps ≡ ps
none_changed [] none = refl
none_changed (p ∷ ps) none =
    ap (λ q. q ∷ map upgraded ps) (upgraded_other p (All-head (λ p. is_old p ≡ false) p ps none))
    ∙ ap (λ l. p ∷ l) (none_changed ps (All-tail (λ p. is_old p ≡ false) p ps none))

none_old_from : (at : ℕ) (ps : List PacketData) → All (λ p. is_old p ≡ false) (placed_from at (map upgraded ps))
none_old_from at [] = All-nil (λ p. is_old p ≡ false)
none_old_from at (p ∷ ps) =
    All-cons (λ q. is_old q ≡ false) (record (upgraded p) { at = at }) (placed_from (at + (upgraded p).header.packet_len) (map upgraded ps))
    (upgraded_isnt_old p (cases_Bool (is_old p))) (none_old_from (at + (upgraded p).header.packet_len) ps)

pub none_old : (ps : List PacketData) → All (λ p. is_old p ≡ false) (upgrade ps)
none_old ps = none_old_from 0 ps

pub upgrade_twice : (ps : List PacketData) → upgrade (upgrade ps) ≡ upgrade ps
upgrade_twice ps = ap (placed_from 0) (none_changed (upgrade ps) (none_old ps)) ∙ placed_twice 0 (map upgraded ps)

-- places change no bytes
placed_bytes : (at : ℕ) (ps : List PacketData) → spellings (placed_from at ps) ≡ spellings ps
placed_bytes at [] = refl
placed_bytes at (p ∷ ps) = ap (λ l. spelling_of p ++ l) (placed_bytes (at + p.header.packet_len) ps)

pub bytes_twice : (ps : List PacketData) → upgrade_bytes (upgrade ps) ≡ upgrade_bytes ps
bytes_twice ps = ap spellings (none_changed (upgrade ps) (none_old ps)) ∙ placed_bytes 0 (map upgraded ps)

pub bytes_unchanged : (bytes : List ℕ) (ps : List PacketData) → Reads bytes ps None → All (λ p. is_old p ≡ false) ps → upgrade_bytes ps ≡ bytes
bytes_unchanged bytes ps reads none = ap spellings (none_changed ps none) ∙ sym (bytes_are bytes ps reads)
