-- The beginning of a recording that is read to its end.
use Rattle.std.proofs.Common.{◌≡◌, ℕ, ◌+◌, ◌<◌, ◌≤◌, ◌⊎◌, inl, inr, List, [], ◌∷◌, ◌++◌, length, take, drop, None, Some, refl, sym, ap, subst, ◌∙◌, arith}
use Rattle.std.specs.Prelude.{◌≢◌}
use Rattle.std.proofs.lemmas.Bool.{cases_lt}
use Rattle.std.proofs.lemmas.List.{append_assoc, length-append, nil_from_length, take_at, drop_at, take-append-drop, take-append-le, drop-append-le}
use Rattle.ch11_packet.specs.declared.header.TheConstants.{HEADER_LEN}
use Rattle.ch11_packet.specs.Header.{HeaderData, IsHeader, header_bytes}
use Rattle.ch11_packet.specs.Classes.{IsJudgedAs, IsSummed, Holds, data_in}
use Rattle.ch11_packet.specs.declared.class.What.{What}
use Rattle.ch11_packet.specs.declared.class.What.TheVariants.{Other}
use Rattle.rec_reader.specs.declared.fault.ReadFaultKind.TheVariants.{Truncated}
use Rattle.rec_reader.specs.Packets.{PacketData, packet_of, SpellsPacket, PacketStandsFirst, BeginsPackets}
use Rattle.rec_reader.specs.Reading.{IsTruncated, Reads, ReadsAsFront}
use Rattle.rec_reader.proofs.Splitting.{length-header}

-- the packets that are whole in the front, and what is left of it
record Front (at : ℕ) (packets : List PacketData) (front : List ℕ) : Type 0 where
  some : List PacketData
  more : List PacketData
  whole : packets ≡ some ++ more
  left : List ℕ
  held : BeginsPackets at some front left
  ends : (left ≡ []) ⊎ IsTruncated left

-- a part of a packet is cut
part_cut : (at : ℕ) (packet : PacketData) (front rest more : List ℕ) → PacketStandsFirst at packet (front ++ rest) more → 0 < length front
    → length front < packet.header.packet_len
    → (length front < HEADER_LEN) ⊎ (HEADER_LEN ≤ length front) → IsTruncated front
part_cut at packet front rest more first some few (inl short) = inl (some, short)
part_cut at packet front rest more first some few (inr long) =
    let header = packet.header in
    let all : front ++ rest ≡ header_bytes header ++ (packet.body ++ more) =
    first.whole ∙ ap (λ l. l ++ more) first.spelled.whole ∙ append_assoc (header_bytes header) packet.body more in
    let head : take HEADER_LEN front ≡ header_bytes header =
    sym (take-append-le HEADER_LEN front rest long) ∙ ap (take HEADER_LEN) all
    ∙ take_at (header_bytes header) (packet.body ++ more) HEADER_LEN (length-header header) in
    inr (
      header,
      drop HEADER_LEN front,
      record {
        is_header = first.spelled.is_header;
        whole = sym (take-append-drop HEADER_LEN front) ∙ ap (λ l. l ++ drop HEADER_LEN front) head;
      },
      few,
    )

-- a front that has the whole packet
past : (spelling front rest more : List ℕ) → front ++ rest ≡ spelling ++ more → length spelling ≤ length front
    → (front ≡ spelling ++ drop (length spelling) front) × (drop (length spelling) front ++ rest ≡ more)
past spelling front rest more e long = (
  sym (take-append-drop (length spelling) front)
      ∙ ap (λ l. l ++ drop (length spelling) front) (sym (take-append-le (length spelling) front rest long) ∙ ap (take (length spelling)) e
      ∙ take_at spelling more (length spelling) refl),
  sym (drop-append-le (length spelling) front rest long) ∙ ap (drop (length spelling)) e ∙ drop_at spelling more (length spelling) refl,
)

front_of : (at : ℕ) (packets : List PacketData) (front rest : List ℕ) → BeginsPackets at packets (front ++ rest) [] → Front at packets front
front_of at [] front rest begins =
    record {
      some = [];
      more = [];
      whole = refl;
      left = front;
      held = refl;
      ends = inl (let e = ap length begins in let l = length-append front rest in nil_from_length front (omega (arith, e, l)));
    }
front_of at (p ∷ ps) front rest begins =
    let first = begins.1 in
    elim (cases_lt (length front) p.header.packet_len) [
      | inl few ↦ (
          elim (cases_lt 0 (length front)) [
            | inl some ↦ record {
              some = [];
              more = p ∷ ps;
              whole = refl;
              left = front;
              held = refl;
              ends = inr (part_cut at p front rest begins.0 first some few (cases_lt (length front) HEADER_LEN));
            }
            | inr none ↦ record { some = []; more = p ∷ ps; whole = refl; left = front; held = refl; ends = inl (nil_from_length front (omega arith)) }
          ])
      | inr long ↦ (
          let spelled_len = first.spelled.long in
          let split = past first.spelling front rest begins.0 first.whole (omega (arith, spelled_len)) in
          let left = drop (length first.spelling) front in
          let next = front_of (at + p.header.packet_len) ps left rest (subst (λ l. BeginsPackets (at + p.header.packet_len) ps l []) (sym split.1) begins.2) in
          record {
            some = p ∷ next.some;
            more = next.more;
            whole = ap (λ l. p ∷ l) next.whole;
            left = next.left;
            held = (left, record { place = first.place; spelling = first.spelling; spelled = first.spelled; whole = split.0 }, next.held);
            ends = next.ends;
          })
    ]

reads_front : (packets : List PacketData) (front : List ℕ) (cut : Front 0 packets front) → (cut.left ≡ []) ⊎ IsTruncated cut.left
    → Reads front cut.some None ⊎ Reads front cut.some (Some Truncated)
reads_front packets front cut (inl none) = inl (record { rest = cut.left; held = cut.held; ends = none })
reads_front packets front cut (inr part) = inr (record { rest = cut.left; held = cut.held; ends = part })

pub reads_as_front : (front rest : List ℕ) (packets : List PacketData) → Reads (front ++ rest) packets None → ReadsAsFront front packets
reads_as_front front rest packets reads =
    let cut = front_of 0 packets front rest (subst (λ l. BeginsPackets 0 packets (front ++ rest) l) reads.ends reads.held) in
    record { some = cut.some; more = cut.more; whole = cut.whole; reads = reads_front packets front cut cut.ends }

-- ---- what isn't judged

pub spells_again : ((header other : HeaderData) (body more : List ℕ) (what : What) → IsJudgedAs header other → data_in other more ≡ data_in header body
    → (what ≢ Other → IsSummed other more) → Holds header body what → Holds other more what)
    → (packet : PacketData) (spelling body : List ℕ) (header : HeaderData) → SpellsPacket packet spelling → IsJudgedAs packet.header header → IsHeader header
    → data_in header body ≡ data_in packet.header packet.body → (packet.what ≢ Other → IsSummed header body) → HEADER_LEN + length body ≡ header.packet_len
    → SpellsPacket (packet_of packet.at header body packet.what) (header_bytes header ++ body)
spells_again again packet spelling body header spells judged is bytes sums long = record {
  is_header = is;
  whole = refl;
  long = length-append (header_bytes header) body ∙ ap (λ n. n + length body) (length-header header) ∙ long;
  holds = again packet.header header packet.body body packet.what judged bytes sums spells.holds;
}
