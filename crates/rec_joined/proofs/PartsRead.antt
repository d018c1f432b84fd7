-- The packets of recordings that are joined, read at their places, and as the packets of one recording.
use Rattle.std.proofs.Common.{ℕ, ◌≡◌, ◌+◌, ◌-◌, ◌^◌, ◌<◌, ◌≤◌, List, [], ◌∷◌, ◌++◌, length, drop, Option, None, Some, inl, inr}
use Rattle.std.proofs.Common.{Bool, true, false, refl, sym, ◌∙◌, ap, subst, arith, append_assoc, append-nil, length-append, lt-ltb, le-ltb}
use Rattle.std.proofs.lemmas.List.{drop_more}
use Rattle.std.specs.Prelude.{◌==◌, slice_index_or, if◌then◌else◌, IfSome, IfOk, Result, Ok, Err}
use Rattle.ch11_merge.specs.declared.source.PieceFault.{PieceFault}
use Rattle.std.specs.List.{AllByRecursion}
use Rattle.std.proofs.lemmas.Bool.{cases_Bool, eqb-true}
use Rattle.ch11_packet.specs.declared.header.TheConstants.{HEADER_LEN, ETHERNET_DATA}
use Rattle.ch11_packet.specs.declared.class.What.{What}
use Rattle.ch11_packet.specs.declared.class.What.TheVariants.{Frames, Program, End, Other}
use Rattle.ch11_packet.specs.Header.{HeaderData, IsHeader, header_bytes}
use Rattle.ch11_packet.specs.Classes.{data_in}
use Rattle.rec_reader.specs.ChannelFrames.{frames_held}
use Rattle.rec_reader.specs.Packets.{PacketData, PacketStandsFirst, SpellsPacket, BeginsPackets, packet_of, packets_len}
use Rattle.rec_reader.specs.Reading.{Reads}
use Rattle.rec_pieces.specs.declared.entry.PieceKind.{PieceKind}
use Rattle.rec_pieces.specs.Entries.{AreThere, IsThere, PacketThere, PacketPlaces, packet_names}
use Rattle.rec_pieces.specs.PieceListings.{ListsPackets}
use Rattle.rec_joined.specs.declared.joined.Joined.{Joined}
use Rattle.rec_joined.specs.declared.joined.Part.{Part}
use Rattle.rec_joined.specs.JoinedListings.{ListsMoved}
use Rattle.rec_joined.specs.Moving.{Moving, moving_of}
use Rattle.rec_joined.specs.MovedFrames.{HaveCounters}
use Rattle.rec_joined.specs.MovedRecords.{RecordMoving, is_at, leaves_out, still_records}
use Rattle.rec_joined.specs.MovedPackets.{HasCounters, IsMovable, IsNamedAs, IsPlaced, is_left_out, listed_packet, listed_what}
use Rattle.rec_joined.specs.MovedPackets.{moved_data, moved_header, moved_packet, moved_there, moved_what}
use Rattle.rec_joined.specs.JoinedPackets.{AreParts, IsJoined, IsJoinedPart, JoinsRecording, KeepRecords, both_places}
use Rattle.rec_joined.specs.JoinedPackets.{end_behind, joined_packets, joined_places, moved_packets, place_in, placed_packet}
use Rattle.rec_joined.proofs.MovedClasses.{IsMade, frames_gap, frames_own, made, not_checked}

-- ---- a packet

header_bytes_len : (header : HeaderData) → length (header_bytes header) ≡ HEADER_LEN
unfolding header_bytes
header_bytes_len header = refl

held_movable : (moving : Moving) (packet : PacketData) (what : What) (named : ℕ × PieceKind) → packet.what ≡ what → packet_names packet ≡ Some named
    → HasCounters moving packet → HaveCounters moving.counters (frames_held what (data_in packet.header packet.body))
held_movable moving packet (Frames count) named is names fit = frames_gap moving packet count named is names fit
held_movable moving packet (Program channel version first count) named is names fit = tt
held_movable moving packet (End channel offered kept) named is names fit = tt
held_movable moving packet Other named is names fit = tt

-- what is made of a packet that stands somewhere
pub made_of : (moving : Moving) (packet : PacketData) (spelling : List ℕ) (at : ℕ) → SpellsPacket packet spelling → IsMovable moving packet
    → IsMade moving packet (moved_packet moving at packet).header (moved_packet moving at packet).body
made_of moving packet spelling at spelled movable =
    let names = movable.named.1 in
    let long : HEADER_LEN + length packet.body ≡ packet.header.packet_len =
    omega (arith, spelled.long, ap length spelled.whole, length-append (header_bytes packet.header) packet.body, header_bytes_len packet.header) in
    made moving packet movable.named.0 (moved_header moving packet.header)
    (moved_data moving packet.header.kind (data_in packet.header packet.body) ++ drop packet.header.data_len packet.body)
    names spelled.is_header long
    (held_movable moving packet packet.what (names.channel, names.kind) refl names.named movable.counters) movable.numbers (λ _. refl) refl spelled.holds

there_moved : (moving : Moving) (there : PacketThere) (packet : PacketData) (spelling : List ℕ) (at : ℕ) → SpellsPacket packet spelling
    → IsMovable moving packet → IsThere there packet → IsThere (moved_there moving there) (listed_packet moving at packet)
there_moved moving there packet spelling at spelled movable is = record {
  header = ap (moved_header moving) is.header;
  held = ap (λ (h : HeaderData). moved_data moving h.kind there.held) is.header ∙ ap (moved_data moving packet.header.kind) is.held
      ∙ sym (made_of moving packet spelling at spelled movable).held_is;
}

channel_fits : (moving : Moving) (packet : PacketData) (spelling : List ℕ) → SpellsPacket packet spelling → (id : ℕ) → IsNamedAs moving packet id
    → (if packet.header.kind == ETHERNET_DATA then moving.ids packet.header.channel else packet.header.channel) < 2 ^ 16
channel_fits moving packet spelling spelled id names = elim (cases_Bool (packet.header.kind == ETHERNET_DATA)) as (λ _.
    (if packet.header.kind == ETHERNET_DATA then moving.ids packet.header.channel else packet.header.channel) < 2 ^ 16) [
      | inl is ↦ rw is (subst (λ n. n < 2 ^ 16)
          (names.given ∙ ap moving.ids (frames_own packet.header (data_in packet.header packet.body) packet.what (names.channel, names.kind)
          spelled.holds.class names.named (eqb-true packet.header.kind ETHERNET_DATA is)))
          names.fits)
      | inr other ↦ rw other spelled.is_header.channel
    ]

header_again : (moving : Moving) (packet : PacketData) (spelling : List ℕ) → SpellsPacket packet spelling → (id : ℕ) → IsNamedAs moving packet id
    → IsHeader (moved_header moving packet.header)
header_again moving packet spelling spelled id names =
    let is = spelled.is_header in
    record {
      channel = channel_fits moving packet spelling spelled id names;
      packet_len = is.packet_len;
      version = is.version;
      sequence = is.sequence;
      flags = omega arith;
      kind = is.kind;
      counter = omega arith;
      lengths = record {
        holds = is.lengths.holds;
        checked = λ checked. absurd (not_checked checked);
        aligned = is.lengths.aligned;
        most = is.lengths.most;
      };
    }

-- it stands where it is put
pub stands_again : (moving : Moving) (packet : PacketData) (spelling : List ℕ) (at : ℕ) (more : List ℕ) → SpellsPacket packet spelling
    → IsMovable moving packet
    → PacketStandsFirst at (moved_packet moving at packet)
    ((header_bytes (moved_header moving packet.header) ++ (moved_packet moving at packet).body) ++ more) more
stands_again moving packet spelling at more spelled movable =
    let is = made_of moving packet spelling at spelled movable in
    let header = moved_header moving packet.header in
    record {
      place = refl;
      spelling = header_bytes header ++ (moved_packet moving at packet).body;
      spelled = record {
        is_header = header_again moving packet spelling spelled movable.named.0 movable.named.1;
        whole = refl;
        long = length-append (header_bytes header) (moved_packet moving at packet).body
            ∙ ap (λ n. n + length (moved_packet moving at packet).body) (header_bytes_len header) ∙ is.long;
        holds = is.holds;
      };
      whole = refl;
    }

-- ---- which are left out

pub all_append : (Q : PacketData → Type 0) (xs ys : List PacketData) → AllByRecursion Q xs → AllByRecursion Q ys → AllByRecursion Q (xs ++ ys)
all_append Q [] ys xs_all ys_all = ys_all
all_append Q (x ∷ xs) ys xs_all ys_all = (xs_all.0, all_append Q xs ys xs_all.1 ys_all)

unless_left : (Q : PacketData → Type 0) (left : Bool) (packet : PacketData) → (left ≡ false → Q packet) → AllByRecursion Q (if left then [] else packet ∷ [])
unless_left Q true packet so = tt
unless_left Q false packet so = (so refl, tt)

-- none is where no records move
abbrev AreStill : Moving → Type 0
AreStill moving = (channel : ℕ) → moving.records channel ≡ still_records

none_left : (moving : Moving) (at : ℕ) (what : What) → AreStill moving → leaves_out moving.records at what ≡ false
none_left moving at (Frames count) still = refl
none_left moving at (Program channel version first count) still = ap (λ (r : RecordMoving). is_at at r.same) (still channel)
none_left moving at (End channel offered kept) still = ap (λ (r : RecordMoving). r.continues) (still channel)
none_left moving at Other still = refl

-- and each is listed as what it is
same_what : (moving : Moving) (what : What) → AreStill moving → listed_what moving what ≡ moved_what moving what
same_what moving (Frames count) still = refl
same_what moving (Program channel version first count) still = refl
same_what moving (End channel offered kept) still =
    let records = moving.records channel in
    let end = λ (n : ℕ). End (moving.ids channel) n (records.kept + kept) in
    elim (cases_Bool (offered == 0)) as (λ _. (if offered == 0 then end 0 else end (records.offered + offered)) ≡ end (records.offered + offered)) [
      | inl none ↦ rw none (ap end (omega (arith, eqb-true offered 0 none, ap (λ (r : RecordMoving). r.offered) (still channel))))
      | inr some ↦ rw some refl
    ]
same_what moving Other still = refl

placed_still : (moving : Moving) (at : ℕ) (packet : PacketData) → AreStill moving → placed_packet moving at packet ≡ moved_packet moving at packet ∷ []
placed_still moving at packet still =
    let moved = moved_packet moving at packet in
    ap (λ b. if b then [] else listed_packet moving at packet ∷ []) (none_left moving packet.at packet.what still)
    ∙ ap (λ what. packet_of at moved.header moved.body what ∷ []) (same_what moving packet.what still)

-- ---- the packets of a recording

len_of : (packet : PacketData) (spelling : List ℕ) → SpellsPacket packet spelling → 0 < packet.header.packet_len
len_of packet spelling spelled = let fits = spelled.is_header.lengths.holds in omega (arith, fits)

here_place : {P : Type 0} (part : Part P) (here others : PacketPlaces) (at own : ℕ) → at < part.end → at - part.start ≡ own
    → place_in part here others at ≡ moved_there (moving_of part.moves) (here own)
here_place part here others at own early is =
    ap (λ b. if b then moved_there (moving_of part.moves) (here (at - part.start)) else others at) (lt-ltb at part.end early)
    ∙ ap (λ n. moved_there (moving_of part.moves) (here n)) is

part_there : {P : Type 0} (part : Part P) (here others : PacketPlaces) (own at : ℕ) (packets : List PacketData) (bytes rest : List ℕ)
    → BeginsPackets own packets bytes rest → AreThere here packets → AllByRecursion (IsPlaced (moving_of part.moves)) packets
    → at ≡ part.start + own → at + packets_len packets ≤ part.end
    → AreThere (place_in part here others) (moved_packets (moving_of part.moves) at packets)
part_there part here others own at [] bytes rest begins there movable is within = tt
part_there part here others own at (p ∷ ps) bytes rest begins there movable is within =
    let moving = moving_of part.moves in
    let first = begins.1 in
    let some = len_of p first.spelling first.spelled in
    let place = first.place in
    let Stands : PacketData → Type 0 = λ q. IsThere (place_in part here others q.at) q in
    all_append Stands (placed_packet moving at p) (moved_packets moving (at + p.header.packet_len) ps)
    (unless_left Stands (is_left_out moving p) (listed_packet moving at p) (λ stays.
    subst (λ t. IsThere t (listed_packet moving at p))
    (sym (here_place part here others at p.at (omega (arith, some, within)) (omega (arith, is, place))))
    (there_moved moving (here p.at) p first.spelling at first.spelled (movable.0 stays) there.0)))
    (part_there part here others (own + p.header.packet_len) (at + p.header.packet_len) ps begins.0 rest begins.2 there.1 movable.1
    (omega (arith, is)) (omega (arith, within)))

-- ---- those of the others

from_more : (start later : ℕ) (packets : List PacketData) → start ≤ later → AllByRecursion (λ (p : PacketData). later ≤ p.at) packets
    → AllByRecursion (λ (p : PacketData). start ≤ p.at) packets
from_more start later [] le from = tt
from_more start later (p ∷ ps) le from = let first = from.0 in (omega (arith, le, first), from_more start later ps le from.1)

moved_from : (moving : Moving) (at : ℕ) (packets : List PacketData) → AllByRecursion (λ (p : PacketData). at ≤ p.at) (moved_packets moving at packets)
moved_from moving at [] = tt
moved_from moving at (p ∷ ps) =
    all_append (λ (q : PacketData). at ≤ q.at) (placed_packet moving at p) (moved_packets moving (at + p.header.packet_len) ps)
    (unless_left (λ (q : PacketData). at ≤ q.at) (is_left_out moving p) (listed_packet moving at p) (λ _. omega arith))
    (from_more at (at + p.header.packet_len) (moved_packets moving (at + p.header.packet_len) ps) (omega arith)
    (moved_from moving (at + p.header.packet_len) ps))

parts_from : {P : Type 0} (there : P → Option PacketPlaces) (start : ℕ) (parts : List (Part P)) (read : List (List PacketData))
    → AreParts there start parts read
    → AllByRecursion (λ (p : PacketData). start ≤ p.at) (joined_packets parts read)
parts_from there start [] [] are = tt
parts_from there start [] (packets ∷ more) are = tt
parts_from there start (part ∷ parts) [] are = tt
parts_from there start (part ∷ parts) (packets ∷ more) are =
    let moving = moving_of part.moves in
    let is = are.0 in
    let starts = is.starts in
    let ends = is.ends in
    all_append (λ (p : PacketData). start ≤ p.at) (moved_packets moving part.start packets) (joined_packets parts more)
    (subst (λ n. AllByRecursion (λ (p : PacketData). n ≤ p.at) (moved_packets moving part.start packets)) starts (moved_from moving part.start packets))
    (from_more start part.end (joined_packets parts more) (omega (arith, ends)) (parts_from there part.end parts more are.1))

there_place : {P : Type 0} (part : Part P) (here others : PacketPlaces) (at : ℕ) → part.end ≤ at → place_in part here others at ≡ others at
there_place part here others at late =
    ap (λ b. if b then moved_there (moving_of part.moves) (here (at - part.start)) else others at) (le-ltb at part.end late)

others_there : {P : Type 0} (part : Part P) (here others : PacketPlaces) (packets : List PacketData)
    → AllByRecursion (λ (p : PacketData). part.end ≤ p.at) packets
    → AreThere others packets → AreThere (place_in part here others) packets
others_there part here others [] from there = tt
others_there part here others (p ∷ ps) from there =
    (subst (λ t. IsThere t p) (sym (there_place part here others p.at from.0)) there.0, others_there part here others ps from.1 there.1)

-- ---- all recordings

two_places : {P : Type 0} (part : Part P) (one other : Option PacketPlaces) (here others : PacketPlaces) → one ≡ Some here → other ≡ Some others
    → both_places part one other ≡ Some (place_in part here others)
two_places part one other here others is also = ap (λ o. both_places part o other) is ∙ ap (both_places part (Some here)) also

pub parts_there : {P : Type 0} (there : P → Option PacketPlaces) (start : ℕ) (parts : List (Part P)) (read : List (List PacketData))
    → AreParts there start parts read
    → (places : PacketPlaces) × (joined_places there parts ≡ Some places) × AreThere places (joined_packets parts read)
parts_there there start [] [] are = (_, refl, tt)
parts_there there start [] (packets ∷ more) are = absurd are
parts_there there start (part ∷ parts) [] are = absurd are
parts_there there start (part ∷ parts) (packets ∷ more) are =
    let is = are.0 in
    let starts = is.starts in
    let ends = is.ends in
    let others = parts_there there part.end parts more are.1 in
    let moving = moving_of part.moves in (
      place_in part is.places others.0,
      two_places part (there part.packets) (joined_places there parts) is.places others.0 is.known others.1,
      all_append (λ (p : PacketData). IsThere (place_in part is.places others.0 p.at) p) (moved_packets moving part.start packets) (joined_packets parts more)
          (part_there part is.places others.0 0 part.start packets is.bytes is.reads.rest is.reads.held is.read is.movable
          (omega arith) (omega (arith, starts, ends)))
          (others_there part is.places others.0 (joined_packets parts more) (parts_from there part.end parts more are.1) others.2),
    )

-- ---- as one recording

begins_append : (at : ℕ) (packets others : List PacketData) (bytes middle rest : List ℕ) → BeginsPackets at packets bytes middle
    → BeginsPackets (at + packets_len packets) others middle rest → BeginsPackets at (packets ++ others) bytes rest
begins_append at [] others bytes middle rest one other =
    subst (λ l. BeginsPackets at others l rest) (sym one) (subst (λ n. BeginsPackets n others middle rest) (omega arith) other)
begins_append at (p ∷ ps) others bytes middle rest one other = (
  one.0,
  one.1,
  begins_append (at + p.header.packet_len) ps others one.0 middle rest one.2
      (subst (λ n. BeginsPackets n others middle rest) (omega arith) other),
)

moved_begin_bytes : (moving : Moving) (own at : ℕ) (packets : List PacketData) (bytes rest tail : List ℕ) → AreStill moving
    → BeginsPackets own packets bytes rest → AllByRecursion (IsPlaced moving) packets
    → (out : List ℕ) × BeginsPackets at (moved_packets moving at packets) out tail
moved_begin_bytes moving own at [] bytes rest tail still begins movable = (tail, refl)
moved_begin_bytes moving own at (p ∷ ps) bytes rest tail still begins movable =
    let first = begins.1 in
    let more = moved_begin_bytes moving (own + p.header.packet_len) (at + p.header.packet_len) ps begins.0 rest tail still begins.2 movable.1 in
    let moved = moved_packet moving at p in
    let out : List ℕ = (header_bytes moved.header ++ moved.body) ++ more.0 in (
      out,
      subst (λ l. BeginsPackets at (l ++ moved_packets moving (at + p.header.packet_len) ps) out tail) (sym (placed_still moving at p still))
          (more.0, stands_again moving p first.spelling at more.0 first.spelled (movable.0 (none_left moving p.at p.what still)), more.1),
    )

moved_len : (moving : Moving) (at : ℕ) (packets : List PacketData) → AreStill moving → packets_len (moved_packets moving at packets) ≡ packets_len packets
moved_len moving at [] still = refl
moved_len moving at (p ∷ ps) still =
    ap (λ l. packets_len (l ++ moved_packets moving (at + p.header.packet_len) ps)) (placed_still moving at p still)
    ∙ ap (λ n. p.header.packet_len + n) (moved_len moving (at + p.header.packet_len) ps still)

parts_begin : {P : Type 0} (there : P → Option PacketPlaces) (start : ℕ) (parts : List (Part P)) (read : List (List PacketData))
    → AreParts there start parts read → KeepRecords parts
    → (bytes : List ℕ) × BeginsPackets start (joined_packets parts read) bytes []
parts_begin there start [] [] are keep = ([], refl)
parts_begin there start [] (packets ∷ more) are keep = absurd are
parts_begin there start (part ∷ parts) [] are keep = absurd are
parts_begin there start (part ∷ parts) (packets ∷ more) are keep =
    let is = are.0 in
    let starts = is.starts in
    let ends = is.ends in
    let moving = moving_of part.moves in
    let others = parts_begin there part.end parts more are.1 keep.1 in
    let own = moved_begin_bytes moving 0 part.start packets is.bytes is.reads.rest others.0 keep.0 is.reads.held is.movable in
    let len = moved_len moving part.start packets keep.0 in (
      own.0,
      subst (λ n. BeginsPackets n (moved_packets moving part.start packets ++ joined_packets parts more) own.0 []) starts
          (begins_append part.start (moved_packets moving part.start packets) (joined_packets parts more) own.0 others.0 [] own.1
          (subst (λ n. BeginsPackets n (joined_packets parts more) others.0 []) (omega (arith, starts, ends, len)) others.1)),
    )

pub parts_read : {P : Type 0} (there : P → Option PacketPlaces) (parts : List (Part P)) (read : List (List PacketData)) → AreParts there 0 parts read
    → KeepRecords parts → (bytes : List ℕ) × Reads bytes (joined_packets parts read) None
parts_read there parts read are keep =
    let bytes = parts_begin there 0 parts read are keep in
    (bytes.0, record { rest = []; held = bytes.1; ends = refl })

-- ---- a further recording

parts_more : {P : Type 0} (there : P → Option PacketPlaces) (start : ℕ) (parts : List (Part P)) (read : List (List PacketData)) (part : Part P)
    (packets : List PacketData) → AreParts there start parts read → IsJoinedPart there (end_behind start parts) part packets
    → AreParts there start (parts ++ part ∷ []) (read ++ packets ∷ [])
parts_more there start [] [] part packets are one = (one, tt)
parts_more there start [] (own ∷ more) part packets are one = absurd are
parts_more there start (p ∷ ps) [] part packets are one = absurd are
parts_more there start (p ∷ ps) (own ∷ more) part packets are one = (are.0, parts_more there p.end ps more part packets are.1 one)

end_more : {P : Type 0} (start : ℕ) (parts : List (Part P)) (part : Part P) → end_behind start (parts ++ part ∷ []) ≡ part.end
end_more start [] part = refl
end_more start (p ∷ ps) part = end_more p.end ps part

joined_more : {P : Type 0} (there : P → Option PacketPlaces) (start : ℕ) (parts : List (Part P)) (read : List (List PacketData)) (part : Part P)
    (packets : List PacketData) → AreParts there start parts read
    → joined_packets (parts ++ part ∷ []) (read ++ packets ∷ []) ≡ joined_packets parts read ++ moved_packets (moving_of part.moves) part.start packets
joined_more there start [] [] part packets are = append-nil (moved_packets (moving_of part.moves) part.start packets)
joined_more there start [] (own ∷ more) part packets are = absurd are
joined_more there start (p ∷ ps) [] part packets are = absurd are
joined_more there start (p ∷ ps) (own ∷ more) part packets are =
    ap (λ l. moved_packets (moving_of p.moves) p.start own ++ l) (joined_more there p.end ps more part packets are.1)
    ∙ sym (append_assoc (moved_packets (moving_of p.moves) p.start own) (joined_packets ps more) (moved_packets (moving_of part.moves) part.start packets))

pub joins : {P : Type 0} (there : P → Option PacketPlaces) (old new : Joined P) (part : Part P) (read : List (List PacketData)) (recording : List ℕ)
    (places : PacketPlaces) (listed : ListsMoved (moving_of part.moves) old.end recording (joined_packets old.parts.items read) new.listing part.end)
    → IsJoined there old read → there part.packets ≡ Some places → ((own : List PacketData) → Reads recording own None → AreThere places own)
    → new.parts.items ≡ old.parts.items ++ part ∷ [] → part.start ≡ old.end → new.end ≡ part.end
    → JoinsRecording there read recording (moving_of part.moves) new
joins there old new part read recording places listed so known read_there pushed starts ends =
    let all = old.parts.items in
    let is : IsJoinedPart there (end_behind 0 all) part listed.packets = record {
      places = places;
      known = known;
      read = read_there listed.packets listed.reads;
      bytes = recording;
      reads = listed.reads;
      movable = listed.movable;
      starts = starts ∙ sym so.ends;
      ends = listed.ends ∙ ap (λ n. n + packets_len listed.packets) (sym so.ends);
    } in
    record {
      own = listed.packets;
      reads = listed.reads;
      movable = listed.movable;
      is_joined = record {
        parts = subst (λ l. AreParts there 0 l (read ++ listed.packets ∷ [])) (sym pushed) (parts_more there 0 all read part listed.packets so.parts is);
        ends = ap (end_behind 0) pushed ∙ end_more 0 all part ∙ sym ends;
        lists = subst (λ l. ListsPackets l new.listing)
            (ap (λ n. joined_packets all read ++ moved_packets (moving_of part.moves) n listed.packets) (sym starts)
            ∙ sym (joined_more there 0 all read part listed.packets so.parts)
            ∙ ap (λ l. joined_packets l (read ++ listed.packets ∷ [])) (sym pushed))
            listed.lists;
      };
    }

-- ---- recording by recording

-- what is read at a place of the recordings is what is read there of those that are left
abbrev pub SameAt : (all left : Option PacketPlaces) → (at : ℕ) → Type 0
SameAt None left at = Unit {0}
SameAt (Some all) None at = ⊥
SameAt (Some all) (Some left) at = left at ≡ all at

pub same_from_all : (all : Option PacketPlaces) (at : ℕ) → SameAt all all at
same_from_all None at = tt
same_from_all (Some all) at = refl

same_behind : {P : Type 0} (part : Part P) (all here others : Option PacketPlaces) (at : ℕ) → SameAt all (both_places part here others) at → part.end ≤ at
    → SameAt all others at
same_behind part None here others at same late = tt
same_behind part (Some all) None others at same late = absurd same
same_behind part (Some all) (Some here) None at same late = absurd same
same_behind part (Some all) (Some here) (Some others) at same late = sym (there_place part here others at late) ∙ same

pub same_later : {P : Type 0} (there : P → Option PacketPlaces) (parts : List (Part P)) (k : ℕ) (part : Part P) (at : ℕ)
    → drop k parts ≡ part ∷ drop (k + 1) parts → SameAt (joined_places there parts) (joined_places there (drop k parts)) at → part.end ≤ at
    → SameAt (joined_places there parts) (joined_places there (drop (k + 1) parts)) at
same_later there parts k part at is same late =
    same_behind part (joined_places there parts) (there part.packets) (joined_places there (drop (k + 1) parts)) at
    (subst (λ l. SameAt (joined_places there parts) (joined_places there l) at) is same) late

there_known : {P : Type 0} (part : Part P) (all here others : Option PacketPlaces) (at : ℕ) (packet : PacketData) → SameAt all (both_places part here others) at
    → at < part.end → IfSome here (λ places. IsThere (moved_there (moving_of part.moves) (places (at - part.start))) packet)
    → IfSome all (λ places. IsThere (places at) packet)
there_known part None here others at packet same early is = tt
there_known part (Some all) None others at packet same early is = absurd same
there_known part (Some all) (Some here) None at packet same early is = absurd same
there_known part (Some all) (Some here) (Some others) at packet same early is =
    subst (λ t. IsThere t packet) (sym (here_place part here others at (at - part.start) early refl) ∙ same) is

pub there_here : {P : Type 0} (there : P → Option PacketPlaces) (parts : List (Part P)) (k : ℕ) (part : Part P) (at : ℕ) (packet : PacketData)
    → drop k parts ≡ part ∷ drop (k + 1) parts → SameAt (joined_places there parts) (joined_places there (drop k parts)) at → at < part.end
    → IfSome (there part.packets) (λ places. IsThere (moved_there (moving_of part.moves) (places (at - part.start))) packet)
    → IfSome (joined_places there parts) (λ places. IsThere (places at) packet)
there_here there parts k part at packet is same early read =
    there_known part (joined_places there parts) (there part.packets) (joined_places there (drop (k + 1) parts)) at packet
    (subst (λ l. SameAt (joined_places there parts) (joined_places there l) at) is same) early read

pub there_result : {P : Type 0} (there : P → Option PacketPlaces) (parts : List (Part P)) (k : ℕ) (part : Part P) (at : ℕ)
    (result : Result PacketData PieceFault)
    → drop k parts ≡ part ∷ drop (k + 1) parts → SameAt (joined_places there parts) (joined_places there (drop k parts)) at → at < part.end
    → IfOk result (λ packet. IfSome (there part.packets) (λ places. IsThere (moved_there (moving_of part.moves) (places (at - part.start))) packet))
    → IfOk result (λ packet. IfSome (joined_places there parts) (λ places. IsThere (places at) packet))
there_result there parts k part at (Ok packet) is same early read = there_here there parts k part at packet is same early read
there_result there parts k part at (Err fault) is same early read = tt

pub item_there : {P : Type 0} (parts : List (Part P)) (k : ℕ) (part : Part P) → k < length parts → part ≡ slice_index_or parts k part
    → drop k parts ≡ part ∷ drop (k + 1) parts
item_there parts k part within is = drop_more parts k part within ∙ ap (λ (p : Part _). p ∷ drop (k + 1) parts) (sym is)

-- ---- what is read

pub some_moved : (moving : Moving) (known : Option PacketPlaces) (own at : ℕ) (packet moved : PacketData) → own ≡ at
    → ((there : PacketThere) → IsThere there packet → IsThere (moved_there moving there) moved)
    → IfSome known (λ places. IsThere (places own) packet) → IfSome known (λ places. IsThere (moved_there moving (places at)) moved)
some_moved moving None own at packet moved same moves is = tt
some_moved moving (Some places) own at packet moved same moves is =
    moves (places at) (subst (λ n. IsThere (places n) packet) same is)
