-- The packets of a recording, moved and listed one by one.
use Rattle.std.proofs.Common.{ℕ, ◌≡◌, ◌+◌, List, [], ◌∷◌, ◌++◌, sym, ◌∙◌, ap, subst}
use Rattle.std.proofs.Common.{arith, append_assoc, append-nil, refl, true, false, inl, inr, Option, None, Some}
use Rattle.std.specs.Prelude.{◌==◌, if◌then◌else◌, Result, Ok, Err, IfErr, IsErrAnd}
use Rattle.std.specs.List.{AllByRecursion}
use Rattle.std.proofs.lemmas.Bool.{eq-eqb, ne_eqb}
use Rattle.ch11_packet.specs.declared.class.What.{What}
use Rattle.ch11_packet.specs.declared.class.What.TheVariants.{Frames, Program, End, Other}
use Rattle.rec_pieces.specs.declared.entry.PieceKind.TheVariants.{Record, Uncounted}
use Rattle.rec_pieces.specs.Entries.{named_by}
use Rattle.rec_joined.proofs.MovedClasses.{named_first}
use Rattle.rec_reader.specs.Packets.{PacketData, packet_of, packets_len}
use Rattle.rec_reader.specs.Readers.{ReaderState, HasRead}
use Rattle.rec_pieces.specs.declared.listing.PieceListing.{PieceListing}
use Rattle.rec_pieces.specs.PieceListings.{ListsPackets}
use Rattle.rec_joined.specs.declared.listing.JoinEnd.{JoinEnd}
use Rattle.rec_joined.specs.Moving.{Moving}
use Rattle.rec_joined.specs.MovedPackets.{IsListedFor, IsMovable, IsPlaced, IsUncountedAs, is_left_out, listed_packet, listed_what, moved_packet, moved_what}
use Rattle.rec_joined.specs.JoinedPackets.{moved_packets, placed_packet}

pub record HasMoved (moving : Moving) (start : ℕ) (recording : List ℕ) (reader : ReaderState) (old new : PieceListing) (end : ℕ) : Type 0 where
  pub packets : List PacketData
  pub given : HasRead recording packets reader
  pub movable : AllByRecursion (IsPlaced moving) packets
  pub ends : end ≡ start + packets_len packets
  pub lists : (before : List PacketData) → ListsPackets before old → ListsPackets (before ++ moved_packets moving start packets) new

pub none_moved : (moving : Moving) (start : ℕ) (recording : List ℕ) (reader : ReaderState) (listing : PieceListing) → HasRead recording [] reader
    → HasMoved moving start recording reader listing listing start
none_moved moving start recording reader listing given = record {
  packets = [];
  given = given;
  movable = tt;
  ends = omega arith;
  lists = λ before had. subst (λ l. ListsPackets l listing) (sym (append-nil before)) had;
}

-- ---- a further packet

pub len_more : (packets : List PacketData) (packet : PacketData) → packets_len (packets ++ packet ∷ []) ≡ packets_len packets + packet.header.packet_len
len_more [] packet = omega arith
len_more (p ∷ ps) packet = omega (arith, len_more ps packet)

moved_more : (moving : Moving) (start : ℕ) (packets : List PacketData) (packet : PacketData)
    → moved_packets moving start (packets ++ packet ∷ [])
    ≡ moved_packets moving start packets ++ placed_packet moving (start + packets_len packets) packet
moved_more moving start [] packet = append-nil (placed_packet moving start packet) ∙ ap (λ n. placed_packet moving n packet) (omega arith)
moved_more moving start (p ∷ ps) packet =
    let here = placed_packet moving start p in
    let more = moved_packets moving (start + p.header.packet_len) ps in
    ap (λ l. here ++ l) (moved_more moving (start + p.header.packet_len) ps packet)
    ∙ ap (λ n. here ++ (more ++ placed_packet moving n packet)) (omega arith)
    ∙ sym (append_assoc here more (placed_packet moving (start + packets_len (p ∷ ps)) packet))

movable_more : (moving : Moving) (packets : List PacketData) (packet : PacketData) → AllByRecursion (IsPlaced moving) packets → IsPlaced moving packet
    → AllByRecursion (IsPlaced moving) (packets ++ packet ∷ [])
movable_more moving [] packet all one = (one, tt)
movable_more moving (p ∷ ps) packet all one = (all.0, movable_more moving ps packet all.1 one)

pub moved_further : (moving : Moving) (start : ℕ) (recording : List ℕ) (reader next : ReaderState) (old new more : PieceListing) (end after : ℕ)
    (packet : PacketData) (so : HasMoved moving start recording reader old new end) → HasRead recording (so.packets ++ packet ∷ []) next
    → IsPlaced moving packet → after ≡ end + packet.header.packet_len
    → ((before : List PacketData) → ListsPackets before new → ListsPackets (before ++ placed_packet moving end packet) more)
    → HasMoved moving start recording next old more after
moved_further moving start recording reader next old new more end after packet so given movable place lists = record {
  packets = so.packets ++ packet ∷ [];
  given = given;
  movable = movable_more moving so.packets packet so.movable movable;
  ends = omega (arith, place, so.ends, len_more so.packets packet);
  lists = λ before had. (
      let moved = moved_packets moving start so.packets in
      subst (λ l. ListsPackets l more)
      (ap (λ n. (before ++ moved) ++ placed_packet moving n packet) so.ends
      ∙ append_assoc before moved (placed_packet moving (start + packets_len so.packets) packet)
      ∙ ap (λ l. before ++ l) (sym (moved_more moving start so.packets packet)))
      (lists (before ++ moved) (so.lists before had)));
}

-- ---- one packet

-- what is listed for a packet that isn't left out
listed_what_for : (moving : Moving) (at : ℕ) (packet : PacketData) (what : What) (uncounted : Option ℕ) → packet.what ≡ what → IsMovable moving packet
    → IsUncountedAs moving what uncounted
    → IsListedFor (moved_packet moving at packet) uncounted
    (packet_of at (moved_packet moving at packet).header (moved_packet moving at packet).body (listed_what moving what))
listed_what_for moving at packet (Frames count) (Some id) is movable so = absurd so
listed_what_for moving at packet (Frames count) None is movable so =
    ap (λ what. packet_of at (moved_packet moving at packet).header (moved_packet moving at packet).body (moved_what moving what)) (sym is)
listed_what_for moving at packet (Program channel version first count) (Some id) is movable so = absurd so
listed_what_for moving at packet (Program channel version first count) None is movable so =
    ap (λ what. packet_of at (moved_packet moving at packet).header (moved_packet moving at packet).body (moved_what moving what)) (sym is)
listed_what_for moving at packet (End channel offered kept) (Some id) is movable so =
    let end = λ (n : ℕ). End (moving.ids channel) n ((moving.records channel).kept + kept) in (
      refl,
      ap (λ b. named_by (moved_packet moving at packet).header.channel (if b then end 0 else end ((moving.records channel).offered + offered)))
          (eq-eqb offered 0 so.0) ∙ ap (λ n. Some (n, Uncounted)) (sym so.1),
    )
listed_what_for moving at packet (End channel offered kept) None is movable (inl some) =
    let moved = moved_packet moving at packet in
    let end = λ (n : ℕ). End (moving.ids channel) n ((moving.records channel).kept + kept) in
    ap (λ b. packet_of at moved.header moved.body (if b then end 0 else end ((moving.records channel).offered + offered))) (ne_eqb offered 0 some)
    ∙ ap (λ what. packet_of at moved.header moved.body (moved_what moving what)) (sym is)
listed_what_for moving at packet (End channel offered kept) None is movable (inr none) =
    let names = movable.named.1 in
    let own : channel ≡ names.channel =
    named_first channel (if offered == 0 then Uncounted else Record) (names.channel, names.kind)
    (sym (ap (named_by packet.header.channel) is) ∙ names.named) in
    absurd (omega (arith, names.given, names.from_one, ap moving.ids own, none))
listed_what_for moving at packet Other (Some id) is movable so = absurd so
listed_what_for moving at packet Other None is movable so =
    ap (λ what. packet_of at (moved_packet moving at packet).header (moved_packet moving at packet).body (moved_what moving what)) (sym is)

pub listed_for : (moving : Moving) (at : ℕ) (packet : PacketData) (uncounted : Option ℕ) → IsMovable moving packet
    → IsUncountedAs moving packet.what uncounted → IsListedFor (moved_packet moving at packet) uncounted (listed_packet moving at packet)
listed_for moving at packet uncounted movable so = listed_what_for moving at packet packet.what uncounted refl movable so

-- a packet that is left out isn't listed
pub lists_none : (moving : Moving) (at : ℕ) (packet : PacketData) (listing : PieceListing) → is_left_out moving packet ≡ true → (before : List PacketData)
    → ListsPackets before listing → ListsPackets (before ++ placed_packet moving at packet) listing
lists_none moving at packet listing left before had =
    subst (λ l. ListsPackets l listing)
    (sym (append-nil before) ∙ ap (λ b. before ++ (if b then [] else listed_packet moving at packet ∷ [])) (sym left)) had

pub lists_one : (moving : Moving) (at : ℕ) (packet moved : PacketData) (uncounted : Option ℕ) (old new : PieceListing) → is_left_out moving packet ≡ false
    → moved ≡ moved_packet moving at packet → IsMovable moving packet → IsUncountedAs moving packet.what uncounted
    → ((before : List PacketData) (listed : PacketData) → IsListedFor moved uncounted listed → ListsPackets before old
    → ListsPackets (before ++ listed ∷ []) new)
    → (before : List PacketData) → ListsPackets before old → ListsPackets (before ++ placed_packet moving at packet) new
lists_one moving at packet moved uncounted old new stays is movable so lists before had =
    let listed = listed_packet moving at packet in
    subst (λ l. ListsPackets l new) (ap (λ b. before ++ (if b then [] else listed ∷ [])) (sym stays))
    (lists before listed (subst (λ m. IsListedFor m uncounted listed) (sym is) (listed_for moving at packet uncounted movable so)) had)

-- an end that is passed on
pub passed_on : {T : Type 0} (result : Result T JoinEnd) (end : JoinEnd) (P : JoinEnd → Type 0) → IsErrAnd result (λ e. e ≡ end) → P end
    → IfErr result P
passed_on (Ok value) end P same holds = tt
passed_on (Err other) end P same holds = subst P (sym same) holds
