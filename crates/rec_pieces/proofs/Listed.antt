-- What is listed of packets, one by one.
use Rattle.std.proofs.Common.{ℕ, ◌≡◌, List, [], ◌∷◌, ◌++◌, Option, None, Some, refl, sym, ◌∙◌, ap, arith, append-nil}
use Rattle.std.specs.Prelude.{min, ◌==◌, if◌then◌else◌, Result, Ok, Err, OnOk}
use Rattle.std.specs.Ordering.{nat_cmp}
use Rattle.std.specs.BTreeMap.{BTreeMap, get}
use Rattle.std.proofs.lemmas.Grind.{flat_map-append}
use Rattle.rec_reader.specs.Packets.{PacketData}
use Rattle.rec_pieces.specs.declared.entry.PieceEntry.{PieceEntry}
use Rattle.rec_pieces.specs.Entries.{packet_names}
use Rattle.ch11_packet.specs.Classes.{data_in}
use Rattle.rec_pieces.specs.declared.entry.PieceKind.{PieceKind}
use Rattle.rec_pieces.specs.declared.listing.Entries.{Entries}
use Rattle.rec_pieces.specs.declared.listing.PieceListing.{PieceListing}
use Rattle.rec_pieces.specs.PieceListings.{ListsPackets}
use Rattle.rec_pieces.specs.Listings.{lesser, least_of, counters_in, counters_of, packet_counters}
use Rattle.rec_pieces.specs.Listings.{entry_named, entry_of_packet, channel_entries, entries_held, first_at, other_after, other_from, other_of}

-- ---- the least of some

min_assoc : (a b c : ℕ) → min (min a b) c ≡ min a (min b c)
min_assoc a b c = omega arith

lesser_assoc : (a b c : Option ℕ) → lesser (lesser a b) c ≡ lesser a (lesser b c)
lesser_assoc None b c = refl
lesser_assoc (Some a) None c = refl
lesser_assoc (Some a) (Some b) None = refl
lesser_assoc (Some a) (Some b) (Some c) = ap Some (min_assoc a b c)

pub lesser_none : (a : Option ℕ) → lesser a None ≡ a
lesser_none None = refl
lesser_none (Some a) = refl

pub least_both : (counters more : List ℕ) → least_of (counters ++ more) ≡ lesser (least_of counters) (least_of more)
least_both [] more = refl
least_both (c ∷ cs) more = ap (lesser (Some c)) (least_both cs more) ∙ sym (lesser_assoc (Some c) (least_of cs) (least_of more))

-- ---- a packet more

pub entries_push : (channel : ℕ) (packets : List PacketData) (packet : PacketData)
    → channel_entries channel (packets ++ packet ∷ []) ≡ channel_entries channel packets ++ entry_of_packet channel packet
entries_push channel packets packet =
    flat_map-append (entry_of_packet channel) packets (packet ∷ [])
    ∙ ap (λ l. channel_entries channel packets ++ l) (append-nil (entry_of_packet channel packet))

pub least_push : (packets : List PacketData) (packet : PacketData)
    → least_of (counters_of (packets ++ packet ∷ [])) ≡ lesser (least_of (counters_of packets)) (least_of (packet_counters packet))
least_push packets packet =
    ap least_of (flat_map-append packet_counters packets (packet ∷ []) ∙ ap (λ l. counters_of packets ++ l) (append-nil (packet_counters packet)))
    ∙ least_both (counters_of packets) (packet_counters packet)

other_push_from : (earlier : Option ℕ) (packets : List PacketData) (packet : PacketData)
    → other_from earlier (packets ++ packet ∷ []) ≡ other_after (other_from earlier packets) packet.at (packet_names packet)
other_push_from earlier [] packet = refl
other_push_from earlier (p ∷ ps) packet = other_push_from (other_after earlier p.at (packet_names p)) ps packet

pub other_push : (packets : List PacketData) (packet : PacketData)
    → other_of (packets ++ packet ∷ []) ≡ other_after (other_of packets) packet.at (packet_names packet)
other_push packets packet = other_push_from None packets packet

-- ---- a listing

pub lists_other : (packets : List PacketData) (packet : PacketData) (old : PieceListing) (other : Option ℕ) → packet_names packet ≡ None
    → other ≡ first_at old.other packet.at → ListsPackets packets old
    → ListsPackets (packets ++ packet ∷ []) (record { channels = old.channels; least = old.least; other = other })
lists_other packets packet old other none is had = record {
  entries = λ channel. had.entries channel ∙ sym (append-nil (channel_entries channel packets))
      ∙ ap (λ named. channel_entries channel packets ++ entry_named channel packet.at named) (sym none) ∙ sym (entries_push channel packets packet);
  least = had.least ∙ sym (lesser_none (least_of (counters_of packets)))
      ∙ ap (λ named. lesser (least_of (counters_of packets))
      (least_of (counters_in named packet.header.counter (data_in packet.header packet.body)))) (sym none)
      ∙ sym (least_push packets packet);
  other = is ∙ ap (λ earlier. first_at earlier packet.at) had.other
      ∙ ap (other_after (other_of packets) packet.at) (sym none) ∙ sym (other_push packets packet);
}

pub lists_named : (packets : List PacketData) (packet : PacketData) (old : PieceListing) (channels : BTreeMap ℕ Entries) (least : Option ℕ)
    (channel : ℕ) (kind : PieceKind) (entry : PieceEntry) → packet_names packet ≡ Some (channel, kind)
    → entry ≡ record { at = packet.at; kind = kind } → least ≡ lesser old.least (least_of (packet_counters packet))
    → ((other : ℕ) → entries_held (get nat_cmp channels other) ≡ entries_held (get nat_cmp old.channels other) ++ (if channel == other then entry ∷ [] else []))
    → ListsPackets packets old → ListsPackets (packets ++ packet ∷ []) (record { channels = channels; least = least; other = old.other })
lists_named packets packet old channels least channel kind entry names e l adds had = record {
  entries = λ other. adds other ∙ ap (λ es. es ++ (if channel == other then entry ∷ [] else [])) (had.entries other)
      ∙ ap (λ (it : PieceEntry). channel_entries other packets ++ (if channel == other then it ∷ [] else [])) e
      ∙ ap (λ named. channel_entries other packets ++ entry_named other packet.at named) (sym names) ∙ sym (entries_push other packets packet);
  least = l ∙ ap (λ earlier. lesser earlier (least_of (packet_counters packet))) had.least ∙ sym (least_push packets packet);
  other = had.other ∙ ap (other_after (other_of packets) packet.at) (sym names) ∙ sym (other_push packets packet);
}

pub on_ok : {T E A B : Type 0} (result : Result T E) → (A → B) → OnOk result A → OnOk result B
on_ok (Ok value) f a = f a
on_ok (Err fault) f a = tt
