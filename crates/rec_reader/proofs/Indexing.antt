-- The entries of a channel, packet by packet.
use Rattle.std.proofs.Common.{◌≡◌, ℕ, ◌+◌, ◌<◌, List, [], ◌∷◌, ◌++◌, length, take, get_or, sym, ap, ◌∙◌, arith, append-nil, length-take-le}
use Rattle.std.proofs.lemmas.Grind.{flat_map-append}
use Rattle.std.proofs.lemmas.List.{length-map}
use Rattle.std.specs.List.{flat_map, enumerate_from}
use Rattle.rec_reader.specs.declared.index.Entry.{Entry}
use Rattle.rec_reader.specs.declared.packet.Packet.{Packet}
use Rattle.rec_reader.specs.Packets.{PacketData}
use Rattle.rec_reader.specs.Indexes.{entry_of, entries_of}
use Rattle.rec_reader.specs.Views.{packet_data, packets_data}
use Rattle.rec_reader.proofs.RecordingPackets.{one_more_packet}

enumerate_from-snoc : (from : ℕ) (packets : List PacketData) (packet : PacketData)
    → enumerate_from from (packets ++ packet ∷ []) ≡ enumerate_from from packets ++ (from + length packets, packet) ∷ []
enumerate_from-snoc from [] packet = ap (λ (n : ℕ). (n, packet) ∷ []) (let e : from ≡ from + 0 = omega arith in e)
enumerate_from-snoc from (p ∷ ps) packet =
    ap (λ l. (from, p) ∷ l) (enumerate_from-snoc (from + 1) ps packet
    ∙ ap (λ (n : ℕ). enumerate_from (from + 1) ps ++ (n, packet) ∷ []) (let e : from + 1 + length ps ≡ from + length (p ∷ ps) = omega arith in e))

entries_of-snoc : (channel : ℕ) (packets : List PacketData) (packet : PacketData)
    → entries_of channel (packets ++ packet ∷ []) ≡ entries_of channel packets ++ entry_of channel (length packets, packet)
entries_of-snoc channel packets packet =
    ap (flat_map (entry_of channel)) (enumerate_from-snoc 0 packets packet)
    ∙ flat_map-append (entry_of channel) (enumerate_from 0 packets) ((0 + length packets, packet) ∷ [])
    ∙ ap (λ l. entries_of channel packets ++ l) (append-nil (entry_of channel (0 + length packets, packet)))
    ∙ ap (λ (n : ℕ). entries_of channel packets ++ entry_of channel (n, packet)) (let e : 0 + length packets ≡ length packets = omega arith in e)

-- a packet more
pub one_more_entry : (items : List Packet) (n number channel : ℕ) (item : Packet) (before after : List Entry) → n < length items → item ≡ get_or items n item
    → number ≡ n
    → before ≡ entries_of channel (packets_data (take n items)) → after ≡ before ++ entry_of channel (number, packet_data item)
    → after ≡ entries_of channel (packets_data (take (n + 1) items))
one_more_entry items n number channel item before after within is place was now =
    let front = take n items in
    let some = length-take-le n items (omega (arith, within)) in
    let len : number ≡ length (packets_data front) = omega (arith, place, some, length-map front packet_data) in
    now ∙ ap (λ l. l ++ entry_of channel (number, packet_data item)) was
    ∙ ap (λ (m : ℕ). entries_of channel (packets_data front) ++ entry_of channel (m, packet_data item)) len
    ∙ sym (entries_of-snoc channel (packets_data front) (packet_data item)) ∙ ap (entries_of channel) (one_more_packet items n item within is)
