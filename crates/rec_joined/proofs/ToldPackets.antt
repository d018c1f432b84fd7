-- Packets of recordings that are joined are listed as they are written, but for ends that were offered no frame.
use Rattle.std.proofs.Common.{ℕ, ◌≡◌, ◌+◌, List, [], ◌∷◌, ◌++◌, Option, inl, inr, Bool, true, false, ap, refl, ◌∙◌}
use Rattle.std.specs.Prelude.{◌==◌, if◌then◌else◌}
use Rattle.std.specs.List.{AllByRecursion, AllZip}
use Rattle.ch11_packet.specs.declared.class.What.{What}
use Rattle.ch11_packet.specs.declared.class.What.TheVariants.{Frames, Program, End, Other}
use Rattle.ch11_packet.specs.Classes.{data_in}
use Rattle.rec_reader.specs.Packets.{PacketData, SpellsPacket, BeginsPackets}
use Rattle.rec_reader.specs.ChannelFrames.{channel_frames, frames_held, packet_frames}
use Rattle.rec_pieces.specs.Entries.{PacketPlaces}
use Rattle.rec_pieces.specs.ToldPackets.{AreListedAs, IsListedAs, IsListedWhat, IsSpelled}
use Rattle.rec_joined.specs.declared.joined.Part.{Part}
use Rattle.rec_joined.specs.Moving.{Moving, moving_of}
use Rattle.rec_joined.specs.MovedPackets.{IsPlaced, is_left_out, listed_packet, listed_what, moved_packet, moved_what}
use Rattle.rec_joined.specs.JoinedPackets.{AreParts, joined_packets, joined_told, moved_packets, placed_packet, told_packet, told_packets}
use Rattle.rec_joined.proofs.PartsRead.{all_append, stands_again}

-- ---- one packet

listed_for : (moving : Moving) (what : What) → IsListedWhat (moved_what moving what) (listed_what moving what)
listed_for moving (Frames count) = refl
listed_for moving (Program channel version first count) = refl
listed_for moving (End channel offered kept) = here (offered == 0)
  where
    here : (none : Bool)
        → IsListedWhat (End (moving.ids channel) ((moving.records channel).offered + offered) ((moving.records channel).kept + kept))
        (if none then End (moving.ids channel) 0 ((moving.records channel).kept + kept)
        else End (moving.ids channel) ((moving.records channel).offered + offered) ((moving.records channel).kept + kept))
    here true = inr ((moving.records channel).kept + kept, refl)
    here false = inl refl
listed_for moving Other = refl

one_listed : (moving : Moving) (packet : PacketData) (spelling : List ℕ) (at : ℕ) → SpellsPacket packet spelling → IsPlaced moving packet
    → AreListedAs (told_packet moving at packet) (placed_packet moving at packet)
one_listed moving packet spelling at spelled placed = here (is_left_out moving packet) refl
  where
    here : (left : Bool) → is_left_out moving packet ≡ left
        → AreListedAs (if left then [] else moved_packet moving at packet ∷ []) (if left then [] else listed_packet moving at packet ∷ [])
    here true is = record { spelled = tt; each = tt }
    here false is =
        let stands = stands_again moving packet spelling at [] spelled (placed is) in
        record { spelled = ((stands.spelling, stands.spelled), tt); each = ((refl, listed_for moving packet.what), tt) }

-- ---- all packets

zip_append : (ts ls us ms : List PacketData) → AllZip IsListedAs ts ls → AllZip IsListedAs us ms → AllZip IsListedAs (ts ++ us) (ls ++ ms)
zip_append [] [] us ms one other = other
zip_append [] (l ∷ ls) us ms one other = absurd one
zip_append (t ∷ ts) [] us ms one other = absurd one
zip_append (t ∷ ts) (l ∷ ls) us ms one other = (one.0, zip_append ts ls us ms one.1 other)

both_listed : (ts ls us ms : List PacketData) → AreListedAs ts ls → AreListedAs us ms → AreListedAs (ts ++ us) (ls ++ ms)
both_listed ts ls us ms one other = record {
  spelled = all_append IsSpelled ts us one.spelled other.spelled;
  each = zip_append ts ls us ms one.each other.each;
}

packets_listed : (moving : Moving) (own at : ℕ) (packets : List PacketData) (bytes rest : List ℕ) → BeginsPackets own packets bytes rest
    → AllByRecursion (IsPlaced moving) packets → AreListedAs (told_packets moving at packets) (moved_packets moving at packets)
packets_listed moving own at [] bytes rest begins placed = record { spelled = tt; each = tt }
packets_listed moving own at (p ∷ ps) bytes rest begins placed =
    both_listed (told_packet moving at p) (placed_packet moving at p) (told_packets moving (at + p.header.packet_len) ps)
    (moved_packets moving (at + p.header.packet_len) ps)
    (one_listed moving p begins.1.spelling at begins.1.spelled placed.0)
    (packets_listed moving (own + p.header.packet_len) (at + p.header.packet_len) ps begins.0 rest begins.2 placed.1)

pub parts_listed : {P : Type 0} (there : P → Option PacketPlaces) (start : ℕ) (parts : List (Part P)) (read : List (List PacketData))
    → AreParts there start parts read → AreListedAs (joined_told parts read) (joined_packets parts read)
parts_listed there start [] [] are = record { spelled = tt; each = tt }
parts_listed there start [] (packets ∷ more) are = absurd are
parts_listed there start (part ∷ parts) [] are = absurd are
parts_listed there start (part ∷ parts) (packets ∷ more) are =
    let moving = moving_of part.moves in
    both_listed (told_packets moving part.start packets) (moved_packets moving part.start packets) (joined_told parts more) (joined_packets parts more)
    (packets_listed moving 0 part.start packets are.0.bytes are.0.reads.rest are.0.reads.held are.0.movable)
    (parts_listed there part.end parts more are.1)

-- ---- their frames

what_frames : (told listed : What) (bytes : List ℕ) → IsListedWhat told listed → frames_held listed bytes ≡ frames_held told bytes
what_frames (Frames count) listed bytes is = ap (λ what. frames_held what bytes) is
what_frames (Program channel version first count) listed bytes is = ap (λ what. frames_held what bytes) is
what_frames (End channel offered kept) listed bytes (inl is) = ap (λ what. frames_held what bytes) is
what_frames (End channel offered kept) listed bytes (inr is) = ap (λ what. frames_held what bytes) is.1
what_frames Other listed bytes is = ap (λ what. frames_held what bytes) is

pub frames_listed : (id : ℕ) (told packets : List PacketData) → AllZip IsListedAs told packets → channel_frames id packets ≡ channel_frames id told
frames_listed id [] [] listed = refl
frames_listed id [] (p ∷ ps) listed = absurd listed
frames_listed id (t ∷ ts) [] listed = absurd listed
frames_listed id (t ∷ ts) (p ∷ ps) listed =
    ap (λ (q : PacketData). (if q.header.channel == id then packet_frames q else []) ++ channel_frames id ps) listed.0.0
    ∙ ap (λ l. (if t.header.channel == id then l else []) ++ channel_frames id ps)
    (what_frames t.what p.what (data_in t.header t.body) listed.0.1)
    ∙ ap (λ l. (if t.header.channel == id then packet_frames t else []) ++ l) (frames_listed id ts ps listed.1)
