-- The frames of channels in a joined recording.
use Rattle.std.proofs.Common.{ℕ, ◌≡◌, ◌+◌, List, [], ◌∷◌, ◌++◌, map, refl, sym, ◌∙◌, ap, subst, append_assoc, append-nil}
use Rattle.std.proofs.Common.{true, false, true≢false, eq-eqb, inl, inr}
use Rattle.std.specs.Prelude.{◌==◌, if◌then◌else◌, Bool, Option}
use Rattle.std.specs.List.{AllByRecursion}
use Rattle.std.proofs.lemmas.Bool.{cases_Bool, eqb-true, ne_eqb}
use Rattle.ch11_packet.specs.declared.header.TheConstants.{ETHERNET_DATA}
use Rattle.ch11_packet.specs.declared.class.What.{What}
use Rattle.ch11_packet.specs.declared.class.What.TheVariants.{Frames, Program, End, Other}
use Rattle.ch11_packet.specs.Classes.{HasClass, data_in, said_frames}
use Rattle.ch11_packet.specs.FramesRead.{ReadFrameData}
use Rattle.ch11_packet.specs.Header.{HeaderData}
use Rattle.ch11_packet.proofs.Classing.{said_by_body}
use Rattle.rec_reader.specs.ChannelFrames.{channel_frames, frames_held, packet_frames}
use Rattle.rec_reader.specs.Packets.{PacketData, SpellsPacket, BeginsPackets}
use Rattle.rec_pieces.specs.Entries.{PacketPlaces}
use Rattle.rec_joined.specs.declared.joined.Part.{Part}
use Rattle.rec_joined.specs.Moving.{Moving, moving_of}
use Rattle.rec_joined.specs.MovedFrames.{HaveCounters, moved_frame}
use Rattle.rec_joined.specs.MovedRecords.{RecordMoving, leaves_out}
use Rattle.rec_joined.specs.MovedPackets.{IsMovable, IsPlaced, is_left_out, listed_packet, listed_what, moved_data, moved_header, moved_packet}
use Rattle.rec_joined.specs.JoinedFrames.{HasOwnId, frames_as, frames_for, frames_of_parts}
use Rattle.rec_joined.specs.JoinedPackets.{AreParts, joined_packets, moved_packets, placed_packet}
use Rattle.rec_joined.proofs.MovedClasses.{body_moved, frames_gap, is_data}
use Rattle.rec_joined.proofs.PartsRead.{made_of}

-- ---- a packet

no_frames : (is other : Bool) → ◌≡◌ {A = List ReadFrameData} (if is then [] else []) (if other then [] else [])
no_frames true true = refl
no_frames true false = refl
no_frames false true = refl
no_frames false false = refl

no_frames_either : (is : Bool) (one other : What) (bytes : List ℕ) → frames_held one bytes ≡ [] → frames_held other bytes ≡ []
    → frames_held (if is then one else other) bytes ≡ []
no_frames_either true one two bytes none none_other = none
no_frames_either false one two bytes none none_other = none_other

pub said_moved : (moving : Moving) (header : HeaderData) (bytes : List ℕ) (count : ℕ) → HasClass header bytes (Frames count)
    → HaveCounters moving.counters (said_frames bytes)
    → said_frames (moved_data moving header.kind bytes) ≡ map (moved_frame moving.counters) (said_frames bytes)
said_moved moving header bytes count has fit =
    let frames = has.1 in
    let said = said_by_body frames bytes has.2 in
    ap said_frames (is_data moving header.kind bytes has.0.1)
    ∙ said_by_body (map (moved_frame moving.counters) frames) _
    (body_moved moving frames bytes has.2 (subst (HaveCounters moving.counters) said fit))
    ∙ ap (map (moved_frame moving.counters)) (sym said)

-- the frames of a packet as they are moved
frames_moved_as : (moving : Moving) (packet : PacketData) (spelling : List ℕ) (at id : ℕ) (what : What) → packet.what ≡ what
    → SpellsPacket packet spelling → IsMovable moving packet
    → (if (moved_header moving packet.header).channel == id
    then frames_held (listed_what moving what) (data_in (moved_packet moving at packet).header (moved_packet moving at packet).body) else [])
    ≡ (if moving.ids packet.header.channel == id
    then map (moved_frame moving.counters) (frames_held what (data_in packet.header packet.body)) else [])
frames_moved_as moving packet spelling at id (Frames count) is spelled movable =
    let bytes = data_in packet.header packet.body in
    let has = subst (HasClass packet.header bytes) is spelled.holds.class in
    let made = made_of moving packet spelling at spelled movable in
    let names = movable.named.1 in
    ap (λ k. if (if k == ETHERNET_DATA then moving.ids packet.header.channel else packet.header.channel) == id
    then said_frames (data_in (moved_packet moving at packet).header (moved_packet moving at packet).body) else []) has.0.1
    ∙ ap (λ l. if moving.ids packet.header.channel == id then l else [])
    (ap said_frames made.held_is
    ∙ said_moved moving packet.header bytes count has
    (frames_gap moving packet count (names.channel, names.kind) is names.named movable.counters))
frames_moved_as moving packet spelling at id (Program channel version first count) is spelled movable = no_frames _ _
frames_moved_as moving packet spelling at id (End channel offered kept) is spelled movable =
    let header = moved_header moving packet.header in
    let bytes = data_in (moved_packet moving at packet).header (moved_packet moving at packet).body in
    let records = moving.records channel in
    let end = λ (n : ℕ). End (moving.ids channel) n (records.kept + kept) in
    ap (λ l. if header.channel == id then l else []) (no_frames_either (offered == 0) (end 0) (end (records.offered + offered)) bytes refl refl) ∙ no_frames _ _
frames_moved_as moving packet spelling at id Other is spelled movable = no_frames _ _

-- what is left out has none
none_held : (records : ℕ → RecordMoving) (at : ℕ) (what : What) (bytes : List ℕ) → leaves_out records at what ≡ true → frames_held what bytes ≡ []
none_held records at (Frames count) bytes left = absurd (true≢false (sym left))
none_held records at (Program channel version first count) bytes left = refl
none_held records at (End channel offered kept) bytes left = refl
none_held records at Other bytes left = refl

nothing_either : (is : Bool) → ◌≡◌ {A = List ReadFrameData} [] (if is then [] else [])
nothing_either true = refl
nothing_either false = refl

frames_placed : (moving : Moving) (packet : PacketData) (spelling : List ℕ) (at id : ℕ) → SpellsPacket packet spelling → IsPlaced moving packet
    → (left : Bool) → is_left_out moving packet ≡ left
    → channel_frames id (if left then [] else listed_packet moving at packet ∷ []) ≡ frames_as moving id packet
frames_placed moving packet spelling at id spelled placed true is =
    nothing_either (moving.ids packet.header.channel == id)
    ∙ ap (λ l. if moving.ids packet.header.channel == id then map (moved_frame moving.counters) l else [])
    (sym (none_held moving.records packet.at packet.what (data_in packet.header packet.body) is))
frames_placed moving packet spelling at id spelled placed false is =
    append-nil _ ∙ frames_moved_as moving packet spelling at id packet.what refl spelled (placed is)

-- ---- packets

channel_append : (id : ℕ) (xs ys : List PacketData) → channel_frames id (xs ++ ys) ≡ channel_frames id xs ++ channel_frames id ys
channel_append id [] ys = refl
channel_append id (x ∷ xs) ys =
    ap (λ l. (if x.header.channel == id then packet_frames x else []) ++ l) (channel_append id xs ys)
    ∙ sym (append_assoc (if x.header.channel == id then packet_frames x else []) (channel_frames id xs) (channel_frames id ys))

frames_moved_all : (moving : Moving) (own at id : ℕ) (packets : List PacketData) (bytes rest : List ℕ) → BeginsPackets own packets bytes rest
    → AllByRecursion (IsPlaced moving) packets → channel_frames id (moved_packets moving at packets) ≡ frames_for moving id packets
frames_moved_all moving own at id [] bytes rest begins movable = refl
frames_moved_all moving own at id (p ∷ ps) bytes rest begins movable =
    let first = begins.1 in
    channel_append id (placed_packet moving at p) (moved_packets moving (at + p.header.packet_len) ps)
    ∙ ap (λ l. l ++ channel_frames id (moved_packets moving (at + p.header.packet_len) ps))
    (frames_placed moving p first.spelling at id first.spelled movable.0 (is_left_out moving p) refl)
    ∙ ap (λ l. frames_as moving id p ++ l)
    (frames_moved_all moving (own + p.header.packet_len) (at + p.header.packet_len) id ps begins.0 rest begins.2 movable.1)

pub frames_kept : {P : Type 0} (there : P → Option PacketPlaces) (start : ℕ) (parts : List (Part P)) (read : List (List PacketData))
    → AreParts there start parts read
    → (id : ℕ) → channel_frames id (joined_packets parts read) ≡ frames_of_parts id parts read
frames_kept there start [] [] are id = refl
frames_kept there start [] (packets ∷ more) are id = absurd are
frames_kept there start (part ∷ parts) [] are id = absurd are
frames_kept there start (part ∷ parts) (packets ∷ more) are id =
    let is = are.0 in
    let moving = moving_of part.moves in
    channel_append id (moved_packets moving part.start packets) (joined_packets parts more)
    ∙ ap (λ l. l ++ channel_frames id (joined_packets parts more))
    (frames_moved_all moving 0 part.start id packets is.bytes is.reads.rest is.reads.held is.movable)
    ∙ ap (λ l. frames_for moving id packets ++ l) (frames_kept there part.end parts more are.1 id)

-- ---- the channel of an ID

map_append : (f : ReadFrameData → ReadFrameData) (xs ys : List ReadFrameData) → map f (xs ++ ys) ≡ map f xs ++ map f ys
map_append f [] ys = refl
map_append f (x ∷ xs) ys = ap (λ l. f x ∷ l) (map_append f xs ys)

same_test : (moving : Moving) (channel id other : ℕ) → HasOwnId moving channel id → (moving.ids other == id) ≡ (other == channel)
same_test moving channel id other own = elim (cases_Bool (moving.ids other == id)) as (λ _. (moving.ids other == id) ≡ (other == channel)) [
  | inl is ↦ is ∙ sym (ap (λ n. n == channel) (own.only other (eqb-true (moving.ids other) id is)) ∙ same_self channel)
  | inr not ↦ not ∙ sym (ne_eqb other channel (λ same. true_false (sym (ap (λ n. moving.ids n == id) same ∙ ap (λ n. n == id) own.given ∙ same_self id) ∙ not)))
]
  where
    same_self : (n : ℕ) → (n == n) ≡ true
    same_self n = eq-eqb n n refl

    true_false : true ≡ false → ⊥
    true_false e = true≢false e

pick : (f : ReadFrameData → ReadFrameData) (is : Bool) (frames : List ReadFrameData) → (if is then map f frames else []) ≡ map f (if is then frames else [])
pick f true frames = refl
pick f false frames = refl

pub own_frames : (moving : Moving) (channel id : ℕ) (packets : List PacketData) → HasOwnId moving channel id
    → frames_for moving id packets ≡ map (moved_frame moving.counters) (channel_frames channel packets)
own_frames moving channel id [] own = refl
own_frames moving channel id (p ∷ ps) own =
    let f = moved_frame moving.counters in
    ap (λ b. (if b then map f (packet_frames p) else []) ++ frames_for moving id ps) (same_test moving channel id p.header.channel own)
    ∙ ap (λ l. l ++ frames_for moving id ps) (pick f (p.header.channel == channel) (packet_frames p))
    ∙ ap (λ l. map f (if p.header.channel == channel then packet_frames p else []) ++ l) (own_frames moving channel id ps own)
    ∙ sym (map_append f (if p.header.channel == channel then packet_frames p else []) (channel_frames channel ps))
