-- A packet of a recording as it is in a file of several: with the counters, the channel ID and the
-- numbers of records of the file. It has as many bytes as before, and no data checksum.
use Rattle.std.specs.Prelude.{ℕ, ◌≡◌, ◌≢◌, ◌⊎◌, Option, None, ◌+◌, ◌==◌, Bool, false, ◌-◌, ◌<◌, ◌^◌}
use Rattle.std.specs.Prelude.{if◌then◌else◌, min, List, ◌++◌, take, drop, Some}
use Rattle.std.specs.List.{AllByRecursion}
use Rattle.std.specs.Int.{w16, to_le_bytes}
use Rattle.ch11_packet.specs.declared.header.TheConstants.{ETHERNET_DATA}
use Rattle.ch11_packet.specs.declared.class.What.{What}
use Rattle.ch11_packet.specs.declared.class.What.TheVariants.{Frames, Program, End, Other}
use Rattle.ch11_packet.specs.Classes.{data_in}
use Rattle.ch11_packet.specs.FramesRead.{count_in}
use Rattle.ch11_packet.specs.Header.{HeaderData, header_of}
use Rattle.ch11_packet.specs.RecordsRead.{record_channel_in}
use Rattle.rec_reader.specs.Packets.{PacketData, packet_of}
use Rattle.rec_reader.specs.ChannelFrames.{packet_frames}
use Rattle.rec_pieces.specs.declared.entry.PieceKind.{PieceKind}
use Rattle.rec_pieces.specs.declared.entry.PieceKind.TheVariants.{Uncounted}
use Rattle.rec_pieces.specs.Entries.{PacketThere, packet_names}
use Rattle.rec_pieces.specs.Listings.{packet_counters}
use Rattle.rec_joined.specs.declared.fault.MoveFault.{MoveFault}
use Rattle.rec_joined.specs.declared.fault.MoveFault.TheVariants.{Gap, Sum, Other as IsOther}
use Rattle.rec_joined.specs.declared.fault.MoveFault.TheVariants.{Memory}
use Rattle.rec_joined.specs.Moving.{Moving}
use Rattle.rec_joined.specs.MovedFrames.{HaveCounters, moved_bytes}
use Rattle.rec_joined.specs.MovedRecords.{FitRecords, leaves_out, raised_numbers}

-- a body of frames, behind its word
abbrev pub moved_body : Moving → List ℕ → List ℕ
moved_body moving bytes =
    take 4 bytes ++ moved_bytes moving.counters (count_in bytes) (drop 4 bytes)

-- a record with this channel ID and, behind it, these bytes; and with the ID and the numbers of the
-- file
abbrev pub record_with : (id : ℕ) → (numbers : List ℕ) → List ℕ → List ℕ
record_with id numbers bytes = take 10 bytes ++ (to_le_bytes w16 id ++ numbers)

abbrev pub moved_record : Moving → List ℕ → List ℕ
moved_record moving bytes =
    let channel = record_channel_in bytes in
    record_with (moving.ids channel) (raised_numbers (moving.records channel) bytes) bytes

-- data of this type
abbrev pub moved_data : Moving → (kind : ℕ) → List ℕ → List ℕ
moved_data moving kind bytes =
    if kind == ETHERNET_DATA then moved_body moving bytes else moved_record moving bytes

-- a header: the channel is the file's if it is one, and the counter that of the file, or the
-- greatest of 48 bits
abbrev pub moved_header : Moving → HeaderData → HeaderData
moved_header moving header =
    header_of (if header.kind == ETHERNET_DATA then moving.ids header.channel else header.channel)
    header.packet_len header.data_len header.version header.sequence 0 header.kind
    (min (moving.counters header.counter) (2 ^ 48 - 1))

-- what the packet holds
abbrev pub moved_what : Moving → What → What
moved_what moving (Frames count) = Frames count
moved_what moving (Program channel version first count) =
    let records = moving.records channel in
    Program (moving.ids channel) (records.versions + version) (records.offered + first) count
moved_what moving (End channel offered kept) =
    let records = moving.records channel in
    End (moving.ids channel) (records.offered + offered) (records.kept + kept)
moved_what moving Other = Other

-- the packet, which stands at this place of the joined recording
abbrev pub moved_packet : Moving → (at : ℕ) → PacketData → PacketData
moved_packet moving at packet =
    packet_of at (moved_header moving packet.header)
    (moved_data moving packet.header.kind (data_in packet.header packet.body)
    ++ drop packet.header.data_len packet.body)
    (moved_what moving packet.what)

-- what it is listed as: an end that was offered no frame is one also where those before it were
abbrev pub listed_what : Moving → What → What
listed_what moving (Frames count) = Frames count
listed_what moving (Program channel version first count) =
    moved_what moving (Program channel version first count)
listed_what moving (End channel offered kept) =
    if offered == 0 then End (moving.ids channel) 0 ((moving.records channel).kept + kept)
    else moved_what moving (End channel offered kept)
listed_what moving Other = Other

abbrev pub listed_packet : Moving → (at : ℕ) → PacketData → PacketData
listed_packet moving at packet =
    let moved = moved_packet moving at packet in
    packet_of at moved.header moved.body (listed_what moving packet.what)

-- what is read of it
abbrev pub moved_there : Moving → PacketThere → PacketThere
moved_there moving there = record {
  header = moved_header moving there.header;
  held = moved_data moving there.header.kind there.held;
}

-- ---- which packets are moved

-- the packet names a channel that has this ID in the file
pub record IsNamedAs (moving : Moving) (packet : PacketData) (id : ℕ) : Type 0 where
  pub channel : ℕ
  pub kind : PieceKind
  pub named : packet_names packet ≡ Some (channel, kind)
  pub given : id ≡ moving.ids channel
  pub from_one : 0 < id
  pub fits : id < 2 ^ 16

-- its frames, if it has any, have counters in the file
abbrev pub HaveMovable : Moving → PacketData → Type 0
HaveMovable moving packet = HaveCounters moving.counters (packet_frames packet)

-- all its counters have
abbrev pub HasCounters : Moving → PacketData → Type 0
HasCounters moving packet =
    AllByRecursion (λ counter. moving.counters counter < 2 ^ 48) (packet_counters packet)

-- it has an ID in the file, all its counters have counters there, and the numbers of a record fit
pub record IsMovable (moving : Moving) (packet : PacketData) : Type 0 where
  pub named : (id : ℕ) × IsNamedAs moving packet id
  pub counters : HasCounters moving packet
  pub numbers : FitRecords moving.records packet.what

-- why a packet isn't moved
abbrev pub IsNotMoved : Moving → PacketData → MoveFault → Type 0
IsNotMoved moving packet Gap = ¬ HasCounters moving packet
IsNotMoved moving packet Sum = ¬ FitRecords moving.records packet.what
IsNotMoved moving packet IsOther = ¬ ((id : ℕ) × IsNamedAs moving packet id)
IsNotMoved moving packet Memory = Unit {0}

-- ---- which are left out

-- whether the file doesn't have it, by its place in its recording
abbrev pub is_left_out : Moving → PacketData → Bool
is_left_out moving packet = leaves_out moving.records packet.at packet.what

-- the file doesn't have it, or it is moved
abbrev pub IsPlaced : Moving → PacketData → Type 0
IsPlaced moving packet = is_left_out moving packet ≡ false → IsMovable moving packet

-- the ID in the file of the channel whose end this is, if it was offered no frame; none where the
-- file doesn't have it
abbrev pub IsUncountedAs : Moving → What → Option ℕ → Type 0
IsUncountedAs moving (End channel offered kept) (Some id) =
    (offered ≡ 0) × (id ≡ moving.ids channel)
IsUncountedAs moving (End channel offered kept) None = (offered ≢ 0) ⊎ (moving.ids channel ≡ 0)
IsUncountedAs moving what (Some id) = ⊥
IsUncountedAs moving what None = Unit {0}

-- a packet is listed for a moved one: it is that, or the end of this channel that was offered no
-- frame
abbrev pub IsListedFor : (moved : PacketData) → (uncounted : Option ℕ) → (listed : PacketData)
    → Type 0
IsListedFor moved None listed = listed ≡ moved
IsListedFor moved (Some id) listed =
    (listed.at ≡ moved.at) × (packet_names listed ≡ Some (id, Uncounted))
