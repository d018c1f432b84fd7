-- What a recording's packets are in a whole file, by channels.
use Rattle.std.specs.Prelude.{ℕ, ◌==◌, if◌then◌else◌, min, List, [], ◌∷◌, map, Option, None, Some}
use Rattle.std.specs.List.{flat_map}
use Rattle.ch11_packet.specs.FramesRead.{ReadFrameData}
use Rattle.ch11_packet.specs.Classes.{data_in, said_frames}
use Rattle.rec_reader.specs.Packets.{PacketData}
use Rattle.rec_pieces.specs.declared.entry.PieceKind.{PieceKind}
use Rattle.rec_pieces.specs.declared.entry.PieceKind.TheVariants.{Frames, Record, Uncounted}
use Rattle.rec_pieces.specs.declared.entry.PieceEntry.{PieceEntry}
use Rattle.rec_pieces.specs.declared.listing.Entries.{Entries}
use Rattle.rec_pieces.specs.Entries.{packet_names}

-- ---- a channel's packets

-- the entry of a packet at a place that names this, if it is the channel's
abbrev pub entry_named : (channel at : ℕ) → Option (ℕ × PieceKind) → List PieceEntry
entry_named channel at None = []
entry_named channel at (Some (named, kind)) =
    if named == channel then record { at = at; kind = kind } ∷ [] else []

abbrev pub entry_of_packet : (channel : ℕ) → PacketData → List PieceEntry
entry_of_packet channel packet = entry_named channel packet.at (packet_names packet)

-- those of a channel, in order
abbrev pub channel_entries : (channel : ℕ) → List PacketData → List PieceEntry
channel_entries channel packets = flat_map (entry_of_packet channel) packets

-- the entries that are listed, if any are
abbrev pub entries_held : Option Entries → List PieceEntry
entries_held None = []
entries_held (Some entries) = entries.entries.items

-- ---- counters

abbrev pub frame_counter : ReadFrameData → ℕ
frame_counter frame = frame.counter

-- the counters of data of this kind, in a packet with this counter
abbrev pub counters_in : Option (ℕ × PieceKind) → (counter : ℕ) → List ℕ → List ℕ
counters_in None counter bytes = []
counters_in (Some (named, Frames)) counter bytes =
    map frame_counter (said_frames bytes)
counters_in (Some (named, Record)) counter bytes = counter ∷ []
counters_in (Some (named, Uncounted)) counter bytes = []

abbrev pub packet_counters : PacketData → List ℕ
packet_counters packet =
    counters_in (packet_names packet) packet.header.counter (data_in packet.header packet.body)

-- those of frames, of programs, and of ends that were offered a frame
abbrev pub counters_of : List PacketData → List ℕ
counters_of packets = flat_map packet_counters packets

-- the lesser of two, and the least of some
abbrev pub lesser : Option ℕ → Option ℕ → Option ℕ
lesser None other = other
lesser (Some one) None = Some one
lesser (Some one) (Some other) = Some (min one other)

abbrev pub least_of : List ℕ → Option ℕ
least_of [] = None
least_of (counter ∷ counters) = lesser (Some counter) (least_of counters)

-- ---- packets of other kinds

-- a place, unless there is an earlier one
abbrev pub first_at : (earlier : Option ℕ) → (at : ℕ) → Option ℕ
first_at None at = Some at
first_at (Some earlier) at = Some earlier

-- the first of these places, where what stands at one names nothing
abbrev pub other_after : (earlier : Option ℕ) → (at : ℕ) → Option (ℕ × PieceKind) → Option ℕ
other_after earlier at None = first_at earlier at
other_after earlier at (Some named) = earlier

-- the place of the first packet that names nothing
abbrev pub other_from : (earlier : Option ℕ) → List PacketData → Option ℕ
other_from earlier [] = earlier
other_from earlier (packet ∷ packets) =
    other_from (other_after earlier packet.at (packet_names packet)) packets

abbrev pub other_of : List PacketData → Option ℕ
other_of packets = other_from None packets
