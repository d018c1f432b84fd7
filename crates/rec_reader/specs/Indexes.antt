-- What an index lists: the packets of frames of each channel.
use Rattle.std.specs.Prelude.{ℕ, ◌==◌, if◌then◌else◌, List, [], ◌∷◌, Option, None, Some}
use Rattle.std.specs.List.{flat_map, enumerate_from}
use Rattle.std.specs.Ordering.{nat_cmp}
use Rattle.std.specs.BTreeMap.{get}
use Rattle.ch11_packet.specs.declared.class.What.{What}
use Rattle.ch11_packet.specs.declared.class.What.TheVariants.{Frames}
use Rattle.rec_reader.specs.declared.index.Entry.{Entry}
use Rattle.rec_reader.specs.declared.index.Entries.{Entries}
use Rattle.rec_reader.specs.declared.index.Index.{Index}
use Rattle.rec_reader.specs.Packets.{PacketData}

-- the entry of a packet with this number and place that holds this: none unless it holds frames
abbrev pub entry_held : What → (number at : ℕ) → List Entry
entry_held (Frames count) number at =
    record { packet = number; at = at; frames = count } ∷ []
entry_held held number at = []

-- the entry of a numbered packet, if it holds frames of the channel
abbrev pub entry_of : (channel : ℕ) → ℕ × PacketData → List Entry
entry_of channel (number, packet) =
    if packet.header.channel == channel then entry_held packet.what number packet.at else []

-- the entries of a channel: those of its packets of frames, in order, numbered among all packets
-- from 0
abbrev pub entries_of : (channel : ℕ) → List PacketData → List Entry
entries_of channel packets = flat_map (entry_of channel) (enumerate_from 0 packets)

-- the entries that are listed, if any are
abbrev pub listed : Option Entries → List Entry
listed None = []
listed (Some entries) = entries.entries.items

-- the entries of a channel in an index
abbrev pub entries_in : Index → (channel : ℕ) → List Entry
entries_in index channel = listed (get nat_cmp index.channels channel)
