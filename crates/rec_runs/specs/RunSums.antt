-- The frames that the ends of a channel say, of recordings that follow one another.
use Rattle.std.specs.Prelude.{ℕ, List}
use Rattle.std.specs.List.{sum_by}
use Rattle.rec_reader.specs.declared.audits.channel.ChannelEnd.{ChannelEnd}
use Rattle.rec_reader.specs.Packets.{PacketData}
use Rattle.rec_reader.specs.Channels.{ends_of}

abbrev pub offered_by_end : ChannelEnd → ℕ
offered_by_end end = end.offered

abbrev pub kept_by_end : ChannelEnd → ℕ
kept_by_end end = end.kept

-- how many frames of the channel a recording's ends offered, and how many they kept
abbrev pub offered_in_recording : (channel : ℕ) → List PacketData → ℕ
offered_in_recording channel packets = sum_by offered_by_end (ends_of channel packets)

abbrev pub kept_in_recording : (channel : ℕ) → List PacketData → ℕ
kept_in_recording channel packets = sum_by kept_by_end (ends_of channel packets)

-- those of all ends of recordings
abbrev pub sum_offered : (channel : ℕ) → List (List PacketData) → ℕ
sum_offered channel recordings = sum_by (offered_in_recording channel) recordings

abbrev pub sum_kept : (channel : ℕ) → List (List PacketData) → ℕ
sum_kept channel recordings = sum_by (kept_in_recording channel) recordings
