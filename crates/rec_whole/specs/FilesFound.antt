-- What a reader finds in the bytes of a whole file.
use Rattle.std.specs.Prelude.{ℕ, ◌≡◌, ◌≢◌, List, Ok, Err}
use Rattle.rec_reader.specs.declared.audits.answer.Audit.{Audit}
use Rattle.rec_reader.specs.declared.audits.answer.AuditFault.{AuditFault}
use Rattle.rec_reader.specs.declared.audits.answer.AuditFault.TheVariants.{Memory}
use Rattle.rec_reader.specs.Packets.{PacketData}
use Rattle.rec_reader.specs.ChannelFrames.{channel_frames}
use Rattle.rec_reader.specs.Channels.{ends_of, programs_of}
use Rattle.rec_reader.specs.Audits.{Audits}
use Rattle.rec_whole.specs.WholeFrames.{held_in_packets}
use Rattle.rec_whole.specs.ToldOfChannels.{told_of}

-- the packets that are found have of each channel what a recording's have, in order: frames and
-- records beside each other; and so the frames, the programs and the ends of each channel from 1 on
pub record HaveSameChannels (packets found : List PacketData) : Type 0 where
  pub held : (channel : ℕ) → held_in_packets channel found ≡ held_in_packets channel packets
  pub frames : (channel : ℕ) → channel ≢ 0
      → channel_frames channel found ≡ channel_frames channel packets
  pub programs : (channel : ℕ) → channel ≢ 0
      → programs_of channel found ≡ programs_of channel packets
  pub ends : (channel : ℕ) → channel ≢ 0 → ends_of channel found ≡ ends_of channel packets

-- they tell of each channel from 1 on what these tell, in order: frames, programs and ends beside
-- each other
abbrev pub TellTheSame : (told found : List PacketData) → Type 0
TellTheSame told found = (channel : ℕ) → channel ≢ 0 → told_of channel found ≡ told_of channel told

-- the audit of the packets answers no fault, unless memory ran out
abbrev pub HasNoFault : List PacketData → Type 0
HasNoFault packets = (fault : AuditFault) → Audits packets (Err fault) → fault ≡ Memory

-- the audit of the packets says yes, with these lines for their channels
pub record AreApprovedAs (packets : List PacketData) (audit : Audit) : Type 0 where
  pub own : Audit
  pub audited : Audits packets (Ok own)
  pub lines : own.channels ≡ audit.channels
