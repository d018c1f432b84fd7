-- What a reader finds in the bytes of a recording, channel by channel.
use Rattle.std.specs.Prelude.{ℕ, ◌≡◌, ◌⊎◌, List, map, All, None, Some, Err, Option, ◌≢◌, []}
use Rattle.eth_frame.specs.Frame.{FrameData}
use Rattle.ch11_packet.specs.FramesRead.{ReadFrameData, body_frame}
use Rattle.rec_lane.specs.Offered.{AreAccepted}
use Rattle.rec_lane.specs.Parts.{BeginsList}
use Rattle.rec_lane.specs.Pieces.{LaneSettings}
use Rattle.rec_writer.specs.Recording.{RecordedChannel}
use Rattle.rec_reader.specs.declared.audits.answer.AuditFault.{AuditFault}
use Rattle.rec_reader.specs.declared.audits.answer.AuditFault.TheVariants.{Memory}
use Rattle.rec_reader.specs.declared.fault.ReadFaultKind.{ReadFaultKind}
use Rattle.rec_reader.specs.declared.fault.ReadFaultKind.TheVariants.{Truncated}
use Rattle.rec_reader.specs.Packets.{PacketData}
use Rattle.rec_reader.specs.Reading.{Reads}
use Rattle.rec_reader.specs.ChannelFrames.{channel_frames}
use Rattle.rec_reader.specs.Audits.{Audits}

-- ---- a channel

-- frames as they are read: each with the channel's network identifier and speed, content 0, and its
-- own counter, marks and bytes
abbrev pub read_frames : LaneSettings → List FrameData → List ReadFrameData
read_frames settings frames = map (body_frame settings.net settings.speed) frames

-- the frames that the packets have of the channel are, in order and once each, exactly those of its
-- frames that the program in force accepted
pub record HasAccepted (packets : List PacketData) (c : RecordedChannel) : Type 0 where
  pub kept : List FrameData
  pub accepted : AreAccepted c.history c.frames kept
  pub found : channel_frames c.settings.channel packets ≡ read_frames c.settings kept

-- the frames that the packets have of the channel are the first of those
pub record BeginsAccepted (packets : List PacketData) (c : RecordedChannel) : Type 0 where
  pub kept : List FrameData
  pub accepted : AreAccepted c.history c.frames kept
  pub begins : BeginsList (channel_frames c.settings.channel packets) (read_frames c.settings kept)

-- ---- the whole

-- the audit of the packets answers no fault, unless memory ran out
abbrev pub IsApproved : List PacketData → Type 0
IsApproved packets = (fault : AuditFault) → Audits packets (Err fault) → fault ≡ Memory

-- the packets have no frames of a channel that is none of these
abbrev pub HasNoOthers : List RecordedChannel → List PacketData → Type 0
HasNoOthers channels packets =
    (channel : ℕ) → All (λ (c : RecordedChannel). c.settings.channel ≢ channel) channels
    → channel_frames channel packets ≡ []

-- the bytes are read as these packets and this fault or none, and as nothing else
pub record IsOneReading
    (bytes : List ℕ) (packets : List PacketData) (fault : Option ReadFaultKind) : Type 0 where
  pub reads : Reads bytes packets fault
  pub only : (others : List PacketData) (other : Option ReadFaultKind)
      → Reads bytes others other → (packets ≡ others) × (fault ≡ other)

-- the bytes are read to their end and in no other way, the reading has the accepted frames of each
-- channel and no others, and the audit approves of it
pub record ReadsBack (channels : List RecordedChannel) (bytes : List ℕ) : Type 0 where
  pub packets : List PacketData
  pub reading : IsOneReading bytes packets None
  pub frames : All (HasAccepted packets) channels
  pub no_others : HasNoOthers channels packets
  pub approved : IsApproved packets

-- the bytes are read as whole packets, and then end or are truncated in the middle of one, in no
-- other way; what is read of each channel are the first of its accepted frames, and
-- of others none
pub record ReadsBackCut (channels : List RecordedChannel) (bytes : List ℕ) : Type 0 where
  pub packets : List PacketData
  pub fault : Option ReadFaultKind
  pub cut : (fault ≡ None) ⊎ (fault ≡ Some Truncated)
  pub reading : IsOneReading bytes packets fault
  pub frames : All (BeginsAccepted packets) channels
  pub no_others : HasNoOthers channels packets
