-- The audit of a recording: its packets judged one by one, each after those before it, and then its
-- channels at the end.
use Rattle.std.specs.Prelude.{ℕ, ◌≡◌, ◌≢◌, ◌<◌, ◌≤◌, ◌⊎◌, ◌↔◌, Bool, true, false, List, [], ◌∷◌}
use Rattle.std.specs.Prelude.{◌++◌, map}
use Rattle.std.specs.Prelude.{length, count_by, All, Contains, Option, None, Some, Result, Ok, Err}
use Rattle.std.specs.List.Sorted.{IsStrictlyIncreasing}
use Rattle.bpf_insn.specs.declared.insn.Insn.{Insn}
use Rattle.bpf_verify.specs.Validity.{Valid}
use Rattle.bpf_machine.specs.Machine.{Runs}
use Rattle.eth_frame.specs.declared.frame.TheConstants.{MIN_FRAME_LEN}
use Rattle.eth_frame.specs.Frame.{view}
use Rattle.ch11_packet.specs.declared.class.What.{What}
use Rattle.ch11_packet.specs.declared.class.What.TheVariants.{Other}
use Rattle.ch11_packet.specs.FramesRead.{ReadFrameData, frame_in}
use Rattle.rec_reader.specs.declared.audits.answer.Audit.{Audit}
use Rattle.rec_reader.specs.declared.audits.answer.AuditLine.{AuditLine}
use Rattle.rec_reader.specs.declared.audits.answer.AuditFault.{AuditFault}
use Rattle.rec_reader.specs.declared.audits.answer.AuditFault.TheVariants.{NoProgram, BadProgram}
use Rattle.rec_reader.specs.declared.audits.answer.AuditFault.TheVariants.{NotAccepted, Order}
use Rattle.rec_reader.specs.declared.audits.answer.AuditFault.TheVariants.{NoEnd, Counts, Memory}
use Rattle.rec_reader.specs.declared.audits.channel.ChannelProgram.{ChannelProgram}
use Rattle.rec_reader.specs.declared.audits.channel.ChannelEnd.{ChannelEnd}
use Rattle.rec_reader.specs.Packets.{PacketData}
use Rattle.rec_reader.specs.ChannelFrames.{packet_frames, channel_frames}
use Rattle.rec_reader.specs.Channels.{Saying, saying_of, IsNamed, programs_of, ends_of}
use Rattle.rec_reader.specs.Channels.{last_program, last_end, capped}
use Rattle.rec_reader.specs.Channels.Saying.{OfFrames, OfProgram, OfEnd}

-- ---- frames

-- the frame came whole, with its check sequence
abbrev pub IsWhole : ReadFrameData → Type 0
IsWhole frame = (frame.content ≡ 0) × (MIN_FRAME_LEN ≤ length frame.bytes)

-- the program is valid, the frame is whole, and the program returns a value other than 0 on what a
-- filter sees of the frame
pub record Accepts (program : List Insn) (frame : ReadFrameData) : Type 0 where
  pub valid : Valid program
  pub whole : IsWhole frame
  pub steps : ℕ
  pub value : ℕ
  pub runs : Runs program (view (frame_in frame)) steps value
  pub accepted : value ≢ 0

-- the program accepts each frame before the one with this number, and not that one
pub record RefusesFirst (program : List Insn) (frames : List ReadFrameData) (number : ℕ)
    : Type 0 where
  pub before : List ReadFrameData
  pub frame : ReadFrameData
  pub after : List ReadFrameData
  pub whole : frames ≡ before ++ frame ∷ after
  pub number_is : number ≡ length before
  pub accepted : All (Accepts program) before
  pub refused : ¬ Accepts program frame

-- each frame of the packets is accepted by the last program of its channel before its packet
abbrev pub AreApproved : List PacketData → Type 0
AreApproved packets =
    (before : List PacketData) (packet : PacketData) (after : List PacketData)
    → packets ≡ before ++ packet ∷ after
    → All (λ frame. (program : ChannelProgram)
    × (last_program packet.header.channel before ≡ Some program) × Accepts program.insns frame)
    (packet_frames packet)

-- ---- a packet after those before it

-- a program may come after the last one of its channel: it has a greater version, and it came into
-- force at a later frame; the first one did at frame 0
abbrev pub FollowsProgram : Option ChannelProgram → ChannelProgram → Type 0
FollowsProgram None program = program.first ≡ 0
FollowsProgram (Some last) program = (last.version < program.version) × (last.first < program.first)

-- what is answered of a packet that says this of its channel, by the packet's number and the
-- channel's end and last program before it: a fault, or none.
-- A packet after the end is out of order. Frames need a program, and it accepts each; else the
-- first one that it doesn't accept is answered. A program may come next, or is out of order; and it
-- is valid. An end is in order.
abbrev pub IsJudgement :
    (number : ℕ) → Option ChannelEnd → Saying → Option ChannelProgram → Option AuditFault → Type 0
IsJudgement number (Some end) saying last answer = answer ≡ Some (Order number)
IsJudgement number None (OfFrames frames) None answer = answer ≡ Some (NoProgram number)
IsJudgement number None (OfFrames frames) (Some program) None = All (Accepts program.insns) frames
IsJudgement number None (OfFrames frames) (Some program) (Some fault) =
    (frame : ℕ) × (fault ≡ NotAccepted number frame) × RefusesFirst program.insns frames frame
IsJudgement number None (OfProgram program) last None =
    FollowsProgram last program × Valid program.insns
IsJudgement number None (OfProgram program) last (Some fault) =
    ((fault ≡ Order number) × ¬ FollowsProgram last program)
    ⊎ ((fault ≡ BadProgram number) × FollowsProgram last program × ¬ Valid program.insns)
IsJudgement number None (OfEnd end) last answer = answer ≡ None

-- what is answered of a packet after these, by the channel that it names and what it says of it; a
-- packet that names no channel has no fault
abbrev pub JudgesSaying :
    List PacketData → Option (ℕ × Saying) → Option AuditFault → Type 0
JudgesSaying before None answer = answer ≡ None
JudgesSaying before (Some (channel, saying)) answer =
    IsJudgement (capped (length before)) (last_end channel before) saying
    (last_program channel before) answer

-- what is answered of a packet after these
abbrev pub Judges : (before : List PacketData) → PacketData → Option AuditFault → Type 0
Judges before packet answer = JudgesSaying before (saying_of packet) answer

-- each packet passes after those before it
abbrev pub EachPasses : List PacketData → Type 0
EachPasses packets =
    (before : List PacketData) (packet : PacketData) (after : List PacketData)
    → packets ≡ before ++ packet ∷ after → Judges before packet None

-- a packet has this fault, and each one before it passes
pub record StopsAt (packets : List PacketData) (fault : AuditFault) : Type 0 where
  pub before : List PacketData
  pub packet : PacketData
  pub after : List PacketData
  pub whole : packets ≡ before ++ packet ∷ after
  pub passed : EachPasses before
  pub judged : Judges before packet (Some fault)

-- ---- a channel at the end

-- as many frames were offered, by the channel's last program: more than came before the first that
-- met it; none without a program
abbrev pub WereOffered : Option ChannelProgram → (offered : ℕ) → Type 0
WereOffered None offered = offered ≡ 0
WereOffered (Some program) offered = program.first < offered

-- the counts of an end are right for a channel with this last program and this number of frames
pub record HasCounts (last : Option ChannelProgram) (frames : ℕ) (end : ChannelEnd) : Type 0 where
  pub kept : end.kept ≡ frames
  pub kept_of : end.kept ≤ end.offered
  pub offered : WereOffered last end.offered

-- what is answered of a channel at the end, by its end, its last program and the number of its
-- frames: a fault, or none
abbrev pub IsClosing : (channel : ℕ) → Option ChannelEnd → Option ChannelProgram → (frames : ℕ)
    → Option AuditFault → Type 0
IsClosing channel None last frames answer = answer ≡ Some (NoEnd channel)
IsClosing channel (Some end) last frames None = HasCounts last frames end
IsClosing channel (Some end) last frames (Some fault) =
    (fault ≡ Counts channel) × ¬ HasCounts last frames end

-- what is answered of a channel at the end of the packets
abbrev pub Closes : List PacketData → (channel : ℕ) → Option AuditFault → Type 0
Closes packets channel answer =
    IsClosing channel (last_end channel packets) (last_program channel packets)
    (length (channel_frames channel packets)) answer

-- each packet passes, and of the channels that are named this fault is that of the least that has
-- one
pub record EndsWith (packets : List PacketData) (fault : AuditFault) : Type 0 where
  pub passed : EachPasses packets
  pub channel : ℕ
  pub named : IsNamed channel packets
  pub lower : (other : ℕ) → other < channel → IsNamed other packets → Closes packets other None
  pub closed : Closes packets channel (Some fault)

-- ---- the answer

-- the frames that an end says were offered
abbrev pub offered_in : Option ChannelEnd → ℕ
offered_in None = 0
offered_in (Some end) = end.offered

-- the line of a channel with these numbers of programs and of frames, and this end
abbrev pub line_with : (channel programs frames : ℕ) → Option ChannelEnd → AuditLine
line_with channel programs frames end = record {
  channel = channel;
  programs = programs;
  frames = frames;
  offered = offered_in end;
}

-- the line of a channel: the number of its programs, that of its frames, and its last end
abbrev pub line_of : List PacketData → (channel : ℕ) → AuditLine
line_of packets channel =
    line_with channel (capped (length (programs_of channel packets)))
    (length (channel_frames channel packets)) (last_end channel packets)

-- these are the lines of the channels that are named, ascending
pub record AreLines (packets : List PacketData) (lines : List AuditLine) : Type 0 where
  pub channels : List ℕ
  pub ascending : IsStrictlyIncreasing channels
  pub all : (channel : ℕ) → Contains channels channel ↔ IsNamed channel packets
  pub lines_are : lines ≡ map (line_of packets) channels

-- whether a packet is of another kind than those that the audit judges
abbrev pub is_other : What → Bool
is_other Other = true
is_other held = false

-- the number of packets of other kinds
abbrev pub other_count : List PacketData → ℕ
other_count packets = count_by (λ (packet : PacketData). is_other packet.what) packets

-- each packet passes, each channel that is named is right at the end, the lines are theirs, and
-- this is the number of the other packets
pub record IsAudit (packets : List PacketData) (audit : Audit) : Type 0 where
  pub passed : EachPasses packets
  pub closed : (channel : ℕ) → IsNamed channel packets → Closes packets channel None
  pub lines : AreLines packets audit.channels
  pub other : audit.other ≡ capped (other_count packets)

-- the answer of the audit: its lines, or the fault of the first packet that has one, or that of the
-- least channel that has one at the end. Nothing is said of packets for which memory ran out
abbrev pub Audits : List PacketData → Result Audit AuditFault → Type 0
Audits packets (Ok audit) = IsAudit packets audit
Audits packets (Err fault) = (fault ≡ Memory) ⊎ StopsAt packets fault ⊎ EndsWith packets fault

-- ---- what a yes means

-- the last of the packets that names the channel is its one end, which says as many frames kept as
-- the channel has, and none offered exactly if no packet has a program of the channel
pub record EndsWell (channel : ℕ) (packets : List PacketData) : Type 0 where
  pub before : List PacketData
  pub packet : PacketData
  pub after : List PacketData
  pub end : ChannelEnd
  pub whole : packets ≡ before ++ packet ∷ after
  pub says : saying_of packet ≡ Some (channel, OfEnd end)
  pub last : ¬ IsNamed channel after
  pub one : ends_of channel packets ≡ end ∷ []
  pub kept : end.kept ≡ length (channel_frames channel packets)
  pub offered : (end.offered ≡ 0) ↔ (programs_of channel packets ≡ [])
