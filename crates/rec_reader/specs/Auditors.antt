-- What an auditor keeps, and the packets that it stands for.
use Rattle.std.specs.Prelude.{ℕ, ◌≡◌, ◌+◌, ◌^◌, ◌⊎◌, ◌↔◌, ◌==◌, nat_lt, if◌then◌else◌, List, []}
use Rattle.std.specs.Prelude.{◌∷◌, ◌++◌, length}
use Rattle.std.specs.Prelude.{Option, None, Some, IsSome, unwrap_or, Result, Ok, Err, MatchOption}
use Rattle.std.specs.Prelude.{MatchResult}
use Rattle.std.specs.Ordering.{nat_cmp}
use Rattle.std.specs.BTreeMap.{BTreeMap, get}
use Rattle.rec_reader.specs.declared.audits.answer.AuditFault.{AuditFault}
use Rattle.rec_reader.specs.declared.audits.answer.AuditFault.TheVariants.{Memory}
use Rattle.rec_reader.specs.declared.audits.channel.ChannelState.{ChannelState}
use Rattle.rec_reader.specs.declared.audits.auditor.Auditor.{Auditor}
use Rattle.rec_reader.specs.Packets.{PacketData}
use Rattle.rec_reader.specs.ChannelFrames.{channel_frames}
use Rattle.rec_reader.specs.Channels.{Saying, IsNamed, programs_of, last_program, last_end, capped}
use Rattle.rec_reader.specs.Channels.Saying.{OfFrames, OfProgram, OfEnd}
use Rattle.rec_reader.specs.Audits.{Judges, EachPasses, StopsAt, IsJudgement, other_count}

-- ---- what is kept of a channel

-- a number as it is counted: none from 2^64 on
abbrev pub counted : ℕ → Option ℕ
counted n = if nat_lt n (2 ^ 64) then Some n else None

-- a count with a number more
abbrev pub counted_more : Option ℕ → (more : ℕ) → Option ℕ
counted_more None more = None
counted_more (Some n) more = counted (n + more)

-- what is kept of a channel that no packet named
abbrev pub unnamed_state : ChannelState
unnamed_state = record { programs = 0; last = None; frames = Some 0; end = None }

-- what is kept after a packet that says this of the channel
abbrev pub state_after : ChannelState → Saying → ChannelState
state_after state (OfFrames frames) =
    record state { frames = counted_more state.frames (length frames) }
state_after state (OfProgram program) =
    record state { programs = capped (state.programs + 1); last = Some program }
state_after state (OfEnd end) = record state { end = Some end }

-- what is kept of the channel is the number of its programs, the last of them, the number of its
-- frames, and its end
pub record IsStateOf (channel : ℕ) (packets : List PacketData) (state : ChannelState) : Type 0 where
  pub programs : state.programs ≡ capped (length (programs_of channel packets))
  pub last : state.last ≡ last_program channel packets
  pub frames : state.frames ≡ counted (length (channel_frames channel packets))
  pub end : state.end ≡ last_end channel packets

-- what is kept of a channel among those of channels that were named
abbrev pub state_of : BTreeMap ℕ ChannelState → (channel : ℕ) → ChannelState
state_of channels channel = unwrap_or (get nat_cmp channels channel) unnamed_state

-- this is kept of the channel now, and of each other one what was
abbrev pub SetsState :
    BTreeMap ℕ ChannelState → (channel : ℕ) → ChannelState → BTreeMap ℕ ChannelState → Type 0
SetsState old channel state new =
    (other : ℕ)
    → get nat_cmp new other ≡ if channel == other then Some state else get nat_cmp old other

-- the channels are those that the packets name, each with what is kept of it
pub record KeepsChannels (channels : BTreeMap ℕ ChannelState) (packets : List PacketData)
    : Type 0 where
  pub named : (channel : ℕ) → IsSome (get nat_cmp channels channel) ↔ IsNamed channel packets
  pub states : (channel : ℕ) → IsStateOf channel packets (state_of channels channel)

-- ---- auditors

-- the fault that an auditor answered
abbrev pub fault_in : Auditor → Option AuditFault
fault_in auditor = auditor.fault

-- each of the packets passes, and the auditor has their number, the number of those of other kinds,
-- and their channels
pub record Keeps (auditor : Auditor) (packets : List PacketData) : Type 0 where
  pub passed : EachPasses packets
  pub taken : auditor.taken ≡ capped (length packets)
  pub other : auditor.other ≡ capped (other_count packets)
  pub channels : KeepsChannels auditor.channels packets

-- the auditor stands for these packets, in order: it keeps what they say, or has the fault of the
-- first one that has one. Out of memory, it stands for any packets
abbrev pub AuditorStandsFor : Auditor → List PacketData → Type 0
AuditorStandsFor auditor packets =
    MatchOption (fault_in auditor) (Keeps auditor packets)
    (λ fault. (fault ≡ Memory) ⊎ StopsAt packets fault)

-- this was answered of the packet after those that the auditor keeps: it passes, and is kept with
-- them, or it has this fault
abbrev pub TakesPacket :
    Auditor → Auditor → PacketData → Result (Unit {0}) AuditFault → Type 0
TakesPacket old new packet result =
    (packets : List PacketData) → Keeps old packets
    → MatchResult result
    (λ _. Judges packets packet None
    × (new.other ≡ capped (other_count (packets ++ packet ∷ [])))
    × KeepsChannels new.channels (packets ++ packet ∷ []))
    (λ fault. (fault ≡ Memory) ⊎ Judges packets packet (Some fault))

-- this was answered of packets: each of them passes, or the first that doesn't has this fault
abbrev pub Walks : List PacketData → Result (Unit {0}) AuditFault → Type 0
Walks packets (Ok answer) = EachPasses packets
Walks packets (Err fault) = (fault ≡ Memory) ⊎ StopsAt packets fault

-- this was answered of a packet that says this of a channel of which this is kept
abbrev pub JudgesState :
    (number : ℕ) → ChannelState → Saying → Result (Unit {0}) AuditFault → Type 0
JudgesState number state saying (Ok answer) = IsJudgement number state.end saying state.last None
JudgesState number state saying (Err fault) =
    (fault ≡ Memory) ⊎ IsJudgement number state.end saying state.last (Some fault)
