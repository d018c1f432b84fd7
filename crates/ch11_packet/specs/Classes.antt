-- What a packet holds, by its header and its data (IRIG 106-17 Chapter 11, in this project's
-- profile): frames, one of the recording's own records, or anything else.
use Rattle.std.specs.Prelude.{ℕ, ◌≡◌, ◌-◌, ◌⊎◌, ◌↔◌, List, take, drop, length, Option, None, Some}
use Rattle.bpf_insn.specs.declared.insn.Insn.{Insn}
use Rattle.eth_frame.specs.Bytes.{u32_at}
use Rattle.ch11_packet.specs.declared.header.TheConstants.{ETHERNET_DATA, COMPUTER_GENERATED_DATA}
use Rattle.ch11_packet.specs.declared.sum.TheConstants.{CHECKSUM_LEN}
use Rattle.ch11_packet.specs.declared.frames.word.TheConstants.{BODY_WORD_LEN}
use Rattle.ch11_packet.specs.declared.frames.decode.BodyFault.TheVariants.{Format, Short, LeftOver}
use Rattle.ch11_packet.specs.declared.records.decode.RecordFault.{RecordFault}
use Rattle.ch11_packet.specs.declared.class.What.{What}
use Rattle.ch11_packet.specs.declared.class.What.TheVariants.{Frames, Program, End, Other}
use Rattle.ch11_packet.specs.declared.class.ClassFault.{ClassFault}
use Rattle.ch11_packet.specs.declared.class.ClassFault.TheVariants.{DataChecksum, Body}
use Rattle.ch11_packet.specs.Header.{HeaderData}
use Rattle.ch11_packet.specs.Sums.{body_sum}
use Rattle.ch11_packet.specs.Flags.{HasChecksum, IsPlain}
use Rattle.ch11_packet.specs.FramesRead.{ReadFrameData, count_in, first_reads, SpellsBody}
use Rattle.ch11_packet.specs.FramesRead.{HasBodyFault}
use Rattle.ch11_packet.specs.RecordsRead.{IsTagged, SpellsRecord, HasRecordFault}
use Rattle.ch11_packet.specs.RecordsRead.RecordData.{OfProgram, OfEnd}

-- ---- what a header says

-- the data are to be a body of frames: Ethernet data of a plain packet
abbrev pub SaysFrames : HeaderData → Type 0
SaysFrames header = IsPlain header.flags × (header.kind ≡ ETHERNET_DATA)

-- the data may be one of the recording's own records: computer-generated data of a plain packet on
-- channel 0
abbrev pub SaysRecord : HeaderData → Type 0
SaysRecord header =
    IsPlain header.flags × (header.kind ≡ COMPUTER_GENERATED_DATA) × (header.channel ≡ 0)

-- a packet's data: what follows its header, without the filler and the data checksum
abbrev pub data_in : HeaderData → (body : List ℕ) → List ℕ
data_in header body = take header.data_len body

-- ---- what the data are

-- they are neither: the header says so, or the body has another format than 0, or the tag of a
-- record is missing
abbrev pub IsOther : HeaderData → (bytes : List ℕ) → Type 0
IsOther header bytes =
    (¬ SaysFrames header × ¬ SaysRecord header)
    ⊎ (SaysFrames header × HasBodyFault bytes Format)
    ⊎ (SaysRecord header × ¬ IsTagged bytes)

-- the data of a packet with this header are this
abbrev pub HasClass : HeaderData → List ℕ → What → Type 0
HasClass header bytes (Frames count) =
    SaysFrames header
    × (frames : List ReadFrameData) × SpellsBody frames bytes × (length frames ≡ count)
HasClass header bytes (Program channel version first count) =
    SaysRecord header
    × (insns : List Insn) × SpellsRecord (OfProgram channel version first insns) bytes
    × (length insns ≡ count)
HasClass header bytes (End channel offered kept) =
    SaysRecord header
    × SpellsRecord (OfEnd (record { channel = channel; offered = offered; kept = kept })) bytes
HasClass header bytes Other = IsOther header bytes

-- the data of a packet with this header are none of these: a body of format 0 that isn't whole or
-- in which bytes are left over, or a tag without a record
abbrev pub HasNoClass : HeaderData → List ℕ → Type 0
HasNoClass header bytes =
    (SaysFrames header × (HasBodyFault bytes Short ⊎ HasBodyFault bytes LeftOver))
    ⊎ (SaysRecord header × (fault : RecordFault) × HasRecordFault bytes fault)

-- what is answered of them: what they are, or that they are none of these
abbrev pub IsAnswer : HeaderData → List ℕ → Option What → Type 0
IsAnswer header bytes None = HasNoClass header bytes
IsAnswer header bytes (Some what) = HasClass header bytes what

-- ---- packets

-- the last four bytes after a header are the sum of those before them, the filler among them
abbrev pub HasSum : (body : List ℕ) → Type 0
HasSum body =
    u32_at body (length body - CHECKSUM_LEN) ≡ body_sum (take (length body - CHECKSUM_LEN) body)

-- a packet of this header, with these bytes after it, has no data checksum, or the right one
abbrev pub IsSummed : HeaderData → (body : List ℕ) → Type 0
IsSummed header body = HasChecksum header.flags → HasSum body

-- a packet of this header, with these bytes after it, holds this. The data checksum of a packet
-- that is neither frames nor a record isn't judged
pub record Holds (header : HeaderData) (body : List ℕ) (what : What) : Type 0 where
  pub class : HasClass header (data_in header body) what
  pub summed : ¬ IsOther header (data_in header body) → IsSummed header body

-- what is wrong with a packet that holds nothing: its data checksum, else its body
abbrev pub HasClassFault : HeaderData → (body : List ℕ) → ClassFault → Type 0
HasClassFault header body DataChecksum =
    (¬ IsOther header (data_in header body)) × HasChecksum header.flags × (¬ HasSum body)
HasClassFault header body Body = HasNoClass header (data_in header body) × IsSummed header body

-- what is judged of two headers is the same, but for whether a data checksum follows; the other
-- flags, the packet length, the data type version, the sequence number and the relative time
-- counter may differ
pub record IsJudgedAs (header other : HeaderData) : Type 0 where
  pub channel : other.channel ≡ header.channel
  pub data_len : other.data_len ≡ header.data_len
  pub kind : other.kind ≡ header.kind
  pub flags : IsPlain header.flags ↔ IsPlain other.flags

-- the frames that the bytes of a body say
abbrev pub said_frames : List ℕ → List ReadFrameData
said_frames bytes = first_reads (count_in bytes) (drop BODY_WORD_LEN bytes)
