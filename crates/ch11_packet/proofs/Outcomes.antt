-- All bytes have an outcome: 24 bytes are a header or have a fault, and so is it with the body of a
-- packet.
use Rattle.std.proofs.Common.{◌≡◌, ℕ, zero, suc, ◌+◌, ◌*◌, ◌%◌, ◌^◌, ◌<◌, ◌≤◌, ◌⊎◌, inl, inr, true, false, List}
use Rattle.std.proofs.Common.{[], ◌∷◌, ◌++◌, length, take, drop, refl, sym, ap, subst, arith, lit<}
use Rattle.std.proofs.lemmas.List.{length-drop, length-take-le, take-append-drop}
use Rattle.eth_frame.specs.Bytes.{AreBytes, u16_at, u32_at, u48_at}
use Rattle.eth_frame.proofs.Bytes.{AreBytes-drop}
use Rattle.ch11_packet.specs.declared.header.TheConstants.{HEADER_LEN, ETHERNET_DATA, COMPUTER_GENERATED_DATA, MAX_ETHERNET_PACKET_LEN}
use Rattle.ch11_packet.specs.declared.header.HeaderFault.{HeaderFault}
use Rattle.ch11_packet.specs.declared.header.HeaderFault.TheVariants.{Sync, Checksum, Length as BadLengths}
use Rattle.ch11_packet.specs.declared.frames.word.TheConstants.{BODY_WORD_LEN, FRAME_HEADER_LEN}
use Rattle.ch11_packet.specs.declared.frames.decode.BodyFault.{BodyFault}
use Rattle.ch11_packet.specs.declared.frames.decode.BodyFault.TheVariants.{Format, Short, LeftOver}
use Rattle.ch11_packet.specs.declared.records.TheConstants.{INSN_LEN, RECORD_HEAD_LEN, PROGRAM_HEAD_LEN, PROGRAM_RECORD, END_RECORD}
use Rattle.ch11_packet.specs.declared.records.encode.TheConstants.{END_RECORD_LEN}
use Rattle.ch11_packet.specs.declared.records.decode.RecordFault.{RecordFault}
use Rattle.ch11_packet.specs.declared.records.decode.RecordFault.TheVariants.{Kind, Channel, Length}
use Rattle.ch11_packet.specs.declared.class.What.{What}
use Rattle.ch11_packet.specs.declared.class.What.TheVariants.{Frames, Program, End, Other}
use Rattle.ch11_packet.specs.Header.{HeaderData, LengthsFit, IsHeader, header_bytes, header_at, HasSync, HasHeaderSum, HasLengths, HeaderHasFault}
use Rattle.ch11_packet.specs.declared.sum.TheConstants.{CHECKSUM_LEN}
use Rattle.ch11_packet.specs.declared.class.ClassFault.{ClassFault}
use Rattle.ch11_packet.specs.declared.class.ClassFault.TheVariants.{DataChecksum, Body}
use Rattle.ch11_packet.specs.Flags.{has_bit, HasChecksum, IsPlain}
use Rattle.ch11_packet.specs.FramesRead.{ReadFrameData, length_in, FrameStandsFirst, IsFiller, IsCutFrame}
use Rattle.ch11_packet.specs.FramesRead.{SpellsBody, count_in, format_in, HasFormat, HasBodyFault}
use Rattle.ch11_packet.specs.RecordsRead.{IsTagged, SpellsRecord, HasRecordFault, RecordData, kind_in, record_channel_in, insn_count_in, IsKind, HasRecordHead}
use Rattle.ch11_packet.specs.RecordsRead.RecordData.{OfProgram, OfEnd}
use Rattle.ch11_packet.specs.Classes.{SaysFrames, SaysRecord, HasClass, HasNoClass, HasSum, IsSummed, Holds, HasClassFault, data_in}
use Rattle.std.proofs.lemmas.Bool.{cases_eq, cases_lt}
use Rattle.ch11_packet.proofs.Decided.{decide_false, decide_true, decide_same, decide_odd, decide_list}
use Rattle.ch11_packet.proofs.Classing.{one_thing, other_or_fault}
use Rattle.ch11_packet.proofs.Headers.{header_bytes-header_at, IsHeader-header_at}
use Rattle.ch11_packet.proofs.SplitFrame.{StandsFirst-split}
use Rattle.ch11_packet.proofs.FirstFrames.{IsFirst-StandsFirst}
use Rattle.ch11_packet.proofs.ReadBodies.{SpellsBody-IsBody, Passed}
use Rattle.ch11_packet.proofs.ReadRecords.{program_at, end_at, SpellsRecord-program, SpellsRecord-end}

pub AreBytes-take : (n : ℕ) (bytes : List ℕ) → AreBytes bytes → AreBytes (take n bytes)
AreBytes-take zero bytes fit i = lit< tt
AreBytes-take (suc n) [] fit i = lit< tt
AreBytes-take (suc n) (x ∷ xs) fit zero = fit 0
AreBytes-take (suc n) (x ∷ xs) fit (suc i) = AreBytes-take n xs (λ k. fit (suc k)) i

-- ---- 24 bytes

-- the checksum of a packet that has one fits behind the data
abbrev Checked : (flags packet_len data_len : ℕ) → Type 0
Checked flags packet_len data_len = HasChecksum flags → HEADER_LEN + data_len + CHECKSUM_LEN ≤ packet_len

checked_by : (flags packet_len data_len : ℕ) → HasChecksum flags ⊎ (HasChecksum flags → ⊥)
    → (packet_len < HEADER_LEN + data_len + CHECKSUM_LEN) ⊎ (HEADER_LEN + data_len + CHECKSUM_LEN ≤ packet_len)
    → Checked flags packet_len data_len ⊎ (Checked flags packet_len data_len → ⊥)
checked_by flags packet_len data_len (inr isnt) over = inl (λ is. absurd (isnt is))
checked_by flags packet_len data_len (inl is) (inl over) = inr (λ fits. omega (arith, over, fits is))
checked_by flags packet_len data_len (inl is) (inr fits) = inl (λ _. fits)

lengths_by : (flags kind packet_len data_len : ℕ) → Checked flags packet_len data_len ⊎ (Checked flags packet_len data_len → ⊥)
    → (packet_len < HEADER_LEN + data_len) ⊎ (HEADER_LEN + data_len ≤ packet_len) → (packet_len % 4 ≡ 0) ⊎ (packet_len % 4 ≡ 0 → ⊥)
    → (kind ≡ ETHERNET_DATA) ⊎ (kind ≡ ETHERNET_DATA → ⊥) → (MAX_ETHERNET_PACKET_LEN < packet_len) ⊎ (packet_len ≤ MAX_ETHERNET_PACKET_LEN)
    → LengthsFit flags kind packet_len data_len ⊎ (LengthsFit flags kind packet_len data_len → ⊥)
lengths_by flags kind packet_len data_len (inr isnt) holds aligned ethernet most = inr (λ fit. isnt fit.checked)
lengths_by flags kind packet_len data_len (inl checked) (inl over) aligned ethernet most = inr (λ fit. omega (arith, fit.holds, over))
lengths_by flags kind packet_len data_len (inl checked) (inr holds) (inr isnt) ethernet most = inr (λ fit. isnt fit.aligned)
lengths_by flags kind packet_len data_len (inl checked) (inr holds) (inl aligned) (inr isnt) most =
    inl (record { holds = holds; checked = checked; aligned = aligned; most = λ e. absurd (isnt e) })
lengths_by flags kind packet_len data_len (inl checked) (inr holds) (inl aligned) (inl ethernet) (inl over) =
    inr (λ fit. omega (arith, fit.most ethernet, over))
lengths_by flags kind packet_len data_len (inl checked) (inr holds) (inl aligned) (inl ethernet) (inr most) =
    inl (record { holds = holds; checked = checked; aligned = aligned; most = λ _. most })

checksum_by : (flags : ℕ) → (has_bit flags 1 ≡ true) ⊎ (has_bit flags 1 ≡ true → ⊥) → (has_bit flags 0 ≡ true) ⊎ (has_bit flags 0 ≡ true → ⊥)
    → HasChecksum flags ⊎ (HasChecksum flags → ⊥)
checksum_by flags (inr isnt) low = inr (λ is. isnt is.high)
checksum_by flags (inl high) (inr isnt) = inr (λ is. isnt is.low)
checksum_by flags (inl high) (inl low) = inl (record { high = high; low = low })

decide_checksum : (flags : ℕ) → HasChecksum flags ⊎ (HasChecksum flags → ⊥)
decide_checksum flags = checksum_by flags (decide_true _) (decide_true _)

decide_lengths : (flags kind packet_len data_len : ℕ) → LengthsFit flags kind packet_len data_len ⊎ (LengthsFit flags kind packet_len data_len → ⊥)
decide_lengths flags kind packet_len data_len =
    lengths_by flags kind packet_len data_len (checked_by flags packet_len data_len (decide_checksum flags)
    (cases_lt packet_len (HEADER_LEN + data_len + CHECKSUM_LEN))) (cases_lt packet_len (HEADER_LEN + data_len)) (cases_eq (packet_len % 4) 0)
    (cases_eq kind ETHERNET_DATA) (cases_lt MAX_ETHERNET_PACKET_LEN packet_len)

-- the bytes are a header's
abbrev pub AreHeader : List ℕ → Type 0
AreHeader bytes = IsHeader (header_at bytes) × (bytes ≡ header_bytes (header_at bytes))

header_by : (bytes : List ℕ) → AreBytes bytes → length bytes ≡ HEADER_LEN → HasSync bytes ⊎ (HasSync bytes → ⊥) → HasHeaderSum bytes ⊎ (HasHeaderSum bytes → ⊥)
    → HasLengths bytes ⊎ (HasLengths bytes → ⊥) → AreHeader bytes ⊎ ((fault : HeaderFault) × HeaderHasFault bytes fault)
header_by bytes fit long (inr isnt) sum lengths = inr (Sync, isnt)
header_by bytes fit long (inl sync) (inr isnt) lengths = inr (Checksum, (sync, isnt))
header_by bytes fit long (inl sync) (inl sum) (inr isnt) = inr (BadLengths, (sync, sum, isnt))
header_by bytes fit long (inl sync) (inl sum) (inl lengths) = inl (IsHeader-header_at bytes fit lengths, header_bytes-header_at bytes long fit sync sum)

pub header_or_fault : (bytes : List ℕ) → AreBytes bytes → length bytes ≡ HEADER_LEN → AreHeader bytes ⊎ ((fault : HeaderFault) × HeaderHasFault bytes fault)
header_or_fault bytes fit long =
    let header = header_at bytes in
    header_by bytes fit long (cases_eq _ _) (cases_eq _ _) (decide_lengths header.flags header.kind header.packet_len header.data_len)

-- ---- a body of frames

split_filler : (len : ℕ) (after : List ℕ) → (len % 2 ≡ 1) ⊎ (len % 2 ≡ 0)
    → (more : List ℕ) × ((filler : List ℕ) × (after ≡ filler ++ more) × IsFiller len filler more)
split_filler len [] (inl odd) = ([], ([], refl, inr (refl, refl)))
split_filler len (f ∷ more) (inl odd) = (more, (f ∷ [], refl, inl (sym odd)))
split_filler len after (inr even) = (after, ([], refl, inl (sym even)))

same_len : (bytes : List ℕ) → u16_at bytes 8 % 2 ^ 14 ≡ length_in (u32_at bytes 8)
same_len bytes = omega arith

-- a whole frame stands first
record HasFrame (bytes : List ℕ) : Type 0 where
  frame : ReadFrameData
  more : List ℕ
  first : FrameStandsFirst frame bytes more

whole_frame : (bytes : List ℕ) → AreBytes bytes → FRAME_HEADER_LEN ≤ length bytes → FRAME_HEADER_LEN + length_in (u32_at bytes 8) ≤ length bytes
    → HasFrame bytes
whole_frame bytes fit long whole =
    let len = u16_at bytes 8 % 2 ^ 14 in
    let behind = drop FRAME_HEADER_LEN bytes in
    let after = drop len behind in
    let filled = split_filler len after (decide_odd len) in
    let many : length (take len behind) ≡ len = length-take-le len behind (omega (arith, length-drop FRAME_HEADER_LEN bytes, same_len bytes)) in
    record {
      frame = _;
      more = filled.0;
      first = StandsFirst-split bytes (take len behind) after filled.0 len (u48_at bytes 0) fit long refl refl (sym (take-append-drop len behind)) many
          filled.1;
    }

frame_by : (bytes : List ℕ) → AreBytes bytes → (length bytes < FRAME_HEADER_LEN) ⊎ (FRAME_HEADER_LEN ≤ length bytes)
    → (length bytes < FRAME_HEADER_LEN + length_in (u32_at bytes 8)) ⊎ (FRAME_HEADER_LEN + length_in (u32_at bytes 8) ≤ length bytes)
    → HasFrame bytes ⊎ IsCutFrame bytes
frame_by bytes fit (inl short) all = inr (inl short)
frame_by bytes fit (inr long) (inl few) = inr (inr (long, few))
frame_by bytes fit (inr long) (inr whole) = inl (whole_frame bytes fit long whole)

frame_or_cut : (bytes : List ℕ) → AreBytes bytes → HasFrame bytes ⊎ IsCutFrame bytes
frame_or_cut bytes fit = frame_by bytes fit (cases_lt _ _) (cases_lt _ _)

behind_fit : (bytes : List ℕ) (has : HasFrame bytes) → AreBytes bytes → AreBytes has.more
behind_fit bytes has fit =
    let is = IsFirst-StandsFirst has.frame bytes has.more has.first in
    subst AreBytes is.more_is (AreBytes-drop _ bytes fit)

-- so many frames, or fewer and then none that is whole
record IsShort (count : ℕ) (bytes : List ℕ) : Type 0 where
  passed : ℕ
  rest : List ℕ
  over : Passed passed bytes rest
  fewer : passed < count
  cut : IsCutFrame rest

passes : (count : ℕ) (bytes rest : List ℕ) (has : HasFrame bytes) → Passed count has.more rest → Passed (suc count) bytes rest
passes count bytes rest has over = record { frames = has.frame ∷ over.frames; held = (has.more, has.first, over.held); many = ap suc over.many }

goes_short : (count : ℕ) (bytes : List ℕ) (has : HasFrame bytes) → IsShort count has.more → IsShort (suc count) bytes
goes_short count bytes has short = record {
  passed = suc short.passed;
  rest = short.rest;
  over = passes short.passed bytes short.rest has short.over;
  fewer = let fewer = short.fewer in omega arith;
  cut = short.cut;
}

walk : (count : ℕ) (bytes : List ℕ) → AreBytes bytes → ((rest : List ℕ) × Passed count bytes rest) ⊎ IsShort count bytes
walk zero bytes fit = inl (bytes, record { frames = []; held = refl; many = refl })
walk (suc count) bytes fit =
    elim (frame_or_cut bytes fit) [
      | inl has ↦ (
          elim (walk count has.more (behind_fit bytes has fit)) [
            | inl all ↦ inl (all.0, passes count bytes all.0 has all.1)
            | inr short ↦ inr (goes_short count bytes has short)
          ])
      | inr cut ↦ inr (record { passed = 0; rest = bytes; over = record { frames = []; held = refl; many = refl }; fewer = omega arith; cut = cut })
    ]

-- the bytes are a body, or have a fault
abbrev BodyOrFault : List ℕ → Type 0
BodyOrFault bytes = ((frames : List ReadFrameData) × SpellsBody frames bytes) ⊎ ((fault : BodyFault) × HasBodyFault bytes fault)

all_frames : (bytes rest : List ℕ) → AreBytes bytes → HasFormat bytes → Passed (count_in bytes) (drop BODY_WORD_LEN bytes) rest → BodyOrFault bytes
all_frames bytes [] fit is_format over =
    inl (over.frames, SpellsBody-IsBody over.frames bytes fit (record { is_format = is_format; all = over.many; held = over.held }))
all_frames bytes (x ∷ rest) fit is_format over =
    inr (LeftOver, record { is_format = is_format; frames = over.frames; rest = x ∷ rest; held = over.held; all = over.many; more = λ none. absurd cc })

short_body : (bytes : List ℕ) → HasFormat bytes → IsShort (count_in bytes) (drop BODY_WORD_LEN bytes) → BodyOrFault bytes
short_body bytes is_format short = inr (
  Short,
  inr (record {
    is_format = is_format;
    frames = short.over.frames;
    rest = short.rest;
    held = short.over.held;
    fewer = let fewer = short.fewer in omega (arith, short.over.many, fewer);
    cut = short.cut;
  }),
)

body_by : (bytes : List ℕ) → AreBytes bytes → (length bytes < BODY_WORD_LEN) ⊎ (BODY_WORD_LEN ≤ length bytes)
    → (format_in bytes ≡ 0) ⊎ (format_in bytes ≡ 0 → ⊥)
    → ((rest : List ℕ) × Passed (count_in bytes) (drop BODY_WORD_LEN bytes) rest) ⊎ IsShort (count_in bytes) (drop BODY_WORD_LEN bytes) → BodyOrFault bytes
body_by bytes fit (inl few) format frames = inr (Short, inl few)
body_by bytes fit (inr long) (inr isnt) frames = inr (Format, (long, isnt))
body_by bytes fit (inr long) (inl format) (inl all) = all_frames bytes all.0 fit (record { word = long; format = format }) all.1
body_by bytes fit (inr long) (inl format) (inr short) = short_body bytes (record { word = long; format = format }) short

body_or_fault : (bytes : List ℕ) → AreBytes bytes → BodyOrFault bytes
body_or_fault bytes fit =
    body_by bytes fit (cases_lt _ _) (cases_eq _ _) (walk (count_in bytes) (drop BODY_WORD_LEN bytes) (AreBytes-drop BODY_WORD_LEN bytes fit))

-- ---- a record

-- the bytes are a record, or have a fault
abbrev RecordOrFault : List ℕ → Type 0
RecordOrFault bytes = ((said : RecordData) × SpellsRecord said bytes) ⊎ ((fault : RecordFault) × HasRecordFault bytes fault)

neither : (kind : ℕ) → (kind ≡ PROGRAM_RECORD → ⊥) → (kind ≡ END_RECORD → ⊥) → IsKind kind → ⊥
neither kind not_program not_end (inl program) = not_program program
neither kind not_program not_end (inr ending) = not_end ending

program_by : (bytes : List ℕ) → AreBytes bytes → HasRecordHead bytes → kind_in bytes ≡ PROGRAM_RECORD
    → (record_channel_in bytes ≡ 0) ⊎ (record_channel_in bytes ≡ 0 → ⊥)
    → (length bytes ≡ PROGRAM_HEAD_LEN + INSN_LEN * insn_count_in bytes) ⊎ (length bytes ≡ PROGRAM_HEAD_LEN + INSN_LEN * insn_count_in bytes → ⊥)
    → RecordOrFault bytes
program_by bytes fit head kind (inl none) long = inr (Channel, (head, inl kind, none))
program_by bytes fit head kind (inr named) (inl long) = inl (program_at bytes, SpellsRecord-program bytes fit head.tagged kind named long)
program_by bytes fit head kind (inr named) (inr isnt) = inr (Length, inr (head, inl kind, named, λ right. isnt (right.program kind)))

end_by : (bytes : List ℕ) → AreBytes bytes → HasRecordHead bytes → kind_in bytes ≡ END_RECORD
    → (record_channel_in bytes ≡ 0) ⊎ (record_channel_in bytes ≡ 0 → ⊥)
    → (length bytes ≡ END_RECORD_LEN) ⊎ (length bytes ≡ END_RECORD_LEN → ⊥) → RecordOrFault bytes
end_by bytes fit head kind (inl none) long = inr (Channel, (head, inr kind, none))
end_by bytes fit head kind (inr named) (inl long) = inl (end_at bytes, SpellsRecord-end bytes fit head.tagged kind named long)
end_by bytes fit head kind (inr named) (inr isnt) = inr (Length, inr (head, inr kind, named, λ right. isnt (right.ending kind)))

kind_by : (bytes : List ℕ) → AreBytes bytes → HasRecordHead bytes → (kind_in bytes ≡ PROGRAM_RECORD) ⊎ (kind_in bytes ≡ PROGRAM_RECORD → ⊥)
    → (kind_in bytes ≡ END_RECORD) ⊎ (kind_in bytes ≡ END_RECORD → ⊥) → RecordOrFault bytes
kind_by bytes fit head (inl program) ending = program_by bytes fit head program (cases_eq _ _) (cases_eq _ _)
kind_by bytes fit head (inr isnt) (inl ending) = end_by bytes fit head ending (cases_eq _ _) (cases_eq _ _)
kind_by bytes fit head (inr isnt) (inr not_end) = inr (Kind, (head, neither (kind_in bytes) isnt not_end))

record_by : (bytes : List ℕ) → AreBytes bytes → IsTagged bytes → (length bytes < RECORD_HEAD_LEN) ⊎ (RECORD_HEAD_LEN ≤ length bytes) → RecordOrFault bytes
record_by bytes fit tagged (inl few) = inr (Length, inl (tagged, few))
record_by bytes fit tagged (inr long) = kind_by bytes fit (record { tagged = tagged; whole = long }) (cases_eq _ _) (cases_eq _ _)

record_or_fault : (bytes : List ℕ) → AreBytes bytes → IsTagged bytes → RecordOrFault bytes
record_or_fault bytes fit tagged = record_by bytes fit tagged (cases_lt _ _)

-- ---- what a header says

plain_by : (flags : ℕ) → (has_bit flags 7 ≡ false) ⊎ (has_bit flags 7 ≡ false → ⊥) → (has_bit flags 6 ≡ false) ⊎ (has_bit flags 6 ≡ false → ⊥)
    → (has_bit flags 1 ≡ has_bit flags 0) ⊎ (has_bit flags 1 ≡ has_bit flags 0 → ⊥) → IsPlain flags ⊎ (IsPlain flags → ⊥)
plain_by flags (inr isnt) times same = inr (λ is. isnt is.no_secondary_header)
plain_by flags (inl header) (inr isnt) same = inr (λ is. isnt is.no_secondary_times)
plain_by flags (inl header) (inl times) (inr isnt) = inr (λ is. isnt is.whole_checksum)
plain_by flags (inl header) (inl times) (inl same) =
    inl (record { no_secondary_header = header; no_secondary_times = times; whole_checksum = same })

decide_plain : (flags : ℕ) → IsPlain flags ⊎ (IsPlain flags → ⊥)
decide_plain flags = plain_by flags (decide_false _) (decide_false _) (decide_same _ _)

frames_by : (header : HeaderData) → IsPlain header.flags ⊎ (IsPlain header.flags → ⊥) → (header.kind ≡ ETHERNET_DATA) ⊎ (header.kind ≡ ETHERNET_DATA → ⊥)
    → SaysFrames header ⊎ (SaysFrames header → ⊥)
frames_by header (inr isnt) kind = inr (λ says. isnt says.0)
frames_by header (inl plain) (inr isnt) = inr (λ says. isnt says.1)
frames_by header (inl plain) (inl kind) = inl (plain, kind)

says_record_by : (header : HeaderData) → IsPlain header.flags ⊎ (IsPlain header.flags → ⊥)
    → (header.kind ≡ COMPUTER_GENERATED_DATA) ⊎ (header.kind ≡ COMPUTER_GENERATED_DATA → ⊥)
    → (header.channel ≡ 0) ⊎ (header.channel ≡ 0 → ⊥) → SaysRecord header ⊎ (SaysRecord header → ⊥)
says_record_by header (inr isnt) kind channel = inr (λ says. isnt says.0)
says_record_by header (inl plain) (inr isnt) channel = inr (λ says. isnt says.1)
says_record_by header (inl plain) (inl kind) (inr isnt) = inr (λ says. isnt says.2)
says_record_by header (inl plain) (inl kind) (inl channel) = inl (plain, kind, channel)

-- ---- what a packet holds

-- the data of a packet are something, or none of what a packet can hold
abbrev ClassOrNone : HeaderData → List ℕ → Type 0
ClassOrNone header bytes = ((what : What) × HasClass header bytes what) ⊎ HasNoClass header bytes

class_of_body : (header : HeaderData) (bytes : List ℕ) → SaysFrames header → BodyOrFault bytes → ClassOrNone header bytes
class_of_body header bytes says (inl body) = inl (Frames (length body.0), (says, body.0, body.1, refl))
class_of_body header bytes says (inr (Format, has)) = inl (Other, inr (inl (says, has)))
class_of_body header bytes says (inr (Short, has)) = inr (inl (says, inl has))
class_of_body header bytes says (inr (LeftOver, has)) = inr (inl (says, inr has))

class_of_record : (header : HeaderData) (bytes : List ℕ) → SaysRecord header → RecordOrFault bytes → ClassOrNone header bytes
class_of_record header bytes says (inl (OfProgram channel version first insns, spells)) =
    inl (Program channel version first (length insns), (says, insns, spells, refl))
class_of_record header bytes says (inl (OfEnd end, spells)) = inl (End end.channel end.offered end.kept, (says, spells))
class_of_record header bytes says (inr (fault, has)) = inr (inr (says, fault, has))

class_of_tag : (header : HeaderData) (bytes : List ℕ) → AreBytes bytes → SaysRecord header → IsTagged bytes ⊎ (IsTagged bytes → ⊥) → ClassOrNone header bytes
class_of_tag header bytes fit says (inr isnt) = inl (Other, inr (inr (says, isnt)))
class_of_tag header bytes fit says (inl tagged) = class_of_record header bytes says (record_or_fault bytes fit tagged)

class_by : (header : HeaderData) (bytes : List ℕ) → AreBytes bytes → SaysFrames header ⊎ (SaysFrames header → ⊥) → SaysRecord header ⊎ (SaysRecord header → ⊥)
    → ClassOrNone header bytes
class_by header bytes fit (inl says) a_record = class_of_body header bytes says (body_or_fault bytes fit)
class_by header bytes fit (inr isnt) (inl says) = class_of_tag header bytes fit says (decide_list _ _)
class_by header bytes fit (inr isnt) (inr none) = inl (Other, inl (isnt, none))

-- the packet's sum is right where it is judged, or it isn't
abbrev Summed : HeaderData → List ℕ → Type 0
Summed header body = IsSummed header body ⊎ (HasChecksum header.flags × (HasSum body → ⊥))

summed_by : (header : HeaderData) (body : List ℕ) → HasChecksum header.flags ⊎ (HasChecksum header.flags → ⊥) → HasSum body ⊎ (HasSum body → ⊥)
    → Summed header body
summed_by header body (inr isnt) sum = inl (λ is. absurd (isnt is))
summed_by header body (inl is) (inl sum) = inl (λ _. sum)
summed_by header body (inl is) (inr wrong) = inr (is, wrong)

-- a packet holds something, or it has a fault
abbrev HoldsOrFault : HeaderData → List ℕ → Type 0
HoldsOrFault header body = ((what : What) × Holds header body what) ⊎ ((fault : ClassFault) × HasClassFault header body fault)

judged_by : (header : HeaderData) (body : List ℕ) → Summed header body → ClassOrNone header (data_in header body) → HoldsOrFault header body
judged_by header body (inl right) (inl (what, is)) = inl (what, record { class = is; summed = λ _. right })
judged_by header body (inl right) (inr none) = inr (Body, (none, right))
judged_by header body (inr wrong) (inl (Other, is)) = inl (Other, record { class = is; summed = λ judged. absurd (judged is) })
judged_by header body (inr wrong) (inl (Frames n, is)) = inr (
  DataChecksum,
  (λ other. one_thing header (data_in header body) (Frames n) is (λ e. cc) other, wrong.0, wrong.1),
)
judged_by header body (inr wrong) (inl (Program c v f n, is)) =
    inr (DataChecksum, (λ other. one_thing header (data_in header body) (Program c v f n) is (λ e. cc) other, wrong.0, wrong.1))
judged_by header body (inr wrong) (inl (End c o k, is)) = inr (
  DataChecksum,
  (λ other. one_thing header (data_in header body) (End c o k) is (λ e. cc) other, wrong.0, wrong.1),
)
judged_by header body (inr wrong) (inr none) = inr (DataChecksum, (λ other. other_or_fault header (data_in header body) other none, wrong.0, wrong.1))

pub holds_or_fault : (header : HeaderData) (body : List ℕ) → AreBytes body → HoldsOrFault header body
holds_or_fault header body fit =
    judged_by header body (summed_by header body (decide_checksum header.flags) (cases_eq _ _))
    (class_by header (data_in header body) (AreBytes-take header.data_len body fit)
    (frames_by header (decide_plain header.flags) (cases_eq _ _)) (says_record_by header (decide_plain header.flags) (cases_eq _ _) (cases_eq _ _)))
