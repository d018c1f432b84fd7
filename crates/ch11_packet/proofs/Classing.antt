-- What a packet holds is one thing, or it has a fault.
use Rattle.std.proofs.Common.{◌≡◌, ℕ, inl, inr, List, length, drop, Option, None, Some, refl, sym, ap, subst, ◌∙◌, arith}
use Rattle.std.specs.Prelude.{◌≢◌, ◌⊎◌, ◌↔◌, [], Result, Ok, Err, IfOk}
use Rattle.std.specs.Option.{ok_or}
use Rattle.bpf_insn.specs.declared.insn.Insn.{Insn}
use Rattle.ch11_packet.specs.declared.frames.decode.BodyFault.TheVariants.{Format, Short, LeftOver}
use Rattle.ch11_packet.specs.declared.records.decode.RecordFault.TheVariants.{Kind, Channel, Length}
use Rattle.ch11_packet.specs.declared.records.decode.RecordFault.{RecordFault}
use Rattle.ch11_packet.specs.declared.class.What.{What}
use Rattle.ch11_packet.specs.declared.class.What.TheVariants.{Frames, Program, End, Other}
use Rattle.ch11_packet.specs.declared.class.ClassFault.{ClassFault}
use Rattle.ch11_packet.specs.declared.class.ClassFault.TheVariants.{DataChecksum, Body}
use Rattle.ch11_packet.specs.declared.records.record.ProgramRecord.{ProgramRecord}
use Rattle.ch11_packet.specs.declared.records.record.Record.{Record}
use Rattle.ch11_packet.specs.declared.records.record.Record.TheVariants.{Program as ProgramOf}
use Rattle.ch11_packet.specs.Views.{record_data, record_insns}
use Rattle.ch11_packet.specs.Header.{HeaderData}
use Rattle.ch11_packet.specs.FramesRead.{ReadFrameData, SpellsBody, first_reads}
use Rattle.ch11_packet.specs.declared.frames.word.TheConstants.{BODY_WORD_LEN}
use Rattle.ch11_packet.specs.Records.{EndData}
use Rattle.ch11_packet.specs.RecordsRead.{IsTagged, SpellsRecord, HasRecordFault, RecordData}
use Rattle.ch11_packet.specs.RecordsRead.RecordData.{OfProgram, OfEnd}
use Rattle.ch11_packet.specs.Flags.{HasChecksum}
use Rattle.ch11_packet.specs.Classes.{SaysFrames, SaysRecord, IsJudgedAs, IsOther, HasClass, HasNoClass, IsAnswer}
use Rattle.ch11_packet.specs.Classes.{HasSum, IsSummed, Holds, HasClassFault, data_in, said_frames}
use Rattle.ch11_packet.proofs.ReadBodies.{one_body, no_fault, one_fault, IsBody-SpellsBody}
use Rattle.ch11_packet.proofs.FirstFrames.{first_reads-Begins}
use Rattle.ch11_packet.proofs.StoredInsns.{length-stored_insns}
use Rattle.ch11_packet.proofs.ReadRecords.{one_record, no_record_fault, Says-SpellsRecord}

not_both : (header : HeaderData) → SaysFrames header → SaysRecord header → ⊥
not_both header a b = omega (arith, a.1, b.1)

-- the fault of a record that has one comes with its tag
tagged_fault : (bytes : List ℕ) (fault : RecordFault) → HasRecordFault bytes fault → IsTagged bytes
tagged_fault bytes Kind h = h.0.tagged
tagged_fault bytes Channel h = h.0.tagged
tagged_fault bytes Length (inl h) = h.0
tagged_fault bytes Length (inr h) = h.0.tagged

-- frames aren't anything else
frames_or_other : (header : HeaderData) (bytes : List ℕ) (count : ℕ) → HasClass header bytes (Frames count) → IsOther header bytes → ⊥
frames_or_other header bytes count a (inl b) = b.0 a.0
frames_or_other header bytes count a (inr (inl b)) = no_fault a.1 bytes Format a.2 b.1
frames_or_other header bytes count a (inr (inr b)) = not_both header a.0 b.0

-- nor is a record
record_or_other : (header : HeaderData) (bytes : List ℕ) (said : RecordData) → SaysRecord header → SpellsRecord said bytes → IsOther header bytes → ⊥
record_or_other header bytes said a spells (inl b) = b.1 a
record_or_other header bytes said a spells (inr (inl b)) = not_both header b.0 a
record_or_other header bytes said a spells (inr (inr b)) = b.1 (Says-SpellsRecord said bytes spells).head.tagged

same_counts : (c v f n c' v' f' n' : ℕ) (insns others : List Insn) → OfProgram c v f insns ≡ OfProgram c' v' f' others → length insns ≡ n → length others ≡ n'
    → Program c v f n ≡ Program c' v' f' n'
same_counts c v f n c' v' f' n' insns others e m m' =
    let same : insns ≡ others = cc in
    let count : n ≡ n' = sym m ∙ ap (λ (l : List Insn). length l) same ∙ m' in
    cc

same_ends : (c o k c' o' k' : ℕ) → OfEnd (record { channel = c; offered = o; kept = k }) ≡ OfEnd (record { channel = c'; offered = o'; kept = k' })
    → End c o k ≡ End c' o' k'
same_ends c o k c' o' k' e =
    let same : ◌≡◌ {A = EndData} (record { channel = c; offered = o; kept = k }) (record { channel = c'; offered = o'; kept = k' }) = cc in
    let channel : c ≡ c' = ap (λ (d : EndData). d.channel) same in
    let offered : o ≡ o' = ap (λ (d : EndData). d.offered) same in
    let kept : k ≡ k' = ap (λ (d : EndData). d.kept) same in
    cc

no_end : (c v f : ℕ) (insns : List Insn) (end : EndData) → OfProgram c v f insns ≡ OfEnd end → ⊥
no_end c v f insns end e = cc

-- a packet holds one thing
pub one_class : (header : HeaderData) (bytes : List ℕ) (what other : What) → HasClass header bytes what → HasClass header bytes other → what ≡ other
one_class header bytes (Frames m) (Frames n) a b = ap (λ k. Frames k) (sym a.3 ∙ ap length (one_body a.1 b.1 bytes a.2 b.2) ∙ b.3)
one_class header bytes (Frames m) (Program c v f n) a b = absurd (not_both header a.0 b.0)
one_class header bytes (Frames m) (End c o k) a b = absurd (not_both header a.0 b.0)
one_class header bytes (Frames m) Other a b = absurd (frames_or_other header bytes m a b)
one_class header bytes (Program c v f n) (Frames m) a b = absurd (not_both header b.0 a.0)
one_class header bytes (Program c v f n) (Program c' v' f' n') a b =
    same_counts c v f n c' v' f' n' a.1 b.1 (one_record _ _ bytes a.2 b.2) a.3 b.3
one_class header bytes (Program c v f n) (End c' o k) a b = absurd (no_end c v f a.1 _ (one_record _ _ bytes a.2 b.1))
one_class header bytes (Program c v f n) Other a b = absurd (record_or_other header bytes (OfProgram c v f a.1) a.0 a.2 b)
one_class header bytes (End c o k) (Frames m) a b = absurd (not_both header b.0 a.0)
one_class header bytes (End c o k) (Program c' v f n) a b = absurd (no_end c' v f b.1 _ (sym (one_record _ _ bytes a.1 b.2)))
one_class header bytes (End c o k) (End c' o' k') a b = same_ends c o k c' o' k' (one_record _ _ bytes a.1 b.1)
one_class header bytes (End c o k) Other a b = absurd (record_or_other header bytes (OfEnd (record { channel = c; offered = o; kept = k })) a.0 a.1 b)
one_class header bytes Other (Frames m) a b = absurd (frames_or_other header bytes m b a)
one_class header bytes Other (Program c v f n) a b = absurd (record_or_other header bytes (OfProgram c v f b.1) b.0 b.2 a)
one_class header bytes Other (End c o k) a b = absurd (record_or_other header bytes (OfEnd (record { channel = c; offered = o; kept = k })) b.0 b.1 a)
one_class header bytes Other Other a b = refl

-- ---- a fault

short_format : Format ≡ Short → ⊥
short_format e = cc

left_format : Format ≡ LeftOver → ⊥
left_format e = cc

pub other_or_fault : (header : HeaderData) (bytes : List ℕ) → IsOther header bytes → HasNoClass header bytes → ⊥
other_or_fault header bytes (inl a) (inl b) = a.0 b.0
other_or_fault header bytes (inl a) (inr b) = a.1 b.0
other_or_fault header bytes (inr (inl a)) (inl (says, inl short)) = short_format (one_fault bytes Format Short a.1 short)
other_or_fault header bytes (inr (inl a)) (inl (says, inr left)) = left_format (one_fault bytes Format LeftOver a.1 left)
other_or_fault header bytes (inr (inl a)) (inr b) = not_both header a.0 b.0
other_or_fault header bytes (inr (inr a)) (inl b) = not_both header b.0 a.0
other_or_fault header bytes (inr (inr a)) (inr b) = a.1 (tagged_fault bytes b.1 b.2)

frames_or_fault : (header : HeaderData) (bytes : List ℕ) (frames : List ReadFrameData) → SaysFrames header → SpellsBody frames bytes → HasNoClass header bytes
    → ⊥
frames_or_fault header bytes frames a spells (inl (says, inl short)) = no_fault frames bytes Short spells short
frames_or_fault header bytes frames a spells (inl (says, inr left)) = no_fault frames bytes LeftOver spells left
frames_or_fault header bytes frames a spells (inr b) = not_both header a b.0

record_or_fault : (header : HeaderData) (bytes : List ℕ) (said : RecordData) → SaysRecord header → SpellsRecord said bytes → HasNoClass header bytes → ⊥
record_or_fault header bytes said a spells (inl b) = not_both header b.0 a
record_or_fault header bytes said a spells (inr b) = no_record_fault said bytes b.1 spells b.2

-- a packet that holds something has no fault
pub class_or_fault : (header : HeaderData) (bytes : List ℕ) (what : What) → HasClass header bytes what → HasNoClass header bytes → ⊥
class_or_fault header bytes (Frames n) a b = frames_or_fault header bytes a.1 a.0 a.2 b
class_or_fault header bytes (Program c v f n) a b = record_or_fault header bytes (OfProgram c v f a.1) a.0 a.2 b
class_or_fault header bytes (End c o k) a b = record_or_fault header bytes (OfEnd (record { channel = c; offered = o; kept = k })) a.0 a.1 b
class_or_fault header bytes Other a b = other_or_fault header bytes a b

-- data that are something aren't anything else
pub one_thing : (header : HeaderData) (bytes : List ℕ) (what : What) → HasClass header bytes what → (what ≡ Other → ⊥) → IsOther header bytes → ⊥
one_thing header bytes what is isnt other = isnt (one_class header bytes what Other is other)

-- a packet holds one thing, or it has one fault
pub one_held : (header : HeaderData) (body : List ℕ) (what other : What) → Holds header body what → Holds header body other → what ≡ other
one_held header body what other a b = one_class header (data_in header body) what other a.class b.class

pub held_or_fault : (header : HeaderData) (body : List ℕ) (what : What) (fault : ClassFault) → Holds header body what → HasClassFault header body fault → ⊥
held_or_fault header body what DataChecksum holds wrong = wrong.2 (holds.summed wrong.0 wrong.1)
held_or_fault header body what Body holds wrong = class_or_fault header (data_in header body) what holds.class wrong.0

pub one_fault_held : (header : HeaderData) (body : List ℕ) (fault other : ClassFault) → HasClassFault header body fault → HasClassFault header body other
    → fault ≡ other
one_fault_held header body DataChecksum DataChecksum a b = refl
one_fault_held header body DataChecksum Body a b = absurd (a.2 (b.1 a.1))
one_fault_held header body Body DataChecksum a b = absurd (b.2 (a.1 b.1))
one_fault_held header body Body Body a b = refl

-- ---- what is answered

class_found : (header : HeaderData) (bytes : List ℕ) (answer : Option What) → IsAnswer header bytes answer
    → (what : What) → HasClass header bytes what → answer ≡ Some what
class_found header bytes None none what is = absurd (class_or_fault header bytes what is none)
class_found header bytes (Some found) some what is = ap (λ w. Some w) (one_class header bytes found what some is)

-- no wrong sum was found: the data are anything else, or the sum is right
abbrev pub Passes : HeaderData → List ℕ → Option What → Type 0
Passes header body answer = (answer ≡ Some Other) ⊎ IsSummed header body

summed_by : (header : HeaderData) (body : List ℕ) (what : What) → HasClass header (data_in header body) what → Passes header body (Some what)
    → (IsOther header (data_in header body) → ⊥) → IsSummed header body
summed_by header body what is (inl other) judged = let same : what ≡ Other = cc in absurd (judged (subst (HasClass header (data_in header body)) same is))
summed_by header body what is (inr right) judged = right

pub is_held : (header : HeaderData) (body : List ℕ) (answer : Option What) → IsAnswer header (data_in header body) answer
    → (answer ≡ Some Other) ⊎ (HasChecksum header.flags → HasSum body)
    → IfOk (ok_or answer Body) (Holds header body)
is_held header body None none passes = tt
is_held header body (Some what) some passes = record { class = some; summed = summed_by header body what some passes }

pub held_found : (header : HeaderData) (body : List ℕ) (answer : Option What) → IsAnswer header (data_in header body) answer
    → (what : What) → Holds header body what → ok_or answer Body ≡ Ok what
held_found header body None none what is = absurd (class_or_fault header (data_in header body) what is.class none)
held_found header body (Some found) some what is = ap (λ w. Ok w) (one_class header (data_in header body) found what some is.class)

pub fault_found : (header : HeaderData) (body : List ℕ) (answer : Option What) → IsAnswer header (data_in header body) answer
    → (answer ≡ Some Other) ⊎ (HasChecksum header.flags → HasSum body)
    → (fault : ClassFault) → (ok_or answer Body ≡ Err fault) ↔ HasClassFault header body fault
fault_found header body None none (inl other) fault = absurd cc
fault_found header body None none (inr right) Body = (λ _. (none, right), λ _. refl)
fault_found header body None none (inr right) DataChecksum = (λ e. absurd cc, λ wrong. absurd (wrong.2 (right wrong.1)))
fault_found header body (Some found) some passes fault =
    let holds : Holds header body found = record { class = some; summed = summed_by header body found some passes } in
    (λ e. absurd cc, λ wrong. absurd (held_or_fault header body found fault holds wrong))

-- a wrong sum was found
not_other : (header : HeaderData) (bytes : List ℕ) (answer : Option What) → IsAnswer header bytes answer → (answer ≡ Some Other → ⊥) → IsOther header bytes → ⊥
not_other header bytes answer is isnt other = isnt (class_found header bytes answer is Other other)

pub sum_fault : (header : HeaderData) (body : List ℕ) (answer : Option What) → IsAnswer header (data_in header body) answer → (answer ≡ Some Other → ⊥)
    → HasChecksum header.flags → (HasSum body → ⊥)
    → (fault : ClassFault) → (◌≡◌ {A = Result What ClassFault} (Err DataChecksum) (Err fault)) ↔ HasClassFault header body fault
sum_fault header body answer is isnt has wrong DataChecksum = (λ _. (not_other header (data_in header body) answer is isnt, has, wrong), λ _. refl)
sum_fault header body answer is isnt has wrong Body = (λ e. absurd cc, λ h. absurd (wrong (h.1 has)))

pub sum_found : (header : HeaderData) (body : List ℕ) (answer : Option What) → IsAnswer header (data_in header body) answer → (answer ≡ Some Other → ⊥)
    → HasChecksum header.flags → (HasSum body → ⊥)
    → (what : What) → Holds header body what → ◌≡◌ {A = Result What ClassFault} (Err DataChecksum) (Ok what)
sum_found header body answer is isnt has wrong what holds = absurd (wrong (holds.summed (not_other header (data_in header body) answer is isnt) has))

-- the record of a program, as it is read, is the program's
pub program_holds : (header : HeaderData) (bytes : List ℕ) (found : Record) (program : ProgramRecord) → found ≡ ProgramOf program → SaysRecord header
    → SpellsRecord (record_data found) bytes
    → HasClass header bytes (Program program.channel program.version program.first program.count)
program_holds header bytes found program is says spells =
    (says, record_insns program, subst (λ r. SpellsRecord (record_data r) bytes) is spells, length-stored_insns program.count program.insns.now)

-- ---- what isn't judged

judged_back : (header other : HeaderData) → IsJudgedAs header other → IsJudgedAs other header
judged_back header other same = record {
  channel = sym same.channel;
  data_len = sym same.data_len;
  kind = sym same.kind;
  flags = (same.flags.1, same.flags.0);
}

frames_again : (header other : HeaderData) → IsJudgedAs header other → SaysFrames header → SaysFrames other
frames_again header other same is = (same.flags.0 is.0, same.kind ∙ is.1)

record_again : (header other : HeaderData) → IsJudgedAs header other → SaysRecord header → SaysRecord other
record_again header other same is = (same.flags.0 is.0, same.kind ∙ is.1, same.channel ∙ is.2)

other_again : (header other : HeaderData) (bytes : List ℕ) → IsJudgedAs header other → IsOther header bytes → IsOther other bytes
other_again header other bytes same (inl none) =
    let back = judged_back header other same in
    inl (λ is. none.0 (frames_again other header back is), λ is. none.1 (record_again other header back is))
other_again header other bytes same (inr (inl format)) = inr (inl (frames_again header other same format.0, format.1))
other_again header other bytes same (inr (inr untagged)) = inr (inr (record_again header other same untagged.0, untagged.1))

class_again : (header other : HeaderData) (bytes : List ℕ) (what : What) → IsJudgedAs header other → HasClass header bytes what → HasClass other bytes what
class_again header other bytes (Frames n) same is = (frames_again header other same is.0, is.1, is.2, is.3)
class_again header other bytes (Program c v f n) same is = (record_again header other same is.0, is.1, is.2, is.3)
class_again header other bytes (End c o k) same is = (record_again header other same is.0, is.1)
class_again header other bytes Other same is = other_again header other bytes same is

pub holds_again : (header other : HeaderData) (body more : List ℕ) (what : What) → IsJudgedAs header other → data_in other more ≡ data_in header body
    → (what ≢ Other → IsSummed other more)
    → Holds header body what → Holds other more what
holds_again header other body more what same bytes sums is =
    let again = subst (λ l. HasClass other l what) (sym bytes) (class_again header other (data_in header body) what same is.class) in
    record {
      class = again;
      summed = λ judged. sums (λ e. judged (subst (HasClass other (data_in other more)) e again));
    }

none_again : (header other : HeaderData) (bytes : List ℕ) → IsJudgedAs header other → HasNoClass header bytes → HasNoClass other bytes
none_again header other bytes same (inl body) = inl (frames_again header other same body.0, body.1)
none_again header other bytes same (inr found) = inr (record_again header other same found.0, found.1, found.2)

pub fault_again : (header other : HeaderData) (body more : List ℕ) → IsJudgedAs header other → data_in other more ≡ data_in header body → IsSummed other more
    → HasClassFault header body Body → HasClassFault other more Body
fault_again header other body more same bytes right is =
    (subst (HasNoClass other) (sym bytes) (none_again header other (data_in header body) same is.0), right)

pub wrong_sum : (header other : HeaderData) (body more : List ℕ) → IsJudgedAs header other → data_in other more ≡ data_in header body
    → (IsOther header (data_in header body) → ⊥)
    → HasChecksum other.flags → (HasSum more → ⊥) → HasClassFault other more DataChecksum
wrong_sum header other body more same bytes judged has wrong =
    (λ o. judged (other_again other header (data_in header body) (judged_back header other same) (subst (IsOther other) bytes o)), has, wrong)

-- ---- the frames that bytes say

pub said_by_body : (frames : List ReadFrameData) (bytes : List ℕ) → SpellsBody frames bytes → said_frames bytes ≡ frames
said_by_body frames bytes spells =
    let is = IsBody-SpellsBody frames bytes spells in
    ap (λ n. first_reads n (drop BODY_WORD_LEN bytes)) (sym is.all) ∙ first_reads-Begins frames (drop BODY_WORD_LEN bytes) [] is.held
