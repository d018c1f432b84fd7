-- The program that a packet holds.
use Rattle.std.proofs.Common.{◌≡◌, ℕ, zero, suc, ◌+◌, ◌≤◌, List, [], ◌∷◌, ◌++◌, length, take, drop}
use Rattle.std.proofs.Common.{slice_get, Option, None, Some, refl, sym, ap, subst, ◌∙◌, arith}
use Rattle.std.specs.Prelude.{Result, Ok, Err, IsOkAnd, IfSome, option_map}
use Rattle.std.specs.List.{flat_map}
use Rattle.std.proofs.lemmas.List.{take_all}
use Rattle.bpf_insn.specs.declared.insn.Insn.{Insn}
use Rattle.std.proofs.lemmas.List.Elements.{recursion_from_All}
use Rattle.bpf_insn.specs.Bytes.{InRange, insn_bytes}
use Rattle.ch11_packet.specs.declared.class.What.{What}
use Rattle.ch11_packet.specs.declared.class.What.TheVariants.{Program}
use Rattle.ch11_packet.specs.declared.records.TheConstants.{PROGRAM_HEAD_LEN}
use Rattle.ch11_packet.specs.declared.records.record.ProgramRecord.{ProgramRecord}
use Rattle.ch11_packet.specs.declared.records.record.Record.{Record}
use Rattle.ch11_packet.specs.declared.records.record.Record.TheVariants.{Program as AProgram, End as AnEnd}
use Rattle.ch11_packet.specs.Header.{HeaderData}
use Rattle.ch11_packet.specs.Classes.{Holds, data_in}
use Rattle.ch11_packet.specs.RecordsRead.{RecordData, SpellsRecord, stored_insns}
use Rattle.ch11_packet.specs.RecordsRead.RecordData.{OfProgram as ProgramSaid}
use Rattle.ch11_packet.specs.Views.{record_data, record_insns}
use Rattle.ch11_packet.proofs.StoredInsns.{length-stored_insns, stored_insns-flat_map}
use Rattle.rec_reader.specs.Packets.{PacketData}
use Rattle.rec_reader.specs.Channels.{saying_in, saying_of}
use Rattle.rec_reader.specs.Channels.Saying.{OfProgram}
use Rattle.rec_reader.specs.Views.{program_data}

-- the instructions of a record are stored behind its head
stored_are : (channel version first count : ℕ) (insns : List Insn) (bytes : List ℕ) → SpellsRecord (ProgramSaid channel version first insns) bytes
    → length insns ≡ count → stored_insns count (drop PROGRAM_HEAD_LEN bytes) ≡ insns
stored_are channel version first count insns bytes spells e =
    ap (λ l. stored_insns count (drop PROGRAM_HEAD_LEN l)) spells.3
    ∙ ap (λ n. stored_insns n (flat_map insn_bytes insns)) (sym e)
    ∙ stored_insns-flat_map insns (recursion_from_All InRange insns spells.0.insns_fit)

-- a record that says this is a program
is_program : (found : Record) (channel version first : ℕ) (insns : List Insn) → record_data found ≡ ProgramSaid channel version first insns
    → (program : ProgramRecord) × (found ≡ AProgram program)
is_program (AProgram program) channel version first insns e = (program, refl)
is_program (AnEnd channel offered kept) other version first insns e = cc

decoded_some : {E : Type 0} (answer : Result (Option Record) E) (said : RecordData) → IsOkAnd answer (λ read. option_map record_data read ≡ Some said)
    → (found : Record) × (answer ≡ Ok (Some found)) × (record_data found ≡ said)
decoded_some (Ok None) said h = cc
decoded_some (Ok (Some found)) said h = (found, refl, cc)
decoded_some (Err fault) said h = absurd h

decoded_program : {E : Type 0} (header : HeaderData) (body bytes : List ℕ) (what : What) (channel version first count : ℕ) (answer : Result (Option Record) E)
    → bytes ≡ data_in header body → what ≡ Program channel version first count
    → ((said : RecordData) → SpellsRecord said bytes → IsOkAnd answer (λ read. option_map record_data read ≡ Some said))
    → Holds header body what → (program : ProgramRecord) × (answer ≡ Ok (Some (AProgram program)))
decoded_program header body bytes what channel version first count answer is held read holds =
    let known = subst (Holds header body) held holds in
    let insns = known.class.1 in
    let spells = subst (SpellsRecord (ProgramSaid channel version first insns)) (sym is) known.class.2 in
    let found = decoded_some answer (ProgramSaid channel version first insns) (read (ProgramSaid channel version first insns) spells) in
    let program = is_program found.0 channel version first insns found.2 in
    (program.0, found.1 ∙ ap (λ (r : Record). Ok (Some r)) program.1)

-- data that hold a program are decoded as one
pub decoded_other : {E : Type 0} (header : HeaderData) (body bytes : List ℕ) (what : What) (channel version first count : ℕ)
    (answer other : Result (Option Record) E)
    → bytes ≡ data_in header body → what ≡ Program channel version first count
    → ((said : RecordData) → SpellsRecord said bytes → IsOkAnd answer (λ read. option_map record_data read ≡ Some said))
    → answer ≡ other → ((program : ProgramRecord) → other ≡ Ok (Some (AProgram program)) → ⊥) → Holds header body what → ⊥
decoded_other header body bytes what channel version first count answer other is held read same apart holds =
    let decoded = decoded_program header body bytes what channel version first count answer is held read holds in
    apart decoded.0 (sym same ∙ decoded.1)

pub spelled_program : (read : Option Record) (found : Record) (program : ProgramRecord) (bytes : List ℕ)
    → IfSome read (λ r. SpellsRecord (record_data r) bytes) → read ≡ Some found → found ≡ AProgram program
    → SpellsRecord (record_data (AProgram program)) bytes
spelled_program read found program bytes spelled some is =
    subst (λ (r : Record). SpellsRecord (record_data r) bytes) is
    (subst (λ (o : Option Record). IfSome o (λ r. SpellsRecord (record_data r) bytes)) some spelled)

-- what a packet says whose record this program is
pub program_says : (header : HeaderData) (body bytes : List ℕ) (what : What) (program : ProgramRecord) → bytes ≡ data_in header body
    → what ≡ Program program.channel program.version program.first program.count → SpellsRecord (record_data (AProgram program)) bytes
    → saying_in header.channel what (data_in header body) ≡ Some (program.channel, OfProgram (program_data program))
program_says header body bytes what program is same spells =
    ap (saying_in header.channel what) (sym is) ∙ ap (λ w. saying_in header.channel w bytes) same
    ∙ ap (λ i. Some (program.channel, OfProgram (record { version = program.version; first = program.first; insns = i })))
    (stored_are program.channel program.version program.first program.count (record_insns program) bytes spells
    (length-stored_insns program.count program.insns.now))

-- a packet holds the program that its record is
pub program_is : ((header : HeaderData) (body : List ℕ) (what other : What) → Holds header body what → Holds header body other → what ≡ other)
    → (header : HeaderData) (body bytes : List ℕ) (what : What) (channel version first count : ℕ) (program : ProgramRecord) → bytes ≡ data_in header body
    → what ≡ Program channel version first count → SpellsRecord (record_data (AProgram program)) bytes → Holds header body what
    → what ≡ Program program.channel program.version program.first program.count
program_is one header body bytes what channel version first count program is held spells holds =
    let known = subst (Holds header body) held holds in
    one header body what (Program program.channel program.version program.first program.count) holds
    (record {
      class = (
        known.class.0,
        record_insns program,
        subst (SpellsRecord (record_data (AProgram program))) is spells,
        length-stored_insns program.count program.insns.now,
      );
      summed = known.summed;
    })

-- ---- instructions that are copied

-- one more of the first elements
pub one_more_taken : {A : Type 0} (xs ys : List A) (n : ℕ) (x : A) → ys ≡ take n xs → Some x ≡ slice_get xs n → ys ++ x ∷ [] ≡ take (n + 1) xs
one_more_taken [] ys zero x e has = cc
one_more_taken [] ys (suc n) x e has = cc
one_more_taken (a ∷ xs) ys zero x e has = let same : x ≡ a = cc in ap (λ l. l ++ x ∷ []) e ∙ ap (λ b. b ∷ []) same
one_more_taken (a ∷ xs) ys (suc n) x e has =
    ap (λ l. l ++ x ∷ []) e ∙ ap (λ l. a ∷ l) (one_more_taken xs (take n xs) n x refl has)
    ∙ ap (λ m. take m (a ∷ xs)) (let same : suc (n + 1) ≡ suc n + 1 = omega arith in same)

pub all_taken : (program : ProgramRecord) (insns : List Insn) (n : ℕ) → insns ≡ take n (record_insns program) → program.count ≤ n → insns ≡ record_insns program
all_taken program insns n e most =
    e ∙ take_all n (record_insns program) (let long = length-stored_insns program.count program.insns.now in omega arith)

-- ---- what a packet says

pub says_record : (packet : PacketData) (channel version first : ℕ) (insns : List Insn) → packet.what ≡ Program channel version first (length insns)
    → SpellsRecord (ProgramSaid channel version first insns) (data_in packet.header packet.body)
    → saying_of packet ≡ Some (channel, OfProgram (record { version = version; first = first; insns = insns }))
says_record packet channel version first insns held spells =
    ap (λ w. saying_in packet.header.channel w (data_in packet.header packet.body)) held
    ∙ ap (λ i. Some (channel, OfProgram (record { version = version; first = first; insns = i })))
    (stored_are channel version first (length insns) insns (data_in packet.header packet.body) spells refl)
