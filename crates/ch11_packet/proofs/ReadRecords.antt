-- The record that bytes are: they are one record at most, or have one fault.
use Rattle.std.proofs.Common.{◌≡◌, ℕ, ◌+◌, ◌*◌, ◌^◌, ◌<◌, ◌≤◌, ◌≢◌, inl, inr, List, [], ◌∷◌, ◌++◌, length, get_or, take}
use Rattle.std.proofs.Common.{drop, Option, None, Some, Result, Ok, Err, refl, sym, ap, subst, ◌∙◌, arith}
use Rattle.std.specs.Prelude.{codes, IsSome, IfSome}
use Rattle.std.specs.Int.{w16, w32, w64, to_le_bytes}
use Rattle.std.specs.List.{flat_map}
use Rattle.std.proofs.lemmas.Nat.{from_le_bytes-to_le_bytes_2, from_le_bytes-to_le_bytes_4, from_le_bytes-to_le_bytes_8}
use Rattle.std.proofs.lemmas.List.{length-drop, drop_all, append-nil}
use Rattle.bpf_insn.specs.declared.insn.Insn.{Insn}
use Rattle.bpf_insn.specs.Bytes.{insn_bytes}
use Rattle.bpf_insn.proofs.Ranges.{each_in_range, are_in_range}
use Rattle.ch11_packet.specs.declared.records.encode.TheConstants.{END_RECORD_LEN}
use Rattle.ch11_packet.specs.declared.records.TheConstants.{RECORD_HEAD_LEN, PROGRAM_HEAD_LEN, INSN_LEN, PROGRAM_RECORD, END_RECORD}
use Rattle.ch11_packet.specs.declared.records.record.Record.{Record}
use Rattle.ch11_packet.specs.declared.records.record.Record.TheVariants.{End}
use Rattle.ch11_packet.specs.declared.records.decode.RecordFault.{RecordFault}
use Rattle.ch11_packet.specs.declared.records.decode.RecordFault.TheVariants.{Kind, Channel, Length}
use Rattle.eth_frame.specs.Bytes.{AreBytes, u16_at, u32_at, u64_at}
use Rattle.ch11_packet.specs.Records.{EndData, IsEndRecord, program_spelling, end_spelling}
use Rattle.ch11_packet.specs.RecordsRead.{stored_insns, RecordData, IsProgramRecord, SpellsRecord, IsTagged, kind_in, record_channel_in}
use Rattle.ch11_packet.specs.RecordsRead.{insn_count_in, IsKind, HasRecordLength, HasRecordHead, HasRecordFields, HasRecordFault}
use Rattle.ch11_packet.specs.RecordsRead.RecordData.{OfProgram, OfEnd}
use Rattle.ch11_packet.specs.Views.{record_data}
use Rattle.eth_frame.proofs.Bytes.{AreBytes-drop, two_bytes, four_bytes, eight_bytes}
use Rattle.ch11_packet.proofs.RecordBytes.{length-insns}
use Rattle.ch11_packet.proofs.StoredInsns.{length-stored_insns, stored_insns-flat_map, flat_map-stored_insns, InRange-stored_insns}

-- ---- what the bytes of a record say

-- the record that bytes say, whatever their tag and their length are
abbrev pub program_at : List ℕ → RecordData
program_at bytes = OfProgram (record_channel_in bytes) (u32_at bytes 12) (u64_at bytes 16) (stored_insns (insn_count_in bytes) (drop PROGRAM_HEAD_LEN bytes))

abbrev pub end_in : List ℕ → EndData
end_in bytes = record { channel = record_channel_in bytes; offered = u64_at bytes 12; kept = u64_at bytes 20 }

abbrev pub end_at : List ℕ → RecordData
end_at bytes = OfEnd (end_in bytes)

-- what bytes that are a record say of themselves
pub record Says (said : RecordData) (bytes : List ℕ) : Type 0 where
  pub head : HasRecordHead bytes
  pub known : IsKind (kind_in bytes)
  pub named : record_channel_in bytes ≢ 0
  pub length_is : HasRecordLength bytes
  pub program : kind_in bytes ≡ PROGRAM_RECORD → said ≡ program_at bytes
  pub ending : kind_in bytes ≡ END_RECORD → said ≡ end_at bytes

same_program : (c v f : ℕ) (l : List Insn) (c' v' f' : ℕ) (l' : List Insn) → c ≡ c' → v ≡ v' → f ≡ f' → l ≡ l' → OfProgram c v f l ≡ OfProgram c' v' f' l'
same_program c v f l c' v' f' l' ec ev ef el = cc

same_end : (end other : EndData) → end.channel ≡ other.channel → end.offered ≡ other.offered → end.kept ≡ other.kept → OfEnd end ≡ OfEnd other
same_end end other channel offered kept = ap OfEnd (λ i. record { channel = channel i; offered = offered i; kept = kept i })

Says-program : (channel version first word unused : ℕ) (insns : List Insn) → IsProgramRecord channel version first insns
    → Says (OfProgram channel version first insns) (program_spelling word unused channel version first insns)
Says-program channel version first word unused insns is =
    let bytes = program_spelling word unused channel version first insns in
    let kind : kind_in bytes ≡ PROGRAM_RECORD = from_le_bytes-to_le_bytes_2 PROGRAM_RECORD (omega arith) in
    let channel_is : record_channel_in bytes ≡ channel = from_le_bytes-to_le_bytes_2 channel is.channel_fits in
    let count_is : insn_count_in bytes ≡ length insns = from_le_bytes-to_le_bytes_2 (length insns) is.few in
    record {
      head = record { tagged = refl; whole = omega (arith, length-insns insns) };
      known = inl kind;
      named = λ none. omega (arith, is.named, channel_is, none);
      length_is = record { program = λ _. omega (arith, length-insns insns, count_is); ending = λ other. absurd (omega (arith, kind, other)) };
      program = λ _. sym (same_program _ _ _ _ _ _ _ _ channel_is (from_le_bytes-to_le_bytes_4 version is.version_fits)
          (from_le_bytes-to_le_bytes_8 first is.first_fits)
          (ap (λ n. stored_insns n (flat_map insn_bytes insns)) count_is ∙ stored_insns-flat_map insns (each_in_range insns is.insns_fit)));
      ending = λ other. absurd (omega (arith, kind, other));
    }

Says-end : (end : EndData) (word : ℕ) → IsEndRecord end → Says (OfEnd end) (end_spelling word end)
Says-end end word is =
    let bytes = end_spelling word end in
    let kind : kind_in bytes ≡ END_RECORD = from_le_bytes-to_le_bytes_2 END_RECORD (omega arith) in
    let channel_is : record_channel_in bytes ≡ end.channel = from_le_bytes-to_le_bytes_2 end.channel is.channel_fits in
    record {
      head = record { tagged = refl; whole = omega arith };
      known = inr kind;
      named = λ none. omega (arith, is.named, channel_is, none);
      length_is = record { program = λ other. absurd (omega (arith, kind, other)); ending = λ _. refl };
      program = λ other. absurd (omega (arith, kind, other));
      ending = λ _. sym (same_end (end_in bytes) end channel_is (from_le_bytes-to_le_bytes_8 end.offered is.offered_fits)
          (from_le_bytes-to_le_bytes_8 end.kept is.kept_fits));
    }

pub Says-SpellsRecord : (said : RecordData) (bytes : List ℕ) → SpellsRecord said bytes → Says said bytes
Says-SpellsRecord (OfProgram channel version first insns) bytes spells =
    subst (λ l. Says (OfProgram channel version first insns) l) (sym spells.3) (Says-program channel version first spells.1 spells.2 insns spells.0)
Says-SpellsRecord (OfEnd end) bytes spells =
    subst (λ l. Says (OfEnd end) l) (sym spells.2) (Says-end end spells.1 spells.0)

-- ---- one outcome

joined : (said other : RecordData) (bytes : List ℕ) → Says said bytes → Says other bytes → IsKind (kind_in bytes) → said ≡ other
joined said other bytes a b (inl kind) = a.program kind ∙ sym (b.program kind)
joined said other bytes a b (inr kind) = a.ending kind ∙ sym (b.ending kind)

pub one_record : (said other : RecordData) (bytes : List ℕ) → SpellsRecord said bytes → SpellsRecord other bytes → said ≡ other
one_record said other bytes a b = joined said other bytes (Says-SpellsRecord said bytes a) (Says-SpellsRecord other bytes b)
    (Says-SpellsRecord said bytes a).known

-- a record has no fault
pub no_record_fault : (said : RecordData) (bytes : List ℕ) (fault : RecordFault) → SpellsRecord said bytes → HasRecordFault bytes fault → ⊥
no_record_fault said bytes Kind spells fault = fault.1 (Says-SpellsRecord said bytes spells).known
no_record_fault said bytes Channel spells fault = (Says-SpellsRecord said bytes spells).named fault.2
no_record_fault said bytes Length spells (inl short) = let says = Says-SpellsRecord said bytes spells in omega (arith, says.head.whole, short.1)
no_record_fault said bytes Length spells (inr wrong) = wrong.3 (Says-SpellsRecord said bytes spells).length_is

-- ---- bytes with nothing wrong are the record that they say

u64_fits : (bytes : List ℕ) (at : ℕ) → AreBytes bytes → u64_at bytes at < 2 ^ 64
u64_fits bytes at fit = omega (arith, fit at, fit (at + 1), fit (at + 2), fit (at + 3), fit (at + 4), fit (at + 5), fit (at + 6), fit (at + 7))

-- 28 bytes, one by one, and the rest
abbrev front : List ℕ → List ℕ
front bytes =
    get_or bytes 0 0 ∷ get_or bytes 1 0 ∷ get_or bytes 2 0 ∷ get_or bytes 3 0 ∷ get_or bytes 4 0 ∷ get_or bytes 5 0 ∷ get_or bytes 6 0 ∷ get_or bytes 7 0
    ∷ get_or bytes 8 0 ∷ get_or bytes 9 0 ∷ get_or bytes 10 0 ∷ get_or bytes 11 0 ∷ get_or bytes 12 0 ∷ get_or bytes 13 0 ∷ get_or bytes 14 0
    ∷ get_or bytes 15 0
    ∷ get_or bytes 16 0 ∷ get_or bytes 17 0 ∷ get_or bytes 18 0 ∷ get_or bytes 19 0 ∷ get_or bytes 20 0 ∷ get_or bytes 21 0 ∷ get_or bytes 22 0
    ∷ get_or bytes 23 0
    ∷ get_or bytes 24 0 ∷ get_or bytes 25 0 ∷ get_or bytes 26 0 ∷ get_or bytes 27 0 ∷ []

front_cells : (bytes : List ℕ) → PROGRAM_HEAD_LEN ≤ length bytes → bytes ≡ front bytes ++ drop PROGRAM_HEAD_LEN bytes
front_cells (a ∷ b ∷ c ∷ d ∷ e ∷ f ∷ g ∷ h ∷ i ∷ j ∷ k ∷ l ∷ m ∷ n ∷ o ∷ p ∷ q ∷ r ∷ s ∷ t ∷ u ∷ v ∷ w ∷ x ∷ y ∷ z ∷ aa ∷ bb ∷ rest) long = refl
front_cells other long = absurd (omega arith)

tag_cells : (bytes : List ℕ) → PROGRAM_HEAD_LEN ≤ length bytes → IsTagged bytes
    → codes "CBPR" ≡ get_or bytes 4 0 ∷ get_or bytes 5 0 ∷ get_or bytes 6 0 ∷ get_or bytes 7 0 ∷ []
tag_cells bytes long tagged = sym tagged ∙ ap (λ l. take 4 (drop 4 l)) (front_cells bytes long)

-- the 12 bytes of a head
head_again : (bytes : List ℕ) (kind : ℕ) → AreBytes bytes → PROGRAM_HEAD_LEN ≤ length bytes → IsTagged bytes → kind_in bytes ≡ kind → (rest : List ℕ)
    → to_le_bytes w32 (u32_at bytes 0) ++ codes "CBPR" ++ to_le_bytes w16 kind ++ to_le_bytes w16 (record_channel_in bytes) ++ rest
    ≡ take RECORD_HEAD_LEN (front bytes) ++ rest
head_again bytes kind fit long tagged kind_is rest =
    let at = λ (i : ℕ). get_or bytes i 0 in
    let word = four_bytes (at 0) (at 1) (at 2) (at 3) (fit 0) (fit 1) (fit 2) (fit 3) in
    let tag = tag_cells bytes long tagged in
    let kinds : to_le_bytes w16 kind ≡ at 8 ∷ at 9 ∷ [] = ap (to_le_bytes w16) (sym kind_is) ∙ two_bytes (at 8) (at 9) (fit 8) (fit 9) in
    let channel = two_bytes (at 10) (at 11) (fit 10) (fit 11) in
    ap (λ l. l ++ codes "CBPR" ++ to_le_bytes w16 kind ++ to_le_bytes w16 (record_channel_in bytes) ++ rest) word
    ∙ ap (λ l. (at 0 ∷ at 1 ∷ at 2 ∷ at 3 ∷ []) ++ l ++ to_le_bytes w16 kind ++ to_le_bytes w16 (record_channel_in bytes) ++ rest) tag
    ∙ ap (λ l. (at 0 ∷ at 1 ∷ at 2 ∷ at 3 ∷ at 4 ∷ at 5 ∷ at 6 ∷ at 7 ∷ []) ++ l ++ to_le_bytes w16 (record_channel_in bytes) ++ rest) kinds
    ∙ ap (λ l. (at 0 ∷ at 1 ∷ at 2 ∷ at 3 ∷ at 4 ∷ at 5 ∷ at 6 ∷ at 7 ∷ at 8 ∷ at 9 ∷ []) ++ l ++ rest) channel

pub SpellsRecord-program : (bytes : List ℕ) → AreBytes bytes → IsTagged bytes → kind_in bytes ≡ PROGRAM_RECORD → record_channel_in bytes ≢ 0
    → length bytes ≡ PROGRAM_HEAD_LEN + INSN_LEN * insn_count_in bytes → SpellsRecord (program_at bytes) bytes
SpellsRecord-program bytes fit tagged kind named len =
    let at = λ (i : ℕ). get_or bytes i 0 in
    let rest = drop PROGRAM_HEAD_LEN bytes in
    let count = insn_count_in bytes in
    let insns = stored_insns count rest in
    let long : PROGRAM_HEAD_LEN ≤ length bytes = omega (arith, len) in
    let many : length insns ≡ count = length-stored_insns count rest in
    let is : IsProgramRecord (record_channel_in bytes) (u32_at bytes 12) (u64_at bytes 16) insns = record {
      named = omega (arith, named);
      channel_fits = omega (arith, fit 10, fit 11);
      version_fits = omega (arith, fit 12, fit 13, fit 14, fit 15);
      first_fits = u64_fits bytes 16 fit;
      few = omega (arith, many, fit 24, fit 25);
      insns_fit = are_in_range (stored_insns count rest) (InRange-stored_insns count rest (AreBytes-drop PROGRAM_HEAD_LEN bytes fit));
    } in
    let version = four_bytes (at 12) (at 13) (at 14) (at 15) (fit 12) (fit 13) (fit 14) (fit 15) in
    let first = eight_bytes bytes 16 fit in
    let counted : to_le_bytes w16 (length insns) ≡ at 24 ∷ at 25 ∷ [] = ap (to_le_bytes w16) many ∙ two_bytes (at 24) (at 25) (fit 24) (fit 25) in
    let unused = two_bytes (at 26) (at 27) (fit 26) (fit 27) in
    let stored = flat_map-stored_insns count rest (AreBytes-drop PROGRAM_HEAD_LEN bytes fit) (omega (arith, len, length-drop PROGRAM_HEAD_LEN bytes)) in
    let head = take RECORD_HEAD_LEN (front bytes) in
    let spelled : program_spelling (u32_at bytes 0) (u16_at bytes 26) (record_channel_in bytes) (u32_at bytes 12) (u64_at bytes 16) insns
    ≡ front bytes ++ rest =
    head_again bytes PROGRAM_RECORD fit long tagged kind (to_le_bytes w32 (u32_at bytes 12) ++ to_le_bytes w64 (u64_at bytes 16)
    ++ to_le_bytes w16 (length insns) ++ to_le_bytes w16 (u16_at bytes 26) ++ flat_map insn_bytes insns)
    ∙ ap (λ l. head ++ (l ++ to_le_bytes w64 (u64_at bytes 16) ++ to_le_bytes w16 (length insns) ++ to_le_bytes w16 (u16_at bytes 26)
    ++ flat_map insn_bytes insns)) version
    ∙ ap (λ l. (head ++ (at 12 ∷ at 13 ∷ at 14 ∷ at 15 ∷ [])) ++ (l ++ to_le_bytes w16 (length insns) ++ to_le_bytes w16 (u16_at bytes 26)
    ++ flat_map insn_bytes insns)) first
    ∙ ap (λ l. take 24 (front bytes) ++ (l ++ to_le_bytes w16 (u16_at bytes 26) ++ flat_map insn_bytes insns)) counted
    ∙ ap (λ l. take 26 (front bytes) ++ (l ++ flat_map insn_bytes insns)) unused
    ∙ ap (λ l. front bytes ++ l) stored in
    (is, u32_at bytes 0, u16_at bytes 26, front_cells bytes long ∙ sym spelled)

pub SpellsRecord-end : (bytes : List ℕ) → AreBytes bytes → IsTagged bytes → kind_in bytes ≡ END_RECORD → record_channel_in bytes ≢ 0
    → length bytes ≡ END_RECORD_LEN → SpellsRecord (end_at bytes) bytes
SpellsRecord-end bytes fit tagged kind named len =
    let rest = drop PROGRAM_HEAD_LEN bytes in
    let long : PROGRAM_HEAD_LEN ≤ length bytes = omega (arith, len) in
    let none : rest ≡ [] = drop_all PROGRAM_HEAD_LEN bytes (omega (arith, len)) in
    let is : IsEndRecord (end_in bytes) = record {
      named = omega (arith, named);
      channel_fits = omega (arith, fit 10, fit 11);
      offered_fits = u64_fits bytes 12 fit;
      kept_fits = u64_fits bytes 20 fit;
    } in
    let spelled : end_spelling (u32_at bytes 0) (end_in bytes) ≡ front bytes =
    head_again bytes END_RECORD fit long tagged kind (to_le_bytes w64 (u64_at bytes 12) ++ to_le_bytes w64 (u64_at bytes 20))
    ∙ ap (λ l. take 12 (front bytes) ++ (l ++ to_le_bytes w64 (u64_at bytes 20))) (eight_bytes bytes 12 fit)
    ∙ ap (λ l. take 20 (front bytes) ++ l) (eight_bytes bytes 20 fit) in
    (is, u32_at bytes 0, front_cells bytes long ∙ ap (λ l. front bytes ++ l) none ∙ append-nil (front bytes) ∙ sym spelled)

-- ---- the record that was made

pub made_program : (bytes : List ℕ) (channel kind c v f n : ℕ) (stored : List ℕ) → AreBytes bytes → HasRecordFields kind channel bytes → kind ≡ PROGRAM_RECORD
    → length bytes ≡ PROGRAM_HEAD_LEN + INSN_LEN * insn_count_in bytes
    → c ≡ channel → v ≡ u32_at bytes 12 → f ≡ u64_at bytes 16 → n ≡ insn_count_in bytes → stored ≡ drop PROGRAM_HEAD_LEN bytes
    → SpellsRecord (OfProgram c v f (stored_insns n stored)) bytes
made_program bytes channel kind c v f n stored fit fields is_program len ec ev ef en es =
    let same : program_at bytes ≡ OfProgram c v f (stored_insns n stored) =
    sym (same_program _ _ _ _ _ _ _ _ (ec ∙ fields.channel_is) ev ef (ap (λ m. stored_insns m stored) en ∙ ap (stored_insns (insn_count_in bytes)) es)) in
    subst (λ said. SpellsRecord said bytes) same
    (SpellsRecord-program bytes fit fields.head.tagged (sym fields.kind_is ∙ is_program) (λ none. fields.named (fields.channel_is ∙ none)) len)

end_kind : {at : ℕ} (kind : ℕ) → IsKind kind → (kind ≡ PROGRAM_RECORD → ⊥) → kind ≡ at → at ≡ END_RECORD
end_kind kind (inl program) not_program e = absurd (not_program program)
end_kind kind (inr ending) not_program e = sym e ∙ ending

pub made_end : (bytes : List ℕ) (channel kind : ℕ) (made : Option Record) → AreBytes bytes → HasRecordFields kind channel bytes → (kind ≡ PROGRAM_RECORD → ⊥)
    → (IsSome made → length bytes ≡ END_RECORD_LEN)
    → IfSome made (λ found. found ≡ End channel (u64_at bytes 12) (u64_at bytes 20))
    → IfSome made (λ found. SpellsRecord (record_data found) bytes)
made_end bytes channel kind None fit fields not_program len found = tt
made_end bytes channel kind (Some r) fit fields not_program len found =
    let is_end : kind_in bytes ≡ END_RECORD = end_kind kind fields.known not_program fields.kind_is in
    let spells = SpellsRecord-end bytes fit fields.head.tagged is_end (λ none. fields.named (fields.channel_is ∙ none)) (len refl) in
    let same : end_at bytes ≡ record_data r = ap (λ c. OfEnd (record { channel = c; offered = u64_at bytes 12; kept = u64_at bytes 20 }))
    (sym fields.channel_is) ∙ ap record_data (sym found) in
    subst (λ said. SpellsRecord said bytes) same spells

-- ---- what is answered

pub no_record_fault_answered : (A : Type 0) (answer : A) (said : RecordData) (bytes : List ℕ) → SpellsRecord said bytes → (other : RecordFault)
    → (◌≡◌ {A = Result A RecordFault} (Ok answer) (Err other) → HasRecordFault bytes other)
    × (HasRecordFault bytes other → ◌≡◌ {A = Result A RecordFault} (Ok answer) (Err other))
no_record_fault_answered A answer said bytes spells other = (λ e. absurd cc, λ h. absurd (no_record_fault said bytes other spells h))
