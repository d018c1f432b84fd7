-- What a packet holds once its counters and its channel ID are those of a file.
use Rattle.std.proofs.Common.{ℕ, ◌≡◌, ◌+◌, ◌*◌, ◌^◌, ◌<◌, ◌≤◌, List, [], ◌∷◌, ◌++◌, length, map, take, drop}
use Rattle.std.proofs.Common.{true, false, true≢false, Option, None, Some}
use Rattle.std.proofs.Common.{refl, sym, ◌∙◌, ap, subst, arith, length-append}
use Rattle.std.specs.Prelude.{◌==◌, if◌then◌else◌, Bool, Result, Ok, Err, IfErr}
use Rattle.std.specs.Int.{w32, to_le_bytes}
use Rattle.std.specs.List.{AllByRecursion}
use Rattle.std.proofs.Props.{props}
use Rattle.std.proofs.Math.Logic.{∥∥₁_elim}
use Rattle.std.proofs.lemmas.Bool.{eq-eqb, ne_eqb}
use Rattle.std.proofs.lemmas.Nat.{from_le_bytes-to_le_bytes_2, from_le_bytes-to_le_bytes_4, from_le_bytes-to_le_bytes_8}
use Rattle.bpf_insn.specs.declared.insn.Insn.{Insn}
use Rattle.eth_frame.specs.Bytes.{u32_at, u64_at}
use Rattle.std.proofs.lemmas.List.{length-map, length-take, length-drop, take_at}
use Rattle.ch11_packet.specs.declared.header.TheConstants.{HEADER_LEN, ETHERNET_DATA, COMPUTER_GENERATED_DATA}
use Rattle.ch11_packet.specs.declared.class.What.{What}
use Rattle.ch11_packet.specs.declared.class.What.TheVariants.{Frames, Program, End, Other}
use Rattle.ch11_packet.specs.Header.{HeaderData, IsHeader}
use Rattle.ch11_packet.specs.Flags.{HasChecksum, IsPlain}
use Rattle.ch11_packet.specs.Classes.{HasClass, Holds, SaysRecord, data_in, said_frames}
use Rattle.ch11_packet.specs.FramesRead.{ReadFrameData, IsBodyOf, SpellsBody, count_in}
use Rattle.ch11_packet.specs.Records.{EndData, program_spelling, end_spelling}
use Rattle.ch11_packet.specs.RecordsRead.{kind_in, record_channel_in}
use Rattle.ch11_packet.proofs.Classing.{said_by_body}
use Rattle.ch11_packet.proofs.ReadBodies.{IsBody-SpellsBody}
use Rattle.rec_reader.specs.ChannelFrames.{frames_held}
use Rattle.rec_pieces.specs.declared.entry.PieceKind.{PieceKind}
use Rattle.rec_pieces.specs.declared.entry.PieceKind.TheVariants.{Frames as IsFrames, Record, Uncounted}
use Rattle.rec_pieces.specs.Entries.{named_by, packet_names}
use Rattle.rec_pieces.specs.Listings.{counters_in, frame_counter}
use Rattle.rec_reader.specs.Packets.{PacketData, packet_of}
use Rattle.rec_joined.specs.declared.fault.MoveFault.{MoveFault}
use Rattle.rec_joined.specs.declared.fault.MoveFault.TheVariants.{Gap, Sum, Other as IsOther, Memory}
use Rattle.rec_joined.specs.Moving.{Moving}
use Rattle.rec_joined.specs.MovedFrames.{HaveCounters, moved_bytes, moved_frame}
use Rattle.rec_joined.specs.MovedRecords.{FitRecords, RecordMoving, end_numbers, program_numbers, raised_numbers}
use Rattle.rec_joined.specs.MovedPackets.{HasCounters, HaveMovable, IsNamedAs, IsNotMoved}
use Rattle.rec_joined.specs.MovedPackets.{moved_body, moved_data, moved_header, moved_record, moved_what, record_with}
use Rattle.rec_joined.proofs.MovedFrames.{moved_begin, moved_len}

-- ---- headers

plain : IsPlain 0
plain = record { no_secondary_header = refl; no_secondary_times = refl; whole_checksum = refl }

pub not_checked : HasChecksum 0 → ⊥
not_checked checked = true≢false (sym checked.high)

pub named_first : (channel : ℕ) (kind : PieceKind) (named : ℕ × PieceKind) → Some (channel, kind) ≡ Some named → channel ≡ named.0
named_first channel kind named is = ap first is
  where
    first : Option (ℕ × PieceKind) → ℕ
    first None = 0
    first (Some one) = one.0

-- ---- frames

pub counters_fit : (counters : ℕ → ℕ) (frames : List ReadFrameData) → AllByRecursion (λ counter. counters counter < 2 ^ 48) (map frame_counter frames)
    → HaveCounters counters frames
counters_fit counters [] fit = tt
counters_fit counters (f ∷ fs) fit = (fit.0, counters_fit counters fs fit.1)

pub counters_are : (counters : ℕ → ℕ) (frames : List ReadFrameData) → HaveCounters counters frames
    → AllByRecursion (λ counter. counters counter < 2 ^ 48) (map frame_counter frames)
counters_are counters [] fit = tt
counters_are counters (f ∷ fs) fit = (fit.0, counters_are counters fs fit.1)

body_parts : (moving : Moving) (frames : List ReadFrameData) (bytes : List ℕ) (body : SpellsBody frames bytes)
    → moved_body moving bytes ≡ to_le_bytes w32 (length frames + body.spare * 2 ^ 16) ++ moved_bytes moving.counters (length frames) body.rest
body_parts moving frames bytes body =
    let is = IsBody-SpellsBody frames bytes body in
    ap (λ n. take 4 bytes ++ moved_bytes moving.counters n (drop 4 bytes)) (sym is.all)
    ∙ ap (λ l. take 4 l ++ moved_bytes moving.counters (length frames) (drop 4 l)) body.whole

pub count_held : (count : ℕ) (bytes : List ℕ) → ∥ IsBodyOf count bytes ∥₁ → count ≡ count_in bytes
count_held count bytes is = ∥∥₁_elim is (hlevel props) (λ is. sym is.2 ∙ (IsBody-SpellsBody is.0 bytes is.1).all)

pub body_moved : (moving : Moving) (frames : List ReadFrameData) (bytes : List ℕ) → SpellsBody frames bytes → HaveCounters moving.counters frames
    → SpellsBody (map (moved_frame moving.counters) frames) (moved_body moving bytes)
body_moved moving frames bytes body fit =
    let same = length-map frames (moved_frame moving.counters) in
    record {
      few = subst (λ n. n < 2 ^ 16) (sym same) body.few;
      spare = body.spare;
      spare_fits = body.spare_fits;
      rest = moved_bytes moving.counters (length frames) body.rest;
      whole = body_parts moving frames bytes body
          ∙ ap (λ n. to_le_bytes w32 (n + body.spare * 2 ^ 16) ++ moved_bytes moving.counters (length frames) body.rest) (sym same);
      held = moved_begin moving.counters frames body.rest [] body.held fit;
    }

pub is_data : (moving : Moving) (kind : ℕ) (bytes : List ℕ) → kind ≡ ETHERNET_DATA → moved_data moving kind bytes ≡ moved_body moving bytes
is_data moving kind bytes is = ap (λ k. if k == ETHERNET_DATA then moved_body moving bytes else moved_record moving bytes) is

is_record : (moving : Moving) (kind : ℕ) (bytes : List ℕ) → kind ≡ COMPUTER_GENERATED_DATA → moved_data moving kind bytes ≡ moved_record moving bytes
is_record moving kind bytes is = ap (λ k. if k == ETHERNET_DATA then moved_body moving bytes else moved_record moving bytes) is

pub frames_moved : (moving : Moving) (header : HeaderData) (bytes : List ℕ) (count : ℕ) → HasClass header bytes (Frames count)
    → HaveCounters moving.counters (said_frames bytes)
    → HasClass (moved_header moving header) (moved_data moving header.kind bytes) (Frames count)
frames_moved moving header bytes count has fit =
    let frames = has.1 in (
      (plain, has.0.1),
      map (moved_frame moving.counters) frames,
      subst (SpellsBody (map (moved_frame moving.counters) frames)) (sym (is_data moving header.kind bytes has.0.1))
          (body_moved moving frames bytes has.2 (subst (HaveCounters moving.counters) (said_by_body frames bytes has.2) fit)),
      length-map frames (moved_frame moving.counters) ∙ has.3,
    )

-- ---- records

says_record : (moving : Moving) (header : HeaderData) → SaysRecord header → SaysRecord (moved_header moving header)
says_record moving header says =
    (plain, says.1, ap (λ k. if k == ETHERNET_DATA then moving.ids header.channel else header.channel) says.1 ∙ says.2)

program_channel : (word unused channel version first : ℕ) (insns : List _) → channel < 2 ^ 16
    → record_channel_in (program_spelling word unused channel version first insns) ≡ channel
program_channel word unused channel version first insns fits = from_le_bytes-to_le_bytes_2 channel fits

-- what becomes of the numbers of a record
raised_program : (records : RecordMoving) (word unused channel version first : ℕ) (insns : List Insn) → version < 2 ^ 32 → first < 2 ^ 64
    → raised_numbers records (program_spelling word unused channel version first insns)
    ≡ program_numbers (records.versions + version) (records.offered + first) (program_spelling word unused channel version first insns)
raised_program records word unused channel version first insns small fits =
    let bytes = program_spelling word unused channel version first insns in
    let kind : kind_in bytes ≡ 1 = from_le_bytes-to_le_bytes_2 1 (omega arith) in
    ap (λ b. if b then program_numbers (records.versions + u32_at bytes 12) (records.offered + u64_at bytes 16) bytes
    else end_numbers (records.offered + u64_at bytes 12) (records.kept + u64_at bytes 20) bytes) (eq-eqb (kind_in bytes) 1 kind)
    ∙ ap (λ n. program_numbers (records.versions + n) (records.offered + u64_at bytes 16) bytes) (from_le_bytes-to_le_bytes_4 version small)
    ∙ ap (λ n. program_numbers (records.versions + version) (records.offered + n) bytes) (from_le_bytes-to_le_bytes_8 first fits)

raised_end : (records : RecordMoving) (word : ℕ) (end : EndData) → end.offered < 2 ^ 64 → end.kept < 2 ^ 64
    → raised_numbers records (end_spelling word end) ≡ end_numbers (records.offered + end.offered) (records.kept + end.kept) (end_spelling word end)
raised_end records word end small fits =
    let bytes = end_spelling word end in
    let kind : kind_in bytes ≡ 2 = from_le_bytes-to_le_bytes_2 2 (omega arith) in
    ap (λ b. if b then program_numbers (records.versions + u32_at bytes 12) (records.offered + u64_at bytes 16) bytes
    else end_numbers (records.offered + u64_at bytes 12) (records.kept + u64_at bytes 20) bytes)
    (ne_eqb (kind_in bytes) 1 (λ is. omega (arith, kind, is)))
    ∙ ap (λ n. end_numbers (records.offered + n) (records.kept + u64_at bytes 20) bytes) (from_le_bytes-to_le_bytes_8 end.offered small)
    ∙ ap (λ n. end_numbers (records.offered + end.offered) (records.kept + n) bytes) (from_le_bytes-to_le_bytes_8 end.kept fits)

-- the data of a program's record are long enough, and this is made of them
pub record IsMadeProgram (moving : Moving) (kind : ℕ) (bytes : List ℕ) (channel version first : ℕ) : Type 0 where
  pub long : 24 ≤ length bytes
  pub made : moved_data moving kind bytes ≡ record_with (moving.ids channel)
      (program_numbers ((moving.records channel).versions + version) ((moving.records channel).offered + first) bytes) bytes
  pub as_long : length (moved_data moving kind bytes) ≡ length bytes

pub program_made : (moving : Moving) (header : HeaderData) (bytes : List ℕ) (channel version first count : ℕ)
    → HasClass header bytes (Program channel version first count) → IsMadeProgram moving header.kind bytes channel version first
program_made moving header bytes channel version first count has =
    let insns = has.1 in
    let is = has.2.0 in
    let word = has.2.1 in
    let unused = has.2.2 in
    let whole = has.2.3 in
    let spelled = program_spelling word unused channel version first insns in
    let records = moving.records channel in
    let numbers = program_numbers (records.versions + version) (records.offered + first) in
    let made : moved_data moving header.kind bytes ≡ record_with (moving.ids channel) (numbers bytes) bytes =
    is_record moving header.kind bytes has.0.1 ∙ ap (moved_record moving) whole
    ∙ ap (λ c. record_with (moving.ids c) (raised_numbers (moving.records c) spelled) spelled)
    (program_channel word unused channel version first insns is.channel_fits)
    ∙ ap (λ l. record_with (moving.ids channel) l spelled) (raised_program records word unused channel version first insns is.version_fits is.first_fits)
    ∙ ap (λ l. record_with (moving.ids channel) (numbers l) l) (sym whole) in
    record {
      long = subst (λ l. 24 ≤ length l) (sym whole) (omega arith);
      made = made;
      as_long = ap length made ∙ ap (λ l. length (record_with (moving.ids channel) (numbers l) l)) whole ∙ sym (ap length whole);
    }

pub record IsMadeEnd (moving : Moving) (kind : ℕ) (bytes : List ℕ) (channel offered kept : ℕ) : Type 0 where
  pub long : 28 ≤ length bytes
  pub made : moved_data moving kind bytes ≡ record_with (moving.ids channel)
      (end_numbers ((moving.records channel).offered + offered) ((moving.records channel).kept + kept) bytes) bytes
  pub as_long : length (moved_data moving kind bytes) ≡ length bytes

pub end_made : (moving : Moving) (header : HeaderData) (bytes : List ℕ) (channel offered kept : ℕ)
    → HasClass header bytes (End channel offered kept) → IsMadeEnd moving header.kind bytes channel offered kept
end_made moving header bytes channel offered kept has =
    let is = has.1.0 in
    let word = has.1.1 in
    let whole = has.1.2 in
    let end : EndData = record { channel = channel; offered = offered; kept = kept } in
    let spelled = end_spelling word end in
    let records = moving.records channel in
    let numbers = end_numbers (records.offered + offered) (records.kept + kept) in
    let made : moved_data moving header.kind bytes ≡ record_with (moving.ids channel) (numbers bytes) bytes =
    is_record moving header.kind bytes has.0.1 ∙ ap (moved_record moving) whole
    ∙ ap (λ c. record_with (moving.ids c) (raised_numbers (moving.records c) spelled) spelled) (from_le_bytes-to_le_bytes_2 channel is.channel_fits)
    ∙ ap (λ l. record_with (moving.ids channel) l spelled) (raised_end records word end is.offered_fits is.kept_fits)
    ∙ ap (λ l. record_with (moving.ids channel) (numbers l) l) (sym whole) in
    record {
      long = subst (λ l. 28 ≤ length l) (sym whole) (omega arith);
      made = made;
      as_long = ap length made ∙ ap (λ l. length (record_with (moving.ids channel) (numbers l) l)) whole ∙ sym (ap length whole);
    }

pub program_moved : (moving : Moving) (header : HeaderData) (bytes : List ℕ) (channel version first count : ℕ)
    → HasClass header bytes (Program channel version first count) → 0 < moving.ids channel → moving.ids channel < 2 ^ 16
    → FitRecords moving.records (Program channel version first count)
    → HasClass (moved_header moving header) (moved_data moving header.kind bytes) (moved_what moving (Program channel version first count))
program_moved moving header bytes channel version first count has named fits numbers =
    let insns = has.1 in
    let is = has.2.0 in
    let word = has.2.1 in
    let unused = has.2.2 in
    let whole = has.2.3 in
    let records = moving.records channel in (
      says_record moving header has.0,
      insns,
      (
        record {
          named = named;
          channel_fits = fits;
          version_fits = numbers.0;
          first_fits = numbers.1;
          few = is.few;
          insns_fit = is.insns_fit;
        },
        word,
        unused,
        (program_made moving header bytes channel version first count has).made
            ∙ ap (λ l. record_with (moving.ids channel) (program_numbers (records.versions + version) (records.offered + first) l) l) whole,
      ),
      has.3,
    )

pub end_moved : (moving : Moving) (header : HeaderData) (bytes : List ℕ) (channel offered kept : ℕ)
    → HasClass header bytes (End channel offered kept) → 0 < moving.ids channel → moving.ids channel < 2 ^ 16
    → FitRecords moving.records (End channel offered kept)
    → HasClass (moved_header moving header) (moved_data moving header.kind bytes) (moved_what moving (End channel offered kept))
end_moved moving header bytes channel offered kept has named fits numbers =
    let word = has.1.1 in
    let whole = has.1.2 in
    let records = moving.records channel in (
      says_record moving header has.0,
      (
        record {
          named = named;
          channel_fits = fits;
          offered_fits = numbers.0;
          kept_fits = numbers.1;
        },
        word,
        (end_made moving header bytes channel offered kept has).made
            ∙ ap (λ l. record_with (moving.ids channel) (end_numbers (records.offered + offered) (records.kept + kept) l) l) whole,
      ),
    )

-- ---- how long data are

four_more : (word : ℕ) (xs : List ℕ) → length (to_le_bytes w32 word ++ xs) ≡ 4 + length xs
four_more word xs = omega arith

frames_len : (moving : Moving) (header : HeaderData) (bytes : List ℕ) (count : ℕ) → HasClass header bytes (Frames count)
    → length (moved_data moving header.kind bytes) ≡ length bytes
frames_len moving header bytes count has =
    let body = has.2 in
    let word = length has.1 + body.spare * 2 ^ 16 in
    ap length (is_data moving header.kind bytes has.0.1 ∙ body_parts moving has.1 bytes body)
    ∙ four_more word (moved_bytes moving.counters (length has.1) body.rest)
    ∙ ap (λ n. 4 + n) (moved_len moving.counters has.1 body.rest [] body.held) ∙ sym (four_more word body.rest) ∙ sym (ap length body.whole)

-- ---- a packet

-- a packet names a channel, and so is neither of another kind nor of channel 0
pub data_len_again : (moving : Moving) (header : HeaderData) (bytes : List ℕ) (what : What) (named : ℕ × PieceKind) → HasClass header bytes what
    → named_by header.channel what ≡ Some named → length (moved_data moving header.kind bytes) ≡ length bytes
data_len_again moving header bytes (Frames count) named has is = frames_len moving header bytes count has
data_len_again moving header bytes (Program channel version first count) named has is =
    (program_made moving header bytes channel version first count has).as_long
data_len_again moving header bytes (End channel offered kept) named has is = (end_made moving header bytes channel offered kept has).as_long
data_len_again moving header bytes Other named has is = absurd (none_some is)
  where
    none_some : ◌≡◌ {A = Option (ℕ × PieceKind)} None (Some named) → ⊥
    none_some is = cc

pub class_again : (moving : Moving) (header : HeaderData) (bytes : List ℕ) (what : What) (named : ℕ × PieceKind) → HasClass header bytes what
    → named_by header.channel what ≡ Some named → 0 < moving.ids named.0 → moving.ids named.0 < 2 ^ 16
    → HaveCounters moving.counters (frames_held what bytes) → FitRecords moving.records what
    → HasClass (moved_header moving header) (moved_data moving header.kind bytes) (moved_what moving what)
class_again moving header bytes (Frames count) named has is from_one fits fit numbers = frames_moved moving header bytes count has fit
class_again moving header bytes (Program channel version first count) named has is from_one fits fit numbers =
    let same : channel ≡ named.0 = named_first channel Record named is in
    program_moved moving header bytes channel version first count has
    (subst (λ c. 0 < moving.ids c) (sym same) from_one) (subst (λ c. moving.ids c < 2 ^ 16) (sym same) fits) numbers
class_again moving header bytes (End channel offered kept) named has is from_one fits fit numbers =
    let same : channel ≡ named.0 = named_first channel (if offered == 0 then Uncounted else Record) named is in
    end_moved moving header bytes channel offered kept has
    (subst (λ c. 0 < moving.ids c) (sym same) from_one) (subst (λ c. moving.ids c < 2 ^ 16) (sym same) fits) numbers
class_again moving header bytes Other named has is from_one fits fit numbers = absurd (none_some is)
  where
    none_some : ◌≡◌ {A = Option (ℕ × PieceKind)} None (Some named) → ⊥
    none_some is = cc

-- what follows the header is as long as before
pub body_len : (moving : Moving) (header : HeaderData) (body : List ℕ) (what : What) (named : ℕ × PieceKind) → header.data_len ≤ length body
    → HasClass header (data_in header body) what → named_by header.channel what ≡ Some named
    → length (moved_data moving header.kind (data_in header body) ++ drop header.data_len body) ≡ length body
body_len moving header body what named within has is =
    omega (
      arith,
      length-append (moved_data moving header.kind (data_in header body)) (drop header.data_len body),
      data_len_again moving header (data_in header body) what named has is,
      length-take header.data_len body,
      length-drop header.data_len body,
    )

-- its data are the moved data
pub data_again : (moving : Moving) (header : HeaderData) (body : List ℕ) (what : What) (named : ℕ × PieceKind) → header.data_len ≤ length body
    → HasClass header (data_in header body) what → named_by header.channel what ≡ Some named
    → data_in (moved_header moving header) (moved_data moving header.kind (data_in header body) ++ drop header.data_len body)
    ≡ moved_data moving header.kind (data_in header body)
data_again moving header body what named within has is =
    take_at (moved_data moving header.kind (data_in header body)) (drop header.data_len body) header.data_len
    (omega (arith, data_len_again moving header (data_in header body) what named has is, length-take header.data_len body))

pub holds_again : (moving : Moving) (header : HeaderData) (body : List ℕ) (what : What) (named : ℕ × PieceKind) → header.data_len ≤ length body
    → Holds header body what → named_by header.channel what ≡ Some named → 0 < moving.ids named.0 → moving.ids named.0 < 2 ^ 16
    → HaveCounters moving.counters (frames_held what (data_in header body)) → FitRecords moving.records what
    → Holds (moved_header moving header) (moved_data moving header.kind (data_in header body) ++ drop header.data_len body) (moved_what moving what)
holds_again moving header body what named within holds is from_one fits fit numbers = record {
  class = subst (λ l. HasClass (moved_header moving header) l (moved_what moving what))
      (sym (data_again moving header body what named within holds.class is))
      (class_again moving header (data_in header body) what named holds.class is from_one fits fit numbers);
  summed = λ _ checked. absurd (not_checked checked);
}

-- ---- counters

abbrev unless : Bool → ℕ × PieceKind → Option (ℕ × PieceKind)
unless is named = if is then None else Some named

some_frames : (is : Bool) (channel : ℕ) (named : ℕ × PieceKind) → unless is (channel, IsFrames) ≡ Some named
    → unless is (channel, IsFrames) ≡ Some (channel, IsFrames)
some_frames true channel named is = absurd (none_some is)
  where
    none_some : ◌≡◌ {A = Option (ℕ × PieceKind)} None (Some named) → ⊥
    none_some is = cc
some_frames false channel named is = refl

-- the counters of a packet of frames are those of its frames
frames_counted : (own counter : ℕ) (what : What) (bytes : List ℕ) (count : ℕ) (named : ℕ × PieceKind) → what ≡ Frames count
    → named_by own what ≡ Some named → counters_in (named_by own what) counter bytes ≡ map frame_counter (said_frames bytes)
frames_counted own counter what bytes count named is names =
    ap (λ n. counters_in n counter bytes)
    (ap (named_by own) is ∙ some_frames (own == 0) own named (sym (ap (named_by own) is) ∙ names))

pub frames_gap : (moving : Moving) (packet : PacketData) (count : ℕ) (named : ℕ × PieceKind) → packet.what ≡ Frames count
    → packet_names packet ≡ Some named → HasCounters moving packet → HaveCounters moving.counters (said_frames (data_in packet.header packet.body))
frames_gap moving packet count named is names fit =
    let bytes = data_in packet.header packet.body in
    counters_fit moving.counters (said_frames bytes)
    (subst (AllByRecursion (λ counter. moving.counters counter < 2 ^ 48))
    (frames_counted packet.header.channel packet.header.counter packet.what bytes count named is names) fit)

abbrev kind_of : Option (ℕ × PieceKind) → PieceKind
kind_of None = IsFrames
kind_of (Some named) = named.1

end_fits : (is : Bool) (counters : ℕ → ℕ) (channel counter : ℕ) (named : ℕ × PieceKind) (bytes : List ℕ)
    → Some (channel, if is then Uncounted else Record) ≡ Some named → (named.1 ≡ Record → counters counter < 2 ^ 48)
    → AllByRecursion (λ counter. counters counter < 2 ^ 48) (counters_in (Some (channel, if is then Uncounted else Record)) counter bytes)
end_fits true counters channel counter named bytes is fit = tt
end_fits false counters channel counter named bytes is fit = (fit (sym (ap kind_of is)), tt)

all_fit : (counters : ℕ → ℕ) (own counter : ℕ) (what : What) (bytes : List ℕ) (named : ℕ × PieceKind) → named_by own what ≡ Some named
    → (named.1 ≡ Record → counters counter < 2 ^ 48) → HaveCounters counters (frames_held what bytes)
    → AllByRecursion (λ counter. counters counter < 2 ^ 48) (counters_in (named_by own what) counter bytes)
all_fit counters own counter (Frames count) bytes named names fit frames =
    subst (AllByRecursion (λ counter. counters counter < 2 ^ 48)) (sym (frames_counted own counter (Frames count) bytes count named refl names))
    (counters_are counters (said_frames bytes) frames)
all_fit counters own counter (Program channel version first count) bytes named names fit frames = (fit (sym (ap kind_of names)), tt)
all_fit counters own counter (End channel offered kept) bytes named names fit frames =
    end_fits (offered == 0) counters channel counter named bytes names fit
all_fit counters own counter Other bytes named names fit frames = tt

pub has_counters : (moving : Moving) (packet : PacketData) (named : ℕ × PieceKind) → packet_names packet ≡ Some named
    → (named.1 ≡ Record → moving.counters packet.header.counter < 2 ^ 48) → HaveMovable moving packet → HasCounters moving packet
has_counters moving packet named names fit frames =
    all_fit moving.counters packet.header.channel packet.header.counter packet.what (data_in packet.header packet.body) named names fit frames

-- ---- faults

pub not_moved : (moving : Moving) (packet : PacketData) (result : Result (Unit {0}) MoveFault) → (result ≡ Err Gap → HasCounters moving packet → ⊥)
    → (result ≡ Err IsOther → ⊥) → (result ≡ Err Sum → ⊥) → IfErr result (IsNotMoved moving packet)
not_moved moving packet (Ok value) gap other sum = tt
not_moved moving packet (Err Gap) gap other sum = gap refl
not_moved moving packet (Err Sum) gap other sum = absurd (sum refl)
not_moved moving packet (Err IsOther) gap other sum = absurd (other refl)
not_moved moving packet (Err Memory) gap other sum = tt

-- ---- the packet that is made

-- frames are of the channel of their header
pub frames_own : (header : HeaderData) (bytes : List ℕ) (what : What) (named : ℕ × PieceKind) → HasClass header bytes what
    → named_by header.channel what ≡ Some named → header.kind ≡ ETHERNET_DATA → named.0 ≡ header.channel
frames_own header bytes (Frames count) named has names kind =
    sym (named_first header.channel IsFrames named (sym (some_frames (header.channel == 0) header.channel named names) ∙ names))
frames_own header bytes (Program channel version first count) named has names kind = absurd (omega (arith, kind, has.0.1))
frames_own header bytes (End channel offered kept) named has names kind = absurd (omega (arith, kind, has.0.1))
frames_own header bytes Other named has names kind = absurd (none_some names)
  where
    none_some : ◌≡◌ {A = Option (ℕ × PieceKind)} None (Some named) → ⊥
    none_some is = cc

pub record IsMade (moving : Moving) (packet : PacketData) (header : HeaderData) (body : List ℕ) : Type 0 where
  pub header_is : header ≡ moved_header moving packet.header
  pub long : HEADER_LEN + length body ≡ header.packet_len
  pub held_is : data_in header body ≡ moved_data moving packet.header.kind (data_in packet.header packet.body)
  pub holds : Holds header body (moved_what moving packet.what)

pub made : (moving : Moving) (packet : PacketData) (id : ℕ) (header : HeaderData) (body : List ℕ) → IsNamedAs moving packet id
    → IsHeader packet.header → HEADER_LEN + length packet.body ≡ packet.header.packet_len → HaveMovable moving packet
    → FitRecords moving.records packet.what
    → ((packet.header.kind ≡ ETHERNET_DATA → id ≡ moving.ids packet.header.channel) → header ≡ moved_header moving packet.header)
    → body ≡ moved_data moving packet.header.kind (data_in packet.header packet.body) ++ drop packet.header.data_len packet.body
    → Holds packet.header packet.body packet.what → IsMade moving packet header body
made moving packet id header body names is long fit numbers header_is body_is holds =
    let named : ℕ × PieceKind = (names.channel, names.kind) in
    let fits = is.lengths.holds in
    let within : packet.header.data_len ≤ length packet.body = omega (arith, long, fits) in
    let made : header ≡ moved_header moving packet.header =
    header_is (λ kind. names.given
    ∙ ap moving.ids (frames_own packet.header (data_in packet.header packet.body) packet.what named holds.class names.named kind)) in
    record {
      header_is = made;
      long = ap (λ l. HEADER_LEN + length l) body_is
          ∙ ap (λ n. HEADER_LEN + n) (body_len moving packet.header packet.body packet.what named within holds.class names.named)
          ∙ long ∙ sym (ap (λ (h : HeaderData). h.packet_len) made);
      held_is = ap (λ (h : HeaderData). data_in h body) made ∙ ap (data_in (moved_header moving packet.header)) body_is
          ∙ data_again moving packet.header packet.body packet.what named within holds.class names.named;
      holds = subst (λ h. Holds h body (moved_what moving packet.what)) (sym made)
          (subst (λ l. Holds (moved_header moving packet.header) l (moved_what moving packet.what)) (sym body_is)
          (holds_again moving packet.header packet.body packet.what named within holds names.named
          (subst (λ n. 0 < n) names.given names.from_one) (subst (λ n. n < 2 ^ 16) names.given names.fits) fit numbers));
    }

pub same_packet : (at : ℕ) (header other : HeaderData) (body held : List ℕ) (what said : What) → header ≡ other → body ≡ held → what ≡ said
    → packet_of at header body what ≡ packet_of at other held said
same_packet at header other body held what said h b w = cc

pub ok_or_fault : {A E : Type 0} (result : Result A E) (value : A) (fault : E) → result ≡ Ok value → result ≡ Err fault → ⊥
ok_or_fault result value fault ok err = apart (sym ok ∙ err)
  where
    apart : Ok value ≡ Err fault → ⊥
    apart is = cc
