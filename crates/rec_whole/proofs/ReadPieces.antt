-- The pieces of packets that are read, and their parts: frames that are short, and records.
use Rattle.std.proofs.Common.{ℕ, ◌+◌, ◌≡◌, ◌≢◌, ◌≤◌, ◌<◌, ◌⊎◌, inl, inr, List, [], ◌∷◌, ◌++◌, map, Option, None, Some, refl, sym, subst, ap, ◌∙◌, arith}
use Rattle.std.specs.Prelude.{Bool, true, false, ◌==◌, nat_lt, nat_le, if◌then◌else◌}
use Rattle.std.specs.List.{AllByRecursion, AllZip}
use Rattle.std.proofs.lemmas.Bool.{cases_Bool, eqb-true, eqb-false, true≢false}
use Rattle.std.proofs.lemmas.Bool.Decides.{nat_tests}
use Rattle.ch11_packet.specs.declared.class.What.{What}
use Rattle.ch11_packet.specs.declared.class.What.TheVariants.{Frames as HoldsFrames, Program, End, Other}
use Rattle.ch11_packet.specs.Header.{HeaderData}
use Rattle.ch11_packet.specs.Classes.{HasClass, data_in, said_frames}
use Rattle.ch11_packet.specs.FramesRead.{ReadFrameData, IsReadFrame, BeginsFrames}
use Rattle.ch11_packet.specs.RecordsRead.{RecordData, SpellsRecord}
use Rattle.ch11_packet.specs.RecordsRead.RecordData.{OfProgram, OfEnd}
use Rattle.ch11_packet.proofs.Classing.{said_by_body}
use Rattle.ch11_merge.specs.declared.piece.PieceSoFar.{PieceSoFar}
use Rattle.ch11_merge.specs.declared.piece.TheConstants.{PIECE_TICKS}
use Rattle.ch11_merge.specs.Pieces.{begun, with_frame, goes_on, joined_frames}
use Rattle.ch11_merge.specs.Parts.{cut_behind, frames_pieces, frames_of_piece}
use Rattle.ch11_merge.specs.Short.{NeverFall, LieWithin, FitPacket, IsShortPiece, frames_len}
use Rattle.ch11_merge.specs.Kept.{Held}
use Rattle.ch11_merge.specs.Kept.Held.{HeldFrame, HeldRecord}
use Rattle.ch11_merge.specs.Merging.{FilePiece, head_of_piece, is_due, frames_before, frames_from, piece_of, part_before, part_from}
use Rattle.ch11_merge.specs.Merging.FilePiece.{OfFrames, OfRecord}
use Rattle.ch11_merge.proofs.Cutting.{pieces_cut}
use Rattle.ch11_merge.proofs.ShortPieces.{pieces_short}
use Rattle.rec_reader.specs.Packets.{PacketData, BeginsPackets, packet_of}
use Rattle.rec_reader.specs.Reading.{Reads}
use Rattle.rec_pieces.specs.declared.entry.PieceKind.TheVariants.{Record, Uncounted}
use Rattle.rec_pieces.specs.ToldPackets.{IsListedWhat, IsSpelled}
use Rattle.rec_pieces.specs.Entries.{named_by, pieces_named, pieces_of, pieces_of_channel, pieces_of_packet}
use Rattle.rec_whole.proofs.PiecesOut.{IsOfParts, all_append}

-- ---- what is read

-- frames of a channel from 1 on
pub record AreReadFrames (channel : ℕ) (frames : List ReadFrameData) : Type 0 where
  pub named : channel ≢ 0
  pub each : AllByRecursion IsReadFrame frames
  pub short : IsShortPiece frames

abbrev pub record_channel : RecordData → ℕ
record_channel (OfProgram channel version first insns) = channel
record_channel (OfEnd end) = end.channel

-- the counter of a record in a packet with this counter
abbrev pub record_counter : RecordData → (own : ℕ) → Option ℕ
record_counter (OfProgram channel version first insns) own = Some own
record_counter (OfEnd end) own = if end.offered == 0 then None else Some own

-- a record, with its own counter or, where counters are hidden, with any
pub record IsReadRecord (hides : Bool) (channel : ℕ) (counter : Option ℕ) (body : List ℕ) : Type 0 where
  pub said : RecordData
  pub spells : SpellsRecord said body
  pub named : record_channel said ≡ channel
  pub own : ℕ
  pub counted : hides ≡ false → counter ≡ record_counter said own

abbrev pub IsSeenPiece : (hides : Bool) → (channel : ℕ) → FilePiece → Type 0
IsSeenPiece hides channel (OfFrames place frames) = AreReadFrames channel frames
IsSeenPiece hides channel (OfRecord place counter body) = IsReadRecord hides channel counter body

abbrev pub IsReadPiece : (channel : ℕ) → FilePiece → Type 0
IsReadPiece = IsSeenPiece false

-- what is held, with the counters of records or without them
abbrev pub seen : (hides : Bool) → Held → Held
seen hides (HeldFrame frame) = HeldFrame frame
seen hides (HeldRecord counter body) = HeldRecord (if hides then None else counter) body

-- ---- parts of short frames

within_more : (a b : ℕ) (frames : List ReadFrameData) → a ≤ b → LieWithin a frames → LieWithin b frames
within_more a b [] less within = tt
within_more a b (f ∷ fs) less within = (let first = within.0 in omega (arith, less, first), within_more a b fs less within.1)

short_tail : (f g : ReadFrameData) (gs : List ReadFrameData) → IsShortPiece (f ∷ g ∷ gs) → IsShortPiece (g ∷ gs)
short_tail f g gs short = (
  short.0.1,
  within_more f.counter g.counter gs short.0.0 short.1.1,
  elim short.2 as (λ _. (gs ≡ []) ⊎ FitPacket (g ∷ gs)) [
    | inl none ↦ none_follow none
    | inr fit ↦ inr (omega (arith, fit))
  ],
)
  where
    none_follow : g ∷ gs ≡ [] → (gs ≡ []) ⊎ FitPacket (g ∷ gs)
    none_follow none = cc

len_before : (tick : ℕ) (frames : List ReadFrameData) → frames_len (frames_before tick frames) ≤ frames_len frames
len_before tick [] = omega arith
len_before tick (f ∷ fs) = elim (cases_Bool (nat_lt f.counter tick)) as (λ _. frames_len (frames_before tick (f ∷ fs)) ≤ frames_len (f ∷ fs)) [
  | inl on ↦ rw on (let rest = len_before tick fs in omega (arith, rest))
  | inr off ↦ rw off (omega arith)
]

fall_before : (tick last : ℕ) (frames : List ReadFrameData) → NeverFall last frames → NeverFall last (frames_before tick frames)
fall_before tick last [] fall = tt
fall_before tick last (f ∷ fs) fall = elim (cases_Bool (nat_lt f.counter tick)) as (λ _. NeverFall last (frames_before tick (f ∷ fs))) [
  | inl on ↦ rw on (fall.0, fall_before tick f.counter fs fall.1)
  | inr off ↦ rw off tt
]

all_before : (P : ReadFrameData → Type 0) (tick : ℕ) (frames : List ReadFrameData) → AllByRecursion P frames → AllByRecursion P (frames_before tick frames)
all_before P tick [] all = tt
all_before P tick (f ∷ fs) all = elim (cases_Bool (nat_lt f.counter tick)) as (λ _. AllByRecursion P (frames_before tick (f ∷ fs))) [
  | inl on ↦ rw on (all.0, all_before P tick fs all.1)
  | inr off ↦ rw off tt
]

short_front : (tick : ℕ) (f : ReadFrameData) (fs : List ReadFrameData) → IsShortPiece (f ∷ fs) → IsShortPiece (f ∷ frames_before tick fs)
short_front tick f fs short = (
  fall_before tick f.counter fs short.0,
  all_before (λ (g : ReadFrameData). g.counter < f.counter + PIECE_TICKS) tick fs short.1,
  elim short.2 as (λ _. (frames_before tick fs ≡ []) ⊎ FitPacket (f ∷ frames_before tick fs)) [
    | inl none ↦ inl (ap (frames_before tick) none)
    | inr fit ↦ inr (let less = len_before tick fs in omega (arith, fit, less))
  ],
)

early_first : (tick counter : ℕ) → nat_le tick counter ≡ false → nat_lt counter tick ≡ true
early_first tick counter early = grind (arith, nat_tests)

front_read : (channel tick : ℕ) (f : ReadFrameData) (fs : List ReadFrameData) → nat_lt f.counter tick ≡ true → AreReadFrames channel (f ∷ fs)
    → AreReadFrames channel (frames_before tick (f ∷ fs))
front_read channel tick f fs on read =
    rw on (record {
      named = read.named;
      each = (read.each.0, all_before IsReadFrame tick fs read.each.1);
      short = short_front tick f fs read.short;
    })

tail_read : (channel : ℕ) (f g : ReadFrameData) (gs : List ReadFrameData) → AreReadFrames channel (f ∷ g ∷ gs) → AreReadFrames channel (g ∷ gs)
tail_read channel f g gs read = record { named = read.named; each = read.each.1; short = short_tail f g gs read.short }

rest_read : (hides : Bool) (channel tick place : ℕ) (f : ReadFrameData) (fs : List ReadFrameData) → AreReadFrames channel (f ∷ fs)
    → AllByRecursion (IsSeenPiece hides channel) (piece_of place (frames_from tick (f ∷ fs)))
rest_read hides channel tick place f [] read =
    elim (cases_Bool (nat_lt f.counter tick)) as (λ _. AllByRecursion (IsSeenPiece hides channel) (piece_of place (frames_from tick (f ∷ [])))) [
      | inl on ↦ rw on tt
      | inr off ↦ rw off (read, tt)
    ]
rest_read hides channel tick place f (g ∷ gs) read =
    elim (cases_Bool (nat_lt f.counter tick)) as (λ _. AllByRecursion (IsSeenPiece hides channel) (piece_of place (frames_from tick (f ∷ g ∷ gs)))) [
      | inl on ↦ rw on (rest_read hides channel tick place g gs (tail_read channel f g gs read))
      | inr off ↦ rw off (read, tt)
    ]

part_read : (hides : Bool) (channel tick : ℕ) (piece : FilePiece) → is_due tick (head_of_piece piece) ≡ false → IsSeenPiece hides channel piece
    → IsSeenPiece hides channel (part_before tick piece)
part_read hides channel tick (OfFrames place []) early read = absurd read.short
part_read hides channel tick (OfFrames place (f ∷ fs)) early read = front_read channel tick f fs (early_first tick f.counter early) read
part_read hides channel tick (OfRecord place counter body) early read = read

stays_read : (hides : Bool) (channel tick : ℕ) (piece : FilePiece) → IsSeenPiece hides channel piece
    → AllByRecursion (IsSeenPiece hides channel) (part_from tick piece)
stays_read hides channel tick (OfFrames place []) read = absurd read.short
stays_read hides channel tick (OfFrames place (f ∷ fs)) read = rest_read hides channel tick place f fs read
stays_read hides channel tick (OfRecord place counter body) read = tt

pub parts_seen : (hides : Bool) → IsOfParts (IsSeenPiece hides)
parts_seen hides = record { before = part_read hides; behind = stays_read hides }

pub parts_read : IsOfParts IsReadPiece
parts_read = parts_seen false

-- ---- the pieces of frames

abbrev pub IsOfFrames : FilePiece → Type 0
IsOfFrames (OfFrames place frames) = Unit {0}
IsOfFrames (OfRecord place counter body) = ⊥

frames_behind : (place : ℕ) (piece : PieceSoFar) (frames : List ReadFrameData) → AllByRecursion IsOfFrames (cut_behind place piece frames).1
frames_behind place piece [] = tt
frames_behind place piece (f ∷ fs) = elim (cases_Bool (goes_on piece f)) as (λ _. AllByRecursion IsOfFrames (cut_behind place piece (f ∷ fs)).1) [
  | inl on ↦ rw on (frames_behind place (with_frame piece f) fs)
  | inr off ↦ rw off (tt, frames_behind place (begun f) fs)
]

pub all_of_frames : (place : ℕ) (frames : List ReadFrameData) → AllByRecursion IsOfFrames (frames_pieces place frames)
all_of_frames place [] = tt
all_of_frames place (f ∷ fs) = (tt, frames_behind place (begun f) fs)

pub all_front : {X : Type 0} (P : X → Type 0) (xs ys : List X) → AllByRecursion P (xs ++ ys) → AllByRecursion P xs
all_front P [] ys all = tt
all_front P (x ∷ xs) ys all = (all.0, all_front P xs ys all.1)

pub all_back : {X : Type 0} (P : X → Type 0) (xs ys : List X) → AllByRecursion P (xs ++ ys) → AllByRecursion P ys
all_back P [] ys all = all
all_back P (x ∷ xs) ys all = all_back P xs ys all.1

each_read : (hides : Bool) (channel : ℕ) (pieces : List FilePiece) → channel ≢ 0 → AllByRecursion IsOfFrames pieces
    → AllByRecursion IsShortPiece (map frames_of_piece pieces) → AllByRecursion IsReadFrame (joined_frames (map frames_of_piece pieces))
    → AllByRecursion (IsSeenPiece hides channel) pieces
each_read hides channel [] named of short each = tt
each_read hides channel (OfFrames place fs ∷ ps) named of short each = (
  record { named = named; each = all_front IsReadFrame fs (joined_frames (map frames_of_piece ps)) each; short = short.0 },
  each_read hides channel ps named of.1 short.1 (all_back IsReadFrame fs (joined_frames (map frames_of_piece ps)) each),
)
each_read hides channel (OfRecord place counter body ∷ ps) named of short each = absurd of.0

frames_read : (hides : Bool) (channel place : ℕ) (frames : List ReadFrameData) → channel ≢ 0 → AllByRecursion IsReadFrame frames
    → AllByRecursion (IsSeenPiece hides channel) (frames_pieces place frames)
frames_read hides channel place frames named each =
    let cut = pieces_cut place frames in
    each_read hides channel (frames_pieces place frames) named (all_of_frames place frames)
    (pieces_short frames (map frames_of_piece (frames_pieces place frames)) cut)
    (subst (AllByRecursion IsReadFrame) (sym cut.whole) each)

-- ---- the pieces of packets

spelled_frames : (frames : List ReadFrameData) (bytes rest : List ℕ) → BeginsFrames frames bytes rest → AllByRecursion IsReadFrame frames
spelled_frames [] bytes rest begins = tt
spelled_frames (f ∷ fs) bytes rest begins = (begins.1.spelled.in_range, spelled_frames fs begins.0 rest begins.2)

where_so : (P : FilePiece → Type 0) (is : Bool) (pieces : List FilePiece) → (is ≡ true → AllByRecursion P pieces)
    → AllByRecursion P (if is then pieces else [])
where_so P true pieces all = all refl
where_so P false pieces all = tt

pub end_counted : (is : Bool) (place counter : ℕ) (bytes : List ℕ)
    → pieces_of (if is then Uncounted else Record) place counter bytes ≡ OfRecord place (if is then None else Some counter) bytes ∷ []
end_counted true place counter bytes = refl
end_counted false place counter bytes = refl

-- what a packet is listed as, where counters are hidden: what it tells, or an end of its channel that was offered no frame
abbrev pub IsListedSeen : (hides : Bool) → (told listed : What) → Type 0
IsListedSeen true told listed = IsListedWhat told listed
IsListedSeen false told listed = listed ≡ told

pub record IsUncountedEnd (hides : Bool) (told listed : What) : Type 0 where
  pub hidden : hides ≡ true
  pub channel : ℕ
  pub offered : ℕ
  pub kept : ℕ
  pub other : ℕ
  pub told_is : told ≡ End channel offered kept
  pub listed_is : listed ≡ End channel 0 other

abbrev pub SameOrUncounted : (hides : Bool) → (told listed : What) → Type 0
SameOrUncounted hides told listed = (listed ≡ told) ⊎ IsUncountedEnd hides told listed

pub listed_what : (hides : Bool) (told listed : What) → IsListedSeen hides told listed → SameOrUncounted hides told listed
listed_what false told listed is = inl is
listed_what true (HoldsFrames count) listed is = inl is
listed_what true (Program channel version first count) listed is = inl is
listed_what true (End channel offered kept) listed (inl is) = inl is
listed_what true (End channel offered kept) listed (inr is) = inr (record {
  hidden = refl;
  channel = channel;
  offered = offered;
  kept = kept;
  other = is.0;
  told_is = refl;
  listed_is = is.1;
})
listed_what true Other listed is = inl is

-- a packet is listed so, with its place, its header and its body
abbrev pub IsListedBy : (hides : Bool) → (told listed : PacketData) → Type 0
IsListedBy hides told listed =
    (listed ≡ packet_of told.at told.header told.body listed.what) × IsListedSeen hides told.what listed.what

own_class : (hides : Bool) (header : HeaderData) (bytes : List ℕ) (what : What) (channel place counter : ℕ) → HasClass header bytes what
    → AllByRecursion (IsSeenPiece hides channel) (pieces_named channel (named_by header.channel what) place counter bytes)
own_class hides header bytes (HoldsFrames count) channel place counter has = elim (cases_Bool (header.channel == 0)) as (λ _.
    AllByRecursion (IsSeenPiece hides channel) (pieces_named channel (named_by header.channel (HoldsFrames count)) place counter bytes)) [
      | inl none ↦ rw none tt
      | inr some ↦ rw some (where_so (IsSeenPiece hides channel) (header.channel == channel) (frames_pieces place (said_frames bytes)) (λ same.
          frames_read hides channel place (said_frames bytes)
          (subst (λ n. n ≢ 0) (eqb-true header.channel channel same) (eqb-false header.channel 0 some))
          (subst (AllByRecursion IsReadFrame) (sym (said_by_body has.1 bytes has.2)) (spelled_frames has.1 has.2.rest [] has.2.held))))
    ]
own_class hides header bytes (Program named version first count) channel place counter has =
    where_so (IsSeenPiece hides channel) (named == channel) (OfRecord place (Some counter) bytes ∷ []) (λ same. (
      record {
        said = OfProgram named version first has.1;
        spells = has.2;
        named = eqb-true named channel same;
        own = counter;
        counted = λ _. refl;
      },
      tt,
    ))
own_class hides header bytes (End named offered kept) channel place counter has =
    where_so (IsSeenPiece hides channel) (named == channel) (pieces_of (if offered == 0 then Uncounted else Record) place counter bytes) (λ same.
    subst (AllByRecursion (IsSeenPiece hides channel)) (sym (end_counted (offered == 0) place counter bytes)) (
      record {
        said = OfEnd (record { channel = named; offered = offered; kept = kept });
        spells = has.1;
        named = eqb-true named channel same;
        own = counter;
        counted = λ _. refl;
      },
      tt,
    ))
own_class hides header bytes Other channel place counter has = tt

-- an end that is listed as one that was offered no frame
uncounted_class : (hides : Bool) (header : HeaderData) (bytes : List ℕ) (told listed : What) (channel place counter : ℕ) → HasClass header bytes told
    → IsUncountedEnd hides told listed
    → AllByRecursion (IsSeenPiece hides channel) (pieces_named channel (named_by header.channel listed) place counter bytes)
uncounted_class hides header bytes told listed channel place counter has end =
    subst (λ what. AllByRecursion (IsSeenPiece hides channel) (pieces_named channel (named_by header.channel what) place counter bytes)) (sym end.listed_is)
    (where_so (IsSeenPiece hides channel) (end.channel == channel) (OfRecord place None bytes ∷ []) (λ same. (
      record {
        said = OfEnd (record { channel = end.channel; offered = end.offered; kept = end.kept });
        spells = (subst (HasClass header bytes) end.told_is has).1;
        named = eqb-true end.channel channel same;
        own = counter;
        counted = λ shown. absurd (true≢false (sym end.hidden ∙ shown));
      },
      tt,
    )))

class_read : (hides : Bool) (header : HeaderData) (bytes : List ℕ) (told listed : What) (channel place counter : ℕ) → HasClass header bytes told
    → IsListedSeen hides told listed
    → AllByRecursion (IsSeenPiece hides channel) (pieces_named channel (named_by header.channel listed) place counter bytes)
class_read hides header bytes told listed channel place counter has is = elim (listed_what hides told listed is) as (λ _.
    AllByRecursion (IsSeenPiece hides channel) (pieces_named channel (named_by header.channel listed) place counter bytes)) [
      | inl same ↦ subst (λ what. AllByRecursion (IsSeenPiece hides channel) (pieces_named channel (named_by header.channel what) place counter bytes))
          (sym same) (own_class hides header bytes told channel place counter has)
      | inr end ↦ uncounted_class hides header bytes told listed channel place counter has end
    ]

packet_read : (hides : Bool) (channel : ℕ) (told listed : PacketData) → IsSpelled told → IsListedBy hides told listed
    → AllByRecursion (IsSeenPiece hides channel) (pieces_of_packet channel listed)
packet_read hides channel told listed spelled is =
    subst (λ (p : PacketData). AllByRecursion (IsSeenPiece hides channel) (pieces_of_packet channel p)) (sym is.0)
    (class_read hides told.header (data_in told.header told.body) told.what listed.what channel told.at told.header.counter spelled.1.holds.class is.1)

-- packets are listed so, each of which some bytes spell
abbrev pub AreListedBy : (hides : Bool) → (told listed : List PacketData) → Type 0
AreListedBy hides told listed = AllByRecursion IsSpelled told × AllZip (IsListedBy hides) told listed

pub pieces_seen : (hides : Bool) (told packets : List PacketData) → AreListedBy hides told packets
    → (channel : ℕ) → AllByRecursion (IsSeenPiece hides channel) (pieces_of_channel channel packets)
pieces_seen hides [] [] listed channel = tt
pieces_seen hides [] (p ∷ ps) listed channel = absurd listed.1
pieces_seen hides (t ∷ ts) [] listed channel = absurd listed.1
pieces_seen hides (t ∷ ts) (p ∷ ps) listed channel =
    all_append (IsSeenPiece hides channel) (pieces_of_packet channel p) (pieces_of_channel channel ps)
    (packet_read hides channel t p listed.0.0 listed.1.0)
    (pieces_seen hides ts ps (listed.0.1, listed.1.1) channel)

-- ---- the packets of a recording

pub begun_spelled : (at : ℕ) (packets : List PacketData) (bytes rest : List ℕ) → BeginsPackets at packets bytes rest
    → AllByRecursion IsSpelled packets
begun_spelled at [] bytes rest begins = tt
begun_spelled at (p ∷ ps) bytes rest begins =
    ((begins.1.spelling, begins.1.spelled), begun_spelled (at + p.header.packet_len) ps begins.0 rest begins.2)

-- each is listed as itself
each_itself : (packets : List PacketData) → AllZip (IsListedBy false) packets packets
each_itself [] = tt
each_itself (p ∷ ps) = ((refl, refl), each_itself ps)

pub listed_themselves : (bytes : List ℕ) (packets : List PacketData) → Reads bytes packets None → AreListedBy false packets packets
listed_themselves bytes packets reads = (begun_spelled 0 packets bytes reads.rest reads.held, each_itself packets)

pub pieces_read : (bytes : List ℕ) (packets : List PacketData) → Reads bytes packets None → (channel : ℕ)
    → AllByRecursion (IsReadPiece channel) (pieces_of_channel channel packets)
pieces_read bytes packets reads = pieces_seen false packets packets (listed_themselves bytes packets reads)
