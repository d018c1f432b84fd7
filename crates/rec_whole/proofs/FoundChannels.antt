-- What is found in a whole file is what was recorded.
use Rattle.std.proofs.Common.{ℕ, ◌≡◌, ◌≢◌, inl, inr, List, [], ◌∷◌, ◌++◌, map, length, Option, None, Some, refl, sym, subst, ap, ◌∙◌, arith}
use Rattle.std.specs.Prelude.{Bool, false, ◌==◌, if◌then◌else◌, IfSome}
use Rattle.std.specs.List.{AllByRecursion, AllZip, flat_map}
use Rattle.std.proofs.lemmas.Bool.{cases_Bool, eq-eqb, eqb-true, eqb-false, ne_eqb, true≢false}
use Rattle.std.proofs.lemmas.List.{map-append}
use Rattle.std.proofs.lemmas.Option.{none-some}
use Rattle.std.proofs.lemmas.Grind.{flat_map-append}
use Rattle.ch11_packet.specs.declared.class.What.{What}
use Rattle.ch11_packet.specs.declared.class.What.TheVariants.{Frames as HoldsFrames, Program, End, Other}
use Rattle.ch11_packet.specs.Header.{HeaderData}
use Rattle.ch11_packet.specs.Classes.{HasClass, data_in, said_frames}
use Rattle.ch11_packet.specs.FramesRead.{ReadFrameData}
use Rattle.ch11_packet.proofs.Classing.{said_by_body}
use Rattle.ch11_clock.specs.declared.origin.Origin.{Origin}
use Rattle.ch11_file.specs.declared.setup.FileSetup.{FileSetup}
use Rattle.ch11_merge.specs.Kept.{Held, held_in, held_of}
use Rattle.ch11_file.specs.FileBlocks.{FileBlock, file_bytes, merged_in}
use Rattle.ch11_file.specs.WholeFile.{IsWholeFile}
use Rattle.rec_reader.specs.declared.audits.answer.Audit.{Audit}
use Rattle.rec_reader.specs.Packets.{PacketData, packet_of}
use Rattle.rec_reader.specs.ChannelFrames.{channel_frames}
use Rattle.rec_reader.specs.Channels.{Saying, saying_in, saying_of}
use Rattle.rec_reader.specs.Audits.{IsAudit}
use Rattle.rec_pieces.specs.declared.entry.PieceKind.{PieceKind}
use Rattle.rec_pieces.specs.declared.entry.PieceKind.TheVariants.{Frames, Record, Uncounted}
use Rattle.rec_pieces.specs.Entries.{named_by, packet_names, pieces_of_channel, pieces_of_packet}
use Rattle.rec_pieces.specs.ToldPackets.{IsSpelled}
use Rattle.rec_pieces.specs.Listings.{other_after, other_from, other_of}
use Rattle.rec_reader.specs.Reading.{Reads}
use Rattle.rec_whole.specs.WholeFrames.{held_in_packets}
use Rattle.rec_whole.specs.WholeRecordings.{facts_with}
use Rattle.rec_whole.specs.ToldOfChannels.{told_by, told_in, told_of}
use Rattle.rec_whole.specs.ToldOfChannels.Told.{ToldFrame}
use Rattle.rec_whole.specs.FilesFound.{AreApprovedAs, HasNoFault, HaveSameChannels, TellTheSame}
use Rattle.rec_whole.proofs.KeptChannels.{blocks_out, file_held}
use Rattle.rec_whole.proofs.FilesReadBack.{AreReadAs, HasFramesIfAny, all_held, one_where, read_all, seen_where}
use Rattle.rec_whole.proofs.ReadPieces.{AreListedBy, IsListedBy, begun_spelled, end_counted, listed_themselves, listed_what, seen}
use Rattle.rec_whole.proofs.ToldChannels.{same_told, same_frames, same_programs, same_ends}
use Rattle.rec_whole.proofs.FaultsFound.{no_fault_found}
use Rattle.rec_whole.proofs.PassingChannels.{SaysSome, SayTheSame, approved_found}

pub reads_file : (hides : Bool) (blocks : List FileBlock) (found : List PacketData) → AreReadAs hides 0 blocks found → Reads (file_bytes blocks) found None
reads_file hides blocks found read = record { rest = []; held = read.begin; ends = refl }

-- ---- what packets are listed as

-- where counters are hidden, what is listed holds what is told
pair_held : (hides : Bool) (channel : ℕ) (told listed : PacketData) → IsListedBy hides told listed
    → map (seen hides) (flat_map held_in (pieces_of_packet channel listed)) ≡ map (seen hides) (flat_map held_in (pieces_of_packet channel told))
pair_held hides channel told listed is =
    ap Seen is.0 ∙ elim (listed_what hides told.what listed.what is.1) as (λ _. Seen (with_what listed.what) ≡ Seen told) [
      | inl same ↦ ap (λ what. Seen (with_what what)) same
      | inr end ↦
          let counted = if end.offered == 0 then None else Some told.header.counter in
          ap (λ what. Seen (with_what what)) end.listed_is
          ∙ ap (map (seen hides)) (one_where told.at (end.channel == channel) None bytes)
          ∙ seen_where hides (end.channel == channel) None counted bytes (λ shown. absurd (true≢false (sym end.hidden ∙ shown)))
          ∙ sym (ap (map (seen hides)) (ap (λ ps. flat_map held_in (if end.channel == channel then ps else []))
          (end_counted (end.offered == 0) told.at told.header.counter bytes) ∙ one_where told.at (end.channel == channel) counted bytes))
          ∙ sym (ap (λ what. Seen (with_what what)) end.told_is)
    ]
  where
    bytes : List ℕ
    bytes = data_in told.header told.body

    with_what : What → PacketData
    with_what what = packet_of told.at told.header told.body what

    Seen : PacketData → List Held
    Seen p = map (seen hides) (flat_map held_in (pieces_of_packet channel p))

packets_held : (hides : Bool) (channel : ℕ) (packet : PacketData) (packets : List PacketData)
    → map (seen hides) (held_in_packets channel (packet ∷ packets))
    ≡ map (seen hides) (flat_map held_in (pieces_of_packet channel packet)) ++ map (seen hides) (held_in_packets channel packets)
packets_held hides channel packet packets =
    ap (map (seen hides)) (flat_map-append held_in (pieces_of_packet channel packet) (pieces_of_channel channel packets))
    ∙ map-append (seen hides) (flat_map held_in (pieces_of_packet channel packet)) (held_in_packets channel packets)

listed_held : (hides : Bool) (channel : ℕ) (told packets : List PacketData) → AllZip (IsListedBy hides) told packets
    → map (seen hides) (held_in_packets channel packets) ≡ map (seen hides) (held_in_packets channel told)
listed_held hides channel [] [] listed = refl
listed_held hides channel [] (p ∷ ps) listed = absurd listed
listed_held hides channel (t ∷ ts) [] listed = absurd listed
listed_held hides channel (t ∷ ts) (p ∷ ps) listed =
    packets_held hides channel p ps
    ∙ ap (λ l. l ++ map (seen hides) (held_in_packets channel ps)) (pair_held hides channel t p listed.0)
    ∙ ap (λ l. map (seen hides) (flat_map held_in (pieces_of_packet channel t)) ++ l) (listed_held hides channel ts ps listed.1)
    ∙ sym (packets_held hides channel t ts)

-- ---- the audit

frames_none : (frames : List ReadFrameData) → map ToldFrame frames ≡ [] → length frames ≡ 0
frames_none [] e = refl
frames_none (f ∷ fs) e = cc

class_says : (header : HeaderData) (bytes : List ℕ) (what : What) → HasClass header bytes what → HasFramesIfAny header.channel what
    → SaysSome (saying_in header.channel what bytes)
class_says header bytes (HoldsFrames count) has some = (
  some.0,
  λ none. some.1
      (sym has.3 ∙ ap length (sym (said_by_body has.1 bytes has.2)) ∙ frames_none (said_frames bytes) none),
)
class_says header bytes (Program named version first count) has some =
    ((let named = has.2.0.named in λ e. omega (arith, e, named)), λ e. cc)
class_says header bytes (End named offered kept) has some = ((let named = has.1.0.named in λ e. omega (arith, e, named)), λ e. cc)
class_says header bytes Other has some = tt

all_say : (packets : List PacketData) → AllByRecursion IsSpelled packets → AllByRecursion (λ (p : PacketData). HasFramesIfAny p.header.channel p.what) packets
    → AllByRecursion (λ (p : PacketData). SaysSome (saying_of p)) packets
all_say [] spelled some = tt
all_say (p ∷ ps) spelled some = (
  class_says p.header (data_in p.header p.body) p.what spelled.0.1.holds.class some.0,
  all_say ps spelled.1 some.1,
)

-- no packet says something of channel 0
said_of_0 : (said : Option (ℕ × Saying)) → IfSome said (λ s. s.0 ≢ 0) → told_in 0 said ≡ []
said_of_0 None some = refl
said_of_0 (Some (named, saying)) some = ap (λ b. if b then told_by saying else []) (ne_eqb named 0 some)

told_of_0 : (packets : List PacketData) → AllByRecursion (λ (p : PacketData). IfSome (saying_of p) (λ s. s.0 ≢ 0)) packets → told_of 0 packets ≡ []
told_of_0 [] all = refl
told_of_0 (p ∷ ps) all = ap (λ l. l ++ told_of 0 ps) (said_of_0 (saying_of p) all.0) ∙ told_of_0 ps all.1

some_of_0 : (said : Option (ℕ × Saying)) → SaysSome said → IfSome said (λ s. s.0 ≢ 0)
some_of_0 None some = tt
some_of_0 (Some (named, saying)) some = some.0

all_of_0 : (packets : List PacketData) → AllByRecursion (λ (p : PacketData). SaysSome (saying_of p)) packets
    → AllByRecursion (λ (p : PacketData). IfSome (saying_of p) (λ s. s.0 ≢ 0)) packets
all_of_0 [] all = tt
all_of_0 (p ∷ ps) all = (some_of_0 (saying_of p) all.0, all_of_0 ps all.1)

-- each packet of which none names nothing names a channel from 1 on
stays_other : (at here : ℕ) (named : Option (ℕ × PieceKind)) → other_after (Some at) here named ≡ Some at
stays_other at here None = refl
stays_other at here (Some n) = refl

still_other : (at : ℕ) (packets : List PacketData) → other_from (Some at) packets ≡ Some at
still_other at [] = refl
still_other at (p ∷ ps) = ap (λ earlier. other_from earlier ps) (stays_other at p.at (packet_names p)) ∙ still_other at ps

names_or_not : (at : ℕ) (named : Option (ℕ × PieceKind)) (packets : List PacketData) → other_from (other_after None at named) packets ≡ None
    → (named ≢ None) × (other_of packets ≡ None)
names_or_not at None packets none = absurd (none-some at (sym none ∙ still_other at packets))
names_or_not at (Some n) packets none = ((λ e. none-some n (sym e)), none)

named_says : (header : HeaderData) (bytes : List ℕ) (what : What) → HasClass header bytes what → named_by header.channel what ≢ None
    → IfSome (saying_in header.channel what bytes) (λ s. s.0 ≢ 0)
named_says header bytes (HoldsFrames count) has some = λ none. some (ap (λ b. if b then None else Some (header.channel, Frames)) (eq-eqb header.channel 0 none))
named_says header bytes (Program named version first count) has some = let named = has.2.0.named in λ e. omega (arith, e, named)
named_says header bytes (End named offered kept) has some = let named = has.1.0.named in λ e. omega (arith, e, named)
named_says header bytes Other has some = tt

told_named : (hides : Bool) (told listed : PacketData) → IsSpelled told → IsListedBy hides told listed → packet_names listed ≢ None
    → IfSome (saying_of told) (λ s. s.0 ≢ 0)
told_named hides told listed spelled is names = elim (listed_what hides told.what listed.what is.1) as (λ _. IfSome (saying_of told) (λ s. s.0 ≢ 0)) [
  | inl same ↦ named_says told.header bytes told.what has
      (λ none. names (ap packet_names is.0 ∙ ap (named_by told.header.channel) same ∙ none))
  | inr end ↦ subst (λ what. IfSome (saying_in told.header.channel what bytes) (λ s. s.0 ≢ 0)) (sym end.told_is)
      (named_says told.header bytes (End end.channel end.offered end.kept) (subst (HasClass told.header bytes) end.told_is has)
      (λ none. none-some (end.channel, if end.offered == 0 then Uncounted else Record) (sym none)))
]
  where
    bytes : List ℕ
    bytes = data_in told.header told.body

    has : HasClass told.header bytes told.what
    has = spelled.1.holds.class

all_named : (hides : Bool) (told packets : List PacketData) → AreListedBy hides told packets → other_of packets ≡ None
    → AllByRecursion (λ (p : PacketData). IfSome (saying_of p) (λ s. s.0 ≢ 0)) told
all_named hides [] packets listed none = tt
all_named hides (t ∷ ts) [] listed none = absurd listed.1
all_named hides (t ∷ ts) (p ∷ ps) listed none =
    let both = names_or_not p.at (packet_names p) ps none in
    (told_named hides t p listed.0.0 listed.1.0 both.0, all_named hides ts ps (listed.0.1, listed.1.1) both.1)

-- ---- what is found

module _ (hides : Bool) (told packets : List PacketData) (rules : List Origin) (most : ℕ) (setup : FileSetup) (blocks : List FileBlock)
    (listed : AreListedBy hides told packets) (whole : IsWholeFile (facts_with packets rules most setup) blocks) where
  pub reads_packets : (found : List PacketData) × AreReadAs hides 0 blocks found
  reads_packets = read_all hides setup 0 blocks (blocks_out hides told packets rules most setup blocks listed whole)

  pub packets_kept : (channel : ℕ) → held_of channel (merged_in blocks) ≡ held_in_packets channel packets
  packets_kept = file_held hides told packets rules most setup blocks listed whole

  module _ (found : List PacketData) (read : AreReadAs hides 0 blocks found) where
    spelled : AllByRecursion IsSpelled found
    spelled = begun_spelled 0 found (file_bytes blocks) [] read.begin

    -- they tell the same of each channel from 1 on
    pub found_told : TellTheSame told found
    found_told channel some =
        same_told hides channel told found some listed.0 spelled
        (read.held channel ∙ ap (map (seen hides)) (packets_kept channel) ∙ listed_held hides channel told packets listed.1)

    module _ (none : other_of packets ≡ None) where
      some_said : AllByRecursion (λ (p : PacketData). SaysSome (saying_of p)) found
      some_said = all_say found spelled read.some

      -- and of channel 0 nothing
      all_same : SayTheSame told found
      all_same channel =
          let zero_none : told_of 0 found ≡ told_of 0 told =
          told_of_0 found (all_of_0 found some_said) ∙ sym (told_of_0 told (all_named hides told packets listed none)) in
          elim (cases_Bool (channel == 0)) as (λ _. told_of channel found ≡ told_of channel told) [
            | inl is_zero ↦ subst (λ n. told_of n found ≡ told_of n told) (sym (eqb-true channel 0 is_zero)) zero_none
            | inr more ↦ found_told channel (eqb-false channel 0 more)
          ]

      pub found_approved : (audit : Audit) → IsAudit told audit → AreApprovedAs found audit
      found_approved audit is = approved_found told found audit all_same some_said is

      pub found_right : HasNoFault told → HasNoFault found
      found_right right = no_fault_found told found all_same some_said right

      pub found_frames : (channel : ℕ) → channel_frames channel found ≡ channel_frames channel told
      found_frames channel = same_frames channel told found (all_same channel)

pub found_same : (recording : List ℕ) (packets : List PacketData) (rules : List Origin) (most : ℕ) (setup : FileSetup) (blocks : List FileBlock)
    → Reads recording packets None → IsWholeFile (facts_with packets rules most setup) blocks
    → (found : List PacketData) → AreReadAs false 0 blocks found → HaveSameChannels packets found
found_same recording packets rules most setup blocks reads whole found read =
    let listed = listed_themselves recording packets reads in
    let told = found_told false packets packets rules most setup blocks listed whole found read in
    record {
      held = λ channel. all_held 0 blocks found read channel ∙ packets_kept false packets packets rules most setup blocks listed whole channel;
      frames = λ channel some. same_frames channel packets found (told channel some);
      programs = λ channel some. same_programs channel packets found (told channel some);
      ends = λ channel some. same_ends channel packets found (told channel some);
    }
