-- The bytes of a whole file are read back, packet by packet.
use Rattle.std.proofs.Common.{ℕ, ◌+◌, ◌*◌, ◌^◌, ◌≡◌, ◌≢◌, ◌≤◌, ◌<◌, inl, List, [], ◌∷◌, ◌++◌, map, length, Option, None, Some, refl, sym, subst, ap, ◌∙◌, arith}
use Rattle.std.specs.Prelude.{Bool, true, false, ◌==◌, if◌then◌else◌}
use Rattle.std.specs.List.{AllByRecursion, flat_map}
use Rattle.std.proofs.lemmas.Bool.{ne_eqb}
use Rattle.std.proofs.lemmas.List.{map-append, take_at}
use Rattle.std.proofs.lemmas.List.Elements.{All-from_recursion}
use Rattle.std.proofs.lemmas.Option.{none-some}
use Rattle.std.proofs.lemmas.Grind.{flat_map-append}
use Rattle.ch11_packet.specs.declared.header.TheConstants.{ETHERNET_DATA, COMPUTER_GENERATED_DATA}
use Rattle.ch11_packet.specs.declared.class.What.{What}
use Rattle.ch11_packet.specs.declared.class.What.TheVariants.{Frames as HoldsFrames, Program, End, Other}
use Rattle.ch11_packet.specs.Header.{HeaderData, IsHeader}
use Rattle.ch11_packet.specs.Flags.{IsPlain}
use Rattle.ch11_packet.specs.Packet.{packet_trailer}
use Rattle.ch11_packet.specs.PacketLen.{written_len}
use Rattle.ch11_packet.specs.Profiles.Profile.{WithSum}
use Rattle.ch11_packet.specs.Classes.{HasClass, IsOther, SaysRecord, data_in, said_frames}
use Rattle.ch11_packet.specs.FramesRead.{ReadFrameData, IsReadFrame, SpellsBody}
use Rattle.ch11_packet.specs.RecordsRead.{RecordData, SpellsRecord}
use Rattle.ch11_packet.specs.RecordsRead.RecordData.{OfProgram, OfEnd}
use Rattle.ch11_packet.proofs.Classing.{said_by_body}
use Rattle.ch11_packet.proofs.Lengths.{length-packet}
use Rattle.ch11_packet.proofs.Summed.{written_sum}
use Rattle.ch11_merge.specs.Parts.{frames_pieces, frames_of_piece}
use Rattle.ch11_merge.specs.Pieces.{joined_frames}
use Rattle.ch11_merge.specs.Short.{IsShortPiece, frames_len}
use Rattle.ch11_merge.specs.Merging.{FilePiece, head_of_piece}
use Rattle.ch11_merge.specs.Merging.FilePiece.{OfFrames, OfRecord}
use Rattle.ch11_merge.specs.Kept.{Held, held_in, held_of}
use Rattle.ch11_merge.specs.Kept.Held.{HeldFrame, HeldRecord}
use Rattle.ch11_merge.proofs.Cutting.{pieces_cut}
use Rattle.ch11_file.specs.declared.setup.FileSetup.{FileSetup}
use Rattle.ch11_file.specs.CopiedFrames.{frames_body}
use Rattle.ch11_file.specs.FileBlocks.{BlockContent, FileBlock, block_body, block_header, block_packet, data_type, file_bytes, kind_of, merged_in, merged_with}
use Rattle.ch11_file.specs.FileBlocks.BlockContent.{SetupBlock, TimeBlock, PieceBlock, NodeBlock, RootBlock}
use Rattle.ch11_file.specs.WholeFile.{block_channel}
use Rattle.ch11_file.proofs.CopiesRead.{SpellsBody-copied, length-copies}
use Rattle.rec_reader.specs.Packets.{PacketData, BeginsPackets, SpellsPacket, packet_of}
use Rattle.rec_pieces.specs.Entries.{named_by, pieces_named, pieces_of_channel, pieces_of_packet}
use Rattle.rec_whole.specs.WholeFrames.{held_in_packets}
use Rattle.rec_whole.proofs.PiecesOut.{ContentHas, HasHead, IsOut}
use Rattle.rec_whole.proofs.ReadPieces.{AreReadFrames, IsOfFrames, IsReadRecord, IsSeenPiece, all_of_frames, end_counted, record_channel, record_counter, seen}

-- ---- what a packet holds of a channel

abbrev pub block_held : (channel : ℕ) → BlockContent → List Held
block_held channel (SetupBlock text) = []
block_held channel (TimeBlock is_external time) = []
block_held channel (PieceBlock own piece) = if own == channel then held_in piece else []
block_held channel (NodeBlock entries) = []
block_held channel (RootBlock nodes last) = []

held_with : (channel : ℕ) (content : BlockContent) (counter : ℕ) (blocks : List FileBlock)
    → held_of channel (merged_with content counter (merged_in blocks)) ≡ block_held channel content ++ held_of channel (merged_in blocks)
held_with channel (SetupBlock text) counter blocks = refl
held_with channel (TimeBlock e time) counter blocks = refl
held_with channel (PieceBlock own piece) counter blocks = refl
held_with channel (NodeBlock entries) counter blocks = refl
held_with channel (RootBlock nodes last) counter blocks = refl

-- frames are of a channel from 1 on, and there are some
abbrev pub HasFramesIfAny : (channel : ℕ) → What → Type 0
HasFramesIfAny channel (HoldsFrames count) = (channel ≢ 0) × (count ≢ 0)
HasFramesIfAny channel (Program named version first count) = Unit {0}
HasFramesIfAny channel (End named offered kept) = Unit {0}
HasFramesIfAny channel Other = Unit {0}

-- a packet that is read of a file's
pub record IsReadAs (hides : Bool) (at : ℕ) (b : FileBlock) (p : PacketData) : Type 0 where
  pub place : p.at ≡ at
  pub spelled : SpellsPacket p (block_packet b)
  pub held : (channel : ℕ) → map (seen hides) (flat_map held_in (pieces_of_packet channel p)) ≡ map (seen hides) (block_held channel b.content)
  pub some : HasFramesIfAny p.header.channel p.what

-- ---- its form

plain : IsPlain 3
plain = record { no_secondary_header = refl; no_secondary_times = refl; whole_checksum = refl }

other : (header : HeaderData) (bytes : List ℕ) → header.kind ≢ ETHERNET_DATA → header.kind ≢ COMPUTER_GENERATED_DATA → IsOther header bytes
other header bytes ethernet generated = inl ((λ says. ethernet says.1), (λ says. generated says.1))

abbrev read_packet : (at : ℕ) → FileBlock → What → PacketData
read_packet at b what = packet_of at (block_header b) (block_body b.content ++ packet_trailer WithSum (block_body b.content)) what

data_are : (at : ℕ) (b : FileBlock) (what : What) → data_in (block_header b) (read_packet at b what).body ≡ block_body b.content
unfolding block_header
data_are at b what = take_at (block_body b.content) (packet_trailer WithSum (block_body b.content)) (length (block_body b.content)) refl

channel_is : (b : FileBlock) → (block_header b).channel ≡ b.channel
unfolding block_header
channel_is b = refl

kind_is : (b : FileBlock) → (block_header b).kind ≡ data_type (kind_of b.content)
unfolding block_header
kind_is b = refl

len_is : (b : FileBlock) → (block_header b).packet_len ≡ written_len WithSum (length (block_body b.content))
unfolding block_header
len_is b = refl

plain_is : (b : FileBlock) → IsPlain (block_header b).flags
unfolding block_header
plain_is b = plain

counter_is : (b : FileBlock) → (block_header b).counter ≡ b.counter
unfolding block_header
counter_is b = refl

spelled : (at : ℕ) (b : FileBlock) (what : What) → IsHeader (block_header b) → HasClass (block_header b) (block_body b.content) what
    → SpellsPacket (read_packet at b what) (block_packet b)
unfolding block_packet block_header
spelled at b what header has = record {
  is_header = header;
  whole = refl;
  long = length-packet WithSum (block_header b) (block_body b.content);
  holds = record {
    class = subst (λ l. HasClass (block_header b) l what) (sym (data_are at b what)) has;
    summed = λ _ _. written_sum (block_body b.content);
  };
}

-- ---- frames

many_bytes : (frames : List ReadFrameData) → 12 * length frames ≤ frames_len frames
many_bytes [] = omega arith
many_bytes (f ∷ fs) = let rest = many_bytes fs in omega (arith, rest)

body_len : (frames : List ReadFrameData) → 12 * length frames ≤ length (frames_body frames)
unfolding frames_body
body_len frames = omega (arith, many_bytes frames, length-copies frames)

held_joined : (pieces : List FilePiece) → AllByRecursion IsOfFrames pieces
    → flat_map held_in pieces ≡ map HeldFrame (joined_frames (map frames_of_piece pieces))
held_joined [] of = refl
held_joined (OfFrames place fs ∷ ps) of =
    ap (λ l. map HeldFrame fs ++ l) (held_joined ps of.1) ∙ sym (map-append HeldFrame fs (joined_frames (map frames_of_piece ps)))
held_joined (OfRecord place counter body ∷ ps) of = absurd of.0

pub held_pieces : (place : ℕ) (frames : List ReadFrameData) → flat_map held_in (frames_pieces place frames) ≡ map HeldFrame frames
held_pieces place frames = held_joined (frames_pieces place frames) (all_of_frames place frames) ∙ ap (map HeldFrame) (pieces_cut place frames).whole

held_where : (place : ℕ) (is : Bool) (frames : List ReadFrameData)
    → flat_map held_in (if is then frames_pieces place frames else []) ≡ (if is then map HeldFrame frames else [])
held_where place true frames = held_pieces place frames
held_where place false frames = refl

frames_held : (channel own place counter : ℕ) (count : ℕ) (bytes : List ℕ) (frames : List ReadFrameData) → own ≢ 0 → said_frames bytes ≡ frames
    → flat_map held_in (pieces_named channel (named_by own (HoldsFrames count)) place counter bytes) ≡ (if own == channel then map HeldFrame frames else [])
frames_held channel own place counter count bytes frames some said =
    rw (ne_eqb own 0 some) (ap (λ fs. flat_map held_in (if own == channel then frames_pieces place fs else [])) said ∙ held_where place (own == channel) frames)

few_frames : (b : FileBlock) (channel place : ℕ) (frames : List ReadFrameData) → b.content ≡ PieceBlock channel (OfFrames place frames)
    → IsHeader (block_header b)
    → length frames < 2 ^ 16
few_frames b channel place frames is header =
    let most = header.lengths.most (kind_is b ∙ ap (λ (c : BlockContent). data_type (kind_of c)) is) in
    let long : (block_header b).packet_len ≡ written_len WithSum (length (frames_body frames)) =
    len_is b ∙ ap (λ (c : BlockContent). written_len WithSum (length (block_body c))) is in
    omega (arith, most, long, body_len frames)

some_frames : (frames : List ReadFrameData) → IsShortPiece frames → length frames ≢ 0
some_frames [] short = absurd short
some_frames (f ∷ fs) short = λ e. omega (arith, e)

read_frames : (hides : Bool) (at : ℕ) (b : FileBlock) (channel place : ℕ) (frames : List ReadFrameData) → b.content ≡ PieceBlock channel (OfFrames place frames)
    → b.channel ≡ channel → IsHeader (block_header b) → AreReadFrames channel frames
    → IsReadAs hides at b (read_packet at b (HoldsFrames (length frames)))
read_frames hides at b channel place frames is own header read =
    let what = HoldsFrames (length frames) in
    let body : block_body b.content ≡ frames_body frames = ap block_body is in
    let spells = SpellsBody-copied frames (All-from_recursion IsReadFrame frames read.each) (few_frames b channel place frames is header) in
    let found : said_frames (data_in (block_header b) (read_packet at b what).body) ≡ frames =
    ap said_frames (data_are at b what ∙ body) ∙ said_by_body frames (frames_body frames) spells in
    let named : (block_header b).channel ≡ channel = channel_is b ∙ own in
    let some : (block_header b).channel ≢ 0 = subst (λ n. n ≢ 0) (sym named) read.named in
    record {
      place = refl;
      spelled = spelled at b what header (
        (plain_is b, kind_is b ∙ ap (λ (c : BlockContent). data_type (kind_of c)) is),
        frames,
        subst (SpellsBody frames) (sym body) spells,
        refl,
      );
      held = λ other. ap (map (seen hides)) (frames_held other (block_header b).channel at (block_header b).counter (length frames)
          (data_in (block_header b) (read_packet at b what).body) frames some found
          ∙ ap (λ n. if n == other then map HeldFrame frames else []) named
          ∙ sym (ap (block_held other) is));
      some = (some, some_frames frames read.short);
    }

-- ---- records

abbrev what_of_record : RecordData → What
what_of_record (OfProgram channel version first insns) = Program channel version first (length insns)
what_of_record (OfEnd end) = End end.channel end.offered end.kept

record_class : (header : HeaderData) (bytes : List ℕ) (said : RecordData) → SaysRecord header → SpellsRecord said bytes
    → HasClass header bytes (what_of_record said)
record_class header bytes (OfProgram channel version first insns) says spells = (says, insns, spells, refl)
record_class header bytes (OfEnd end) says spells = (says, spells)

pub one_where : (place : ℕ) (is : Bool) (counter : Option ℕ) (bytes : List ℕ)
    → flat_map held_in (if is then OfRecord place counter bytes ∷ [] else []) ≡ (if is then HeldRecord counter bytes ∷ [] else [])
one_where place true counter bytes = refl
one_where place false counter bytes = refl

record_held : (channel own place counter : ℕ) (said : RecordData) (bytes : List ℕ)
    → flat_map held_in (pieces_named channel (named_by own (what_of_record said)) place counter bytes)
    ≡ (if record_channel said == channel then HeldRecord (record_counter said counter) bytes ∷ [] else [])
record_held channel own place counter (OfProgram named version first insns) bytes = one_where place (named == channel) (Some counter) bytes
record_held channel own place counter (OfEnd end) bytes =
    ap (λ ps. flat_map held_in (if end.channel == channel then ps else [])) (end_counted (end.offered == 0) place counter bytes)
    ∙ one_where place (end.channel == channel) (if end.offered == 0 then None else Some counter) bytes

same_counter : (place : ℕ) (none : Bool) (own counter : ℕ) (held : Option ℕ) (body : List ℕ) → held ≡ (if none then None else Some own)
    → HasHead (head_of_piece (OfRecord place held body)) counter → (if none then None else Some counter) ≡ held
same_counter place true own counter None body is head = refl
same_counter place true own counter (Some n) body is head = absurd (none-some n (sym is))
same_counter place false own counter None body is head = absurd (none-some own is)
same_counter place false own counter (Some n) body is head = ap Some head

counter_again : (place : ℕ) (said : RecordData) (own counter : ℕ) (held : Option ℕ) (body : List ℕ) → held ≡ record_counter said own
    → HasHead (head_of_piece (OfRecord place held body)) counter → record_counter said counter ≡ held
counter_again place (OfProgram named version first insns) own counter held body is head = same_counter place false own counter held body is head
counter_again place (OfEnd end) own counter held body is head = same_counter place (end.offered == 0) own counter held body is head

-- counters that are hidden are the same
seen_record : (hides : Bool) (counter other : Option ℕ) (body : List ℕ) → (hides ≡ false → counter ≡ other)
    → seen hides (HeldRecord counter body) ≡ seen hides (HeldRecord other body)
seen_record true counter other body same = refl
seen_record false counter other body same = ap (λ c. HeldRecord c body) (same refl)

pub seen_where : (hides is : Bool) (counter other : Option ℕ) (body : List ℕ) → (hides ≡ false → counter ≡ other)
    → map (seen hides) (if is then HeldRecord counter body ∷ [] else []) ≡ map (seen hides) (if is then HeldRecord other body ∷ [] else [])
seen_where hides true counter other body same = ap (λ h. h ∷ []) (seen_record hides counter other body same)
seen_where hides false counter other body same = refl

record_has_no_frames : (channel : ℕ) (said : RecordData) → HasFramesIfAny channel (what_of_record said)
record_has_no_frames channel (OfProgram named version first insns) = tt
record_has_no_frames channel (OfEnd end) = tt

read_record : (hides : Bool) (at : ℕ) (b : FileBlock) (channel place : ℕ) (counter : Option ℕ) (body : List ℕ)
    → b.content ≡ PieceBlock channel (OfRecord place counter body) → b.channel ≡ 0 → IsHeader (block_header b)
    → (read : IsReadRecord hides channel counter body) → HasHead (head_of_piece (OfRecord place counter body)) b.counter
    → IsReadAs hides at b (read_packet at b (what_of_record read.said))
read_record hides at b channel place counter body is own header read head =
    let what = what_of_record read.said in
    let bytes : block_body b.content ≡ body = ap block_body is in
    let says : SaysRecord (block_header b) = (plain_is b, kind_is b ∙ ap (λ (c : BlockContent). data_type (kind_of c)) is, channel_is b ∙ own) in
    record {
      place = refl;
      spelled = spelled at b what header (record_class (block_header b) (block_body b.content) read.said says
          (subst (SpellsRecord read.said) (sym bytes) read.spells));
      held = λ other. ap (map (seen hides)) (record_held other (block_header b).channel at (block_header b).counter read.said
          (data_in (block_header b) (read_packet at b what).body)
          ∙ ap (λ l. if record_channel read.said == other then HeldRecord (record_counter read.said (block_header b).counter) l ∷ [] else [])
          (data_are at b what ∙ bytes)
          ∙ ap (λ n. if record_channel read.said == other then HeldRecord (record_counter read.said n) body ∷ [] else []) (counter_is b))
          ∙ seen_where hides (record_channel read.said == other) (record_counter read.said b.counter) counter body
          (λ shown. counter_again place read.said read.own b.counter counter body (read.counted shown) head)
          ∙ ap (map (seen hides)) (ap (λ n. if n == other then HeldRecord counter body ∷ [] else []) read.named
          ∙ sym (ap (block_held other) is));
      some = record_has_no_frames (block_header b).channel read.said;
    }

-- ---- other packets

read_other : (hides : Bool) (at : ℕ) (b : FileBlock) → data_type (kind_of b.content) ≢ ETHERNET_DATA → data_type (kind_of b.content) ≢ COMPUTER_GENERATED_DATA
    → ((channel : ℕ) → [] ≡ block_held channel b.content) → IsHeader (block_header b) → IsReadAs hides at b (read_packet at b Other)
read_other hides at b ethernet generated none header = record {
  place = refl;
  spelled = spelled at b Other header (other (block_header b) (block_body b.content) (λ e. ethernet (sym (kind_is b) ∙ e))
      (λ e. generated (sym (kind_is b) ∙ e)));
  held = λ channel. ap (map (seen hides)) (none channel);
  some = tt;
}

-- ---- all packets

kind_not : (b : FileBlock) (content : BlockContent) (n : ℕ) → b.content ≡ content → data_type (kind_of content) ≢ n
    → data_type (kind_of b.content) ≢ n
kind_not b content n is off = λ e. off (sym (ap (λ (c : BlockContent). data_type (kind_of c)) is) ∙ e)

nothing_of : (b : FileBlock) (content : BlockContent) → b.content ≡ content → ((channel : ℕ) → [] ≡ block_held channel content)
    → (channel : ℕ) → [] ≡ block_held channel b.content
nothing_of b content is none channel = none channel ∙ sym (ap (block_held channel) is)

read_content : (hides : Bool) (setup : FileSetup) (at : ℕ) (b : FileBlock) (content : BlockContent) → b.content ≡ content
    → b.channel ≡ block_channel setup content → IsHeader (block_header b) → ContentHas (IsSeenPiece hides) content b.counter
    → (p : PacketData) × IsReadAs hides at b p
read_content hides setup at b (SetupBlock text) is own header has = (
  read_packet at b Other,
  read_other hides at b
      (kind_not b (SetupBlock text) ETHERNET_DATA is (λ e. omega (arith, e)))
      (kind_not b (SetupBlock text) COMPUTER_GENERATED_DATA is (λ e. omega (arith, e)))
      (nothing_of b (SetupBlock text) is (λ channel. refl)) header,
)
read_content hides setup at b (TimeBlock x time) is own header has = (
  read_packet at b Other,
  read_other hides at b
      (kind_not b (TimeBlock x time) ETHERNET_DATA is (λ e. omega (arith, e)))
      (kind_not b (TimeBlock x time) COMPUTER_GENERATED_DATA is (λ e. omega (arith, e)))
      (nothing_of b (TimeBlock x time) is (λ channel. refl)) header,
)
read_content hides setup at b (PieceBlock channel (OfFrames place frames)) is own header has =
    (read_packet at b (HoldsFrames (length frames)), read_frames hides at b channel place frames is own header has.0)
read_content hides setup at b (PieceBlock channel (OfRecord place counter body)) is own header has =
    (read_packet at b (what_of_record has.0.said), read_record hides at b channel place counter body is own header has.0 has.1)
read_content hides setup at b (NodeBlock entries) is own header has = (
  read_packet at b Other,
  read_other hides at b
      (kind_not b (NodeBlock entries) ETHERNET_DATA is (λ e. omega (arith, e)))
      (kind_not b (NodeBlock entries) COMPUTER_GENERATED_DATA is (λ e. omega (arith, e)))
      (nothing_of b (NodeBlock entries) is (λ channel. refl)) header,
)
read_content hides setup at b (RootBlock nodes last) is own header has = (
  read_packet at b Other,
  read_other hides at b
      (kind_not b (RootBlock nodes last) ETHERNET_DATA is (λ e. omega (arith, e)))
      (kind_not b (RootBlock nodes last) COMPUTER_GENERATED_DATA is (λ e. omega (arith, e)))
      (nothing_of b (RootBlock nodes last) is (λ channel. refl)) header,
)

-- packets that are read of the bytes of a file's, from a place on
pub record AreReadAs (hides : Bool) (at : ℕ) (blocks : List FileBlock) (found : List PacketData) : Type 0 where
  pub begin : BeginsPackets at found (file_bytes blocks) []
  pub held : (channel : ℕ) → map (seen hides) (held_in_packets channel found) ≡ map (seen hides) (held_of channel (merged_in blocks))
  pub some : AllByRecursion (λ (p : PacketData). HasFramesIfAny p.header.channel p.what) found

pub read_all : (hides : Bool) (setup : FileSetup) (at : ℕ) (blocks : List FileBlock) → AllByRecursion (IsOut setup (IsSeenPiece hides)) blocks
    → (found : List PacketData) × AreReadAs hides at blocks found
read_all hides setup at [] out = ([], record { begin = refl; held = λ channel. refl; some = tt })
read_all hides setup at (b ∷ blocks) out =
    let first = read_content hides setup at b b.content refl out.0.channel out.0.header out.0.content in
    let p = first.0 in
    let rest = read_all hides setup (at + p.header.packet_len) blocks out.1 in (
      p ∷ rest.0,
      record {
        begin = (
          file_bytes blocks,
          record { place = first.1.place; spelling = block_packet b; spelled = first.1.spelled; whole = refl },
          rest.1.begin,
        );
        held = λ channel. ap (map (seen hides)) (flat_map-append held_in (pieces_of_packet channel p) (pieces_of_channel channel rest.0))
            ∙ map-append (seen hides) (flat_map held_in (pieces_of_packet channel p)) (held_in_packets channel rest.0)
            ∙ ap (λ l. l ++ map (seen hides) (held_in_packets channel rest.0)) (first.1.held channel)
            ∙ ap (λ l. map (seen hides) (block_held channel b.content) ++ l) (rest.1.held channel)
            ∙ sym (map-append (seen hides) (block_held channel b.content) (held_of channel (merged_in blocks)))
            ∙ sym (ap (map (seen hides)) (held_with channel b.content b.counter blocks));
        some = (first.1.some, rest.1.some);
      },
    )

-- nothing is hidden
shown : (all : List Held) → map (seen false) all ≡ all
shown [] = refl
shown (HeldFrame frame ∷ all) = ap (λ l. HeldFrame frame ∷ l) (shown all)
shown (HeldRecord counter body ∷ all) = ap (λ l. HeldRecord counter body ∷ l) (shown all)

pub all_held : (at : ℕ) (blocks : List FileBlock) (found : List PacketData) → AreReadAs false at blocks found → (channel : ℕ)
    → held_in_packets channel found ≡ held_of channel (merged_in blocks)
all_held at blocks found read channel =
    sym (shown (held_in_packets channel found)) ∙ read.held channel ∙ shown (held_of channel (merged_in blocks))
