-- Which packets a whole Chapter 11 file has, in order: what may go out next, and what is left
-- behind it.
use Rattle.std.specs.Prelude.{ℕ, ◌+◌, ◌%◌, ◌<◌, ◌≤◌, ◌≡◌, ◌⊎◌, Bool, List, [], ◌∷◌, ◌++◌, ℤ, None}
use Rattle.std.specs.Prelude.{Some}
use Rattle.ch11_index.specs.declared.entry.NodeEntry.{NodeEntry}
use Rattle.ch11_index.specs.declared.entry.RootEntry.{RootEntry}
use Rattle.ch11_packet.specs.Header.{IsHeader}
use Rattle.ch11_clock.specs.declared.origin.Origin.{Origin}
use Rattle.ch11_clock.specs.declared.civil.CivilTime.{CivilTime}
use Rattle.ch11_clock.specs.CivilTime.{IsTimeOf}
use Rattle.ch11_clock.specs.TimePoints.{IsTimePoint}
use Rattle.ch11_setup.specs.declared.setup.Setup.{Setup}
use Rattle.ch11_setup.specs.Attributes.{attributes_text}
use Rattle.ch11_setup.specs.Setups.{setup_attributes}
use Rattle.ch11_index.specs.declared.index.IndexPacket.{IndexPacket}
use Rattle.ch11_index.specs.declared.index.IndexPacket.TheVariants.{Node, Root}
use Rattle.ch11_index.specs.FileIndex.{IndexState, empty_index, after_packet, after_node}
use Rattle.ch11_index.specs.FileIndex.{after_root, last_entry, due, due_at_end}
use Rattle.ch11_merge.specs.declared.source.Head.{Head}
use Rattle.ch11_merge.specs.declared.source.Head.TheVariants.{At, Uncounted, End}
use Rattle.ch11_merge.specs.Merging.{FilePiece, ChannelLeft, head_of, head_of_piece, TimeIsNext}
use Rattle.ch11_merge.specs.Merging.{PieceIsNext, NothingLeft}
use Rattle.ch11_merge.specs.Merging.FilePiece.{OfFrames, OfRecord}
use Rattle.ch11_file.specs.declared.limits.TheConstants.{MAX_TICKS_BACK, MAX_TICKS_AHEAD}
use Rattle.ch11_file.specs.declared.limits.TheConstants.{MAX_SETUP_LEN}
use Rattle.ch11_file.specs.declared.kind.BlockKind.TheVariants.{Setup as SetupKind}
use Rattle.ch11_file.specs.declared.setup.FileSetup.{FileSetup}
use Rattle.ch11_file.specs.FileBlocks.{BlockContent, FileBlock, kind_of, block_header, block_len}
use Rattle.ch11_file.specs.FileBlocks.{named_of, blocks_on}
use Rattle.ch11_file.specs.FileBlocks.BlockContent.{SetupBlock, TimeBlock, PieceBlock, NodeBlock}
use Rattle.ch11_file.specs.FileBlocks.BlockContent.{RootBlock}
use Rattle.ch11_file.specs.FileTimes.{IsFirstTime, IsNextTick}

-- ---- what a file is made of

-- what its setup record says, its clock, the least counter, how many an index packet names at most,
-- and the pieces of its channels
pub record FileFacts : Type 0 where
  pub setup : FileSetup
  pub rules : List Origin
  pub least : ℕ
  pub most : ℕ
  pub channels : List ChannelLeft

abbrev pub facts_of : FileSetup → List Origin → (least most : ℕ) → List ChannelLeft → FileFacts
facts_of setup rules least most channels = record {
  setup = setup;
  rules = rules;
  least = least;
  most = most;
  channels = channels;
}

-- the setup record of a file whose first time packet tells this
abbrev pub setup_at : FileSetup → CivilTime → Setup
setup_at file time = record {
  host = file.host;
  program = file.program;
  time = time;
  time_channel = file.time_channel;
  is_external = file.is_external;
  is_indexed = file.is_indexed;
  channels = file.channels;
  attributes = file.attributes;
}

-- its text
unfoldable pub setup_text : FileSetup → CivilTime → List ℕ
setup_text file time = attributes_text (setup_attributes (setup_at file time))

-- the channel ID of a packet: 0 but for times and frames
abbrev pub block_channel : FileSetup → BlockContent → ℕ
block_channel setup (SetupBlock text) = 0
block_channel setup (TimeBlock is_external time) = setup.time_channel
block_channel setup (PieceBlock channel (OfFrames place frames)) = channel
block_channel setup (PieceBlock channel (OfRecord place counter body)) = 0
block_channel setup (NodeBlock entries) = 0
block_channel setup (RootBlock nodes last) = 0

-- ---- counters

-- the counter of a piece's packet: its own, or where it has none the greatest of a header that went
-- out
abbrev pub counter_at : (greatest : ℕ) → Head → ℕ
counter_at greatest (At counter) = counter
counter_at greatest Uncounted = greatest
counter_at greatest End = greatest

abbrev pub counter_of : (greatest : ℕ) → FilePiece → ℕ
counter_of greatest piece = counter_at greatest (head_of_piece piece)

-- a counter lies over a second behind the greatest that went out
abbrev pub IsBehind : (greatest counter : ℕ) → Type 0
IsBehind greatest counter = counter + MAX_TICKS_BACK < greatest

-- a piece's counter lies over a week ahead of it
abbrev pub IsFarAhead : (greatest : ℕ) → Head → Type 0
IsFarAhead greatest head = greatest + MAX_TICKS_AHEAD < counter_at greatest head

-- ---- what goes out next, but for the index

-- how far a file has come: its setup record stands first, then the first time packet, then all
-- others
pub data FileStage : Type 0 where
  BeforeSetup : FileStage
  BeforeTime : FileStage
  Merging : FileStage

-- the tick of the next time packet, and what is left of the channels
pub record MergeState : Type 0 where
  pub stage : FileStage
  pub tick : ℕ
  pub left : List ChannelLeft

abbrev pub merge_state : FileStage → (tick : ℕ) → List ChannelLeft → MergeState
merge_state stage tick left = record { stage = stage; tick = tick; left = left }

-- the setup record says the date of the first time packet
pub record SetupGoesNext (facts : FileFacts) (old : MergeState) (text : List ℕ) (counter : ℕ)
    (new : MergeState) : Type 0 where
  pub stage : old.stage ≡ BeforeSetup
  pub counter_is : counter ≡ old.tick
  pub time : CivilTime
  pub moment : ℤ
  pub is_point : IsTimePoint facts.least facts.rules moment old.tick
  pub tells : IsTimeOf time moment
  pub text_is : text ≡ setup_text facts.setup time
  pub new_is : new ≡ merge_state BeforeTime old.tick old.left

-- behind the setup record the first time packet goes out, and then each that is due ahead of the
-- next piece, which isn't too far ahead
abbrev pub TimeIsDue : (greatest : ℕ) → FileStage → (tick : ℕ) → List ChannelLeft → Type 0
TimeIsDue greatest BeforeSetup tick left = ⊥
TimeIsDue greatest BeforeTime tick left = Unit {0}
TimeIsDue greatest Merging tick left =
    (next : TimeIsNext tick left) × ¬ IsFarAhead greatest (head_of next.of.pieces)

pub record TimeGoesNext (facts : FileFacts) (greatest : ℕ) (old : MergeState) (is_external : Bool)
    (time : CivilTime) (counter : ℕ) (new : MergeState) : Type 0 where
  pub due : TimeIsDue greatest old.stage old.tick old.left
  pub counter_is : counter ≡ old.tick
  pub source_is : is_external ≡ facts.setup.is_external
  pub moment : ℤ
  pub is_point : IsTimePoint facts.least facts.rules moment old.tick
  pub tells : IsTimeOf time moment
  pub next : ℕ
  pub follows : IsNextTick facts.least facts.rules old.tick next
  pub new_is : new ≡ merge_state Merging next old.left

-- the next piece of the channels, whose counter isn't too far behind or ahead
pub record PieceGoesNext (greatest : ℕ) (old : MergeState) (channel : ℕ) (piece : FilePiece)
    (counter : ℕ) (new : MergeState) : Type 0 where
  pub stage : old.stage ≡ Merging
  pub left : List ChannelLeft
  pub is_next : PieceIsNext old.tick old.left channel piece left
  pub counter_is : counter ≡ counter_of greatest piece
  pub not_behind : ¬ IsBehind greatest counter
  pub not_far : ¬ IsFarAhead greatest (head_of_piece piece)
  pub new_is : new ≡ merge_state Merging old.tick left

abbrev pub ContentGoesNext : FileFacts → (greatest : ℕ) → (old : MergeState) → BlockContent
    → (counter : ℕ) → (new : MergeState) → Type 0
ContentGoesNext facts greatest old (SetupBlock text) counter new =
    SetupGoesNext facts old text counter new
ContentGoesNext facts greatest old (TimeBlock is_external time) counter new =
    TimeGoesNext facts greatest old is_external time counter new
ContentGoesNext facts greatest old (PieceBlock channel piece) counter new =
    PieceGoesNext greatest old channel piece counter new
ContentGoesNext facts greatest old (NodeBlock entries) counter new = ⊥
ContentGoesNext facts greatest old (RootBlock nodes last) counter new = ⊥

-- ---- the packets, with those of the index

-- what the index knows, and how far the merge has come
pub record FileState : Type 0 where
  pub index : IndexState
  pub merge : MergeState

abbrev pub file_state : IndexState → MergeState → FileState
file_state index merge = record { index = index; merge = merge }

-- nothing is left of the channels
pub record IsMerged (merge : MergeState) : Type 0 where
  pub stage : merge.stage ≡ Merging
  pub none : NothingLeft merge.left

-- a packet of the index goes out when it is full, and at the end
abbrev pub IndexIsDue : IndexPacket → IndexState → MergeState → Type 0
IndexIsDue packet index merge =
    (due index ≡ Some packet) ⊎ (IsMerged merge × (due_at_end index ≡ Some packet))

-- any other packet goes out where none of the index is due
pub record NamedGoesNext (facts : FileFacts) (old : FileState) (content : BlockContent)
    (b : FileBlock)
    (new : FileState) : Type 0 where
  pub none_due : due old.index ≡ None
  pub goes : ContentGoesNext facts old.index.greatest old.merge content b.counter new.merge
  pub index_is : new.index ≡ after_packet old.index (named_of b)

pub record NodeGoesNext (old : FileState) (entries : List NodeEntry) (b : FileBlock)
    (new : FileState)
    : Type 0 where
  pub is_due : IndexIsDue Node old.index old.merge
  pub entries_are : entries ≡ old.index.packets
  pub counter_is : b.counter ≡ old.index.greatest
  pub new_is : new ≡ file_state (after_node old.index (block_len b)) old.merge

pub record RootGoesNext (old : FileState) (nodes : List RootEntry) (last : RootEntry)
    (b : FileBlock)
    (new : FileState) : Type 0 where
  pub is_due : IndexIsDue Root old.index old.merge
  pub nodes_are : nodes ≡ old.index.nodes
  pub last_is : last ≡ last_entry old.index
  pub counter_is : b.counter ≡ old.index.greatest
  pub new_is : new ≡ file_state (after_root old.index (block_len b)) old.merge

abbrev pub BlockGoesNext : FileFacts → (old : FileState) → BlockContent → FileBlock
    → (new : FileState) → Type 0
BlockGoesNext facts old (SetupBlock text) b new =
    NamedGoesNext facts old (SetupBlock text) b new
BlockGoesNext facts old (TimeBlock is_external time) b new =
    NamedGoesNext facts old (TimeBlock is_external time) b new
BlockGoesNext facts old (PieceBlock channel piece) b new =
    NamedGoesNext facts old (PieceBlock channel piece) b new
BlockGoesNext facts old (NodeBlock entries) b new = NodeGoesNext old entries b new
BlockGoesNext facts old (RootBlock nodes last) b new = RootGoesNext old nodes last b new

-- this packet goes out next, with a valid header on its channel; that of a setup record isn't too
-- long
pub record GoesNext (facts : FileFacts) (old : FileState) (b : FileBlock)
    (new : FileState) : Type 0 where
  pub channel : b.channel ≡ block_channel facts.setup b.content
  pub header : IsHeader (block_header b)
  pub setup_fits : kind_of b.content ≡ SetupKind → block_len b ≤ MAX_SETUP_LEN
  pub goes : BlockGoesNext facts old b.content b new

-- these packets go out, one after the other
abbrev pub GoOut : FileFacts → (old : FileState) → List FileBlock → (new : FileState) → Type 0
GoOut facts old [] new = new ≡ old
GoOut facts old (b ∷ blocks) new =
    (next : FileState) × GoesNext facts old b next × GoOut facts next blocks new

-- ---- sequence numbers

-- the sequence number of each of these packets is the number of packets of its channel ahead of it,
-- modulo 256
abbrev pub AreNumbered : (ahead : List FileBlock) → List FileBlock → Type 0
AreNumbered ahead [] = Unit {0}
AreNumbered ahead (b ∷ blocks) =
    (b.sequence ≡ blocks_on b.channel ahead % 256) × AreNumbered (ahead ++ b ∷ []) blocks

-- ---- a file

-- nothing went out yet, and the first time packet has this tick
abbrev pub file_start : FileFacts → (first : ℕ) → FileState
file_start facts first =
    file_state (empty_index facts.most) (merge_state BeforeSetup first facts.channels)

-- these packets begin a file, which goes on from this state
pub record BeginsFile (facts : FileFacts) (blocks : List FileBlock) (now : FileState) : Type 0 where
  pub moment : ℤ
  pub first : ℕ
  pub is_first : IsFirstTime facts.least facts.rules moment first
  pub go : GoOut facts (file_start facts first) blocks now
  pub numbered : AreNumbered [] blocks

-- nothing is left, and the index is whole
pub record IsFileOver (now : FileState) : Type 0 where
  pub merged : IsMerged now.merge
  pub indexed : due_at_end now.index ≡ None

-- these packets are a whole file
abbrev pub IsWholeFile : FileFacts → List FileBlock → Type 0
IsWholeFile facts blocks = (end : FileState) × BeginsFile facts blocks end × IsFileOver end
