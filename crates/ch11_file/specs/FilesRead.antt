-- What the packets of a whole file say, which a reader finds there.
use Rattle.std.specs.Prelude.{ℕ, ◌+◌, ◌%◌, ◌≡◌, ◌≤◌, max, List, [], ◌∷◌, ◌++◌, length, ℤ}
use Rattle.std.specs.List.{AllByRecursion}
use Rattle.ch11_packet.specs.Header.{IsHeader, header_bytes}
use Rattle.ch11_packet.specs.FramesRead.{ReadFrameData}
use Rattle.ch11_packet.specs.Classes.{HasSum}
use Rattle.ch11_clock.specs.declared.origin.Origin.{Origin}
use Rattle.ch11_clock.specs.CivilTime.{IsTimeOf}
use Rattle.ch11_clock.specs.TimePoints.{AgreesWithClock}
use Rattle.ch11_clock.specs.TimeDistances.{IsNear}
use Rattle.ch11_clock.specs.declared.civil.CivilTime.{CivilTime}
use Rattle.ch11_merge.specs.Kept.{LieBehindTimes}
use Rattle.ch11_merge.specs.Merging.{FilePiece, Merged}
use Rattle.ch11_merge.specs.Merging.FilePiece.{OfFrames, OfRecord}
use Rattle.ch11_merge.specs.Merging.Merged.{OfTime, OfPiece}
use Rattle.ch11_file.specs.declared.limits.TheConstants.{MAX_TICKS_BACK}
use Rattle.ch11_file.specs.declared.kind.BlockKind.TheVariants.{Setup, Time}
use Rattle.ch11_file.specs.FileBlocks.{FileBlock, BlockContent, block_packet, block_header, kind_of}
use Rattle.ch11_file.specs.FileBlocks.{blocks_on}
use Rattle.ch11_file.specs.FileBlocks.BlockContent.{SetupBlock, TimeBlock, PieceBlock, NodeBlock}
use Rattle.ch11_file.specs.FileBlocks.BlockContent.{RootBlock}
use Rattle.ch11_file.specs.FileTimes.{IsFirstTime}
use Rattle.ch11_file.specs.WholeFile.{FileFacts, setup_text}

-- ---- form

-- a packet has a valid header, which says its length, and behind that its body with a right data
-- checksum
pub record IsValidPacket (b : FileBlock) : Type 0 where
  pub header : IsHeader (block_header b)
  pub len : length (block_packet b) ≡ (block_header b).packet_len
  pub body : List ℕ
  pub whole : block_packet b ≡ header_bytes (block_header b) ++ body
  pub sum : HasSum body

-- the first packet of a channel has the sequence number 0
abbrev pub BeginAtZero : List FileBlock → Type 0
BeginAtZero blocks =
    (ahead behind : List FileBlock) (b : FileBlock) → blocks ≡ ahead ++ b ∷ behind
    → blocks_on b.channel ahead ≡ 0 → b.sequence ≡ 0

-- from a packet of a channel to the next one of it sequence numbers rise by one, modulo 256
abbrev pub RiseByOne : List FileBlock → Type 0
RiseByOne blocks =
    (ahead between behind : List FileBlock) (a b : FileBlock)
    → blocks ≡ ahead ++ a ∷ (between ++ b ∷ behind) → a.channel ≡ b.channel
    → blocks_on b.channel between ≡ 0 → b.sequence ≡ (a.sequence + 1) % 256

-- ---- order

-- no header lies over a second behind one ahead of it, of which this is the greatest counter
abbrev pub NeverFarBehind : (greatest : ℕ) → List FileBlock → Type 0
NeverFarBehind greatest [] = Unit {0}
NeverFarBehind greatest (b ∷ blocks) =
    (greatest ≤ b.counter + MAX_TICKS_BACK) × NeverFarBehind (max greatest b.counter) blocks

-- the setup record stands first
pub record BeginsWithSetup (facts : FileFacts) (blocks : List FileBlock) : Type 0 where
  pub setup : FileBlock
  pub behind : List FileBlock
  pub whole : blocks ≡ setup ∷ behind
  pub time : CivilTime
  pub text : setup.content ≡ SetupBlock (setup_text facts.setup time)
  pub moment : ℤ
  pub is_first : IsFirstTime facts.least facts.rules moment setup.counter
  pub tells : IsTimeOf time moment

-- a time packet stands behind it, with its counter
pub record TimeStandsSecond (blocks : List FileBlock) : Type 0 where
  pub setup : FileBlock
  pub time : FileBlock
  pub behind : List FileBlock
  pub whole : blocks ≡ setup ∷ time ∷ behind
  pub setup_is : kind_of setup.content ≡ Setup
  pub time_is : kind_of time.content ≡ Time
  pub counter : time.counter ≡ setup.counter

-- ---- times

-- what a time packet tells isn't later than the clock's time of its counter, and less than 100 ns
-- earlier
abbrev pub TellsClock : List Origin → BlockContent → (counter : ℕ) → Type 0
TellsClock rules (SetupBlock text) counter = Unit {0}
TellsClock rules (TimeBlock is_external time) counter =
    (moment : ℤ) × IsTimeOf time moment × AgreesWithClock rules moment counter
TellsClock rules (PieceBlock channel piece) counter = Unit {0}
TellsClock rules (NodeBlock entries) counter = Unit {0}
TellsClock rules (RootBlock nodes last) counter = Unit {0}

-- what a channel has behind a time packet doesn't lie before its tick, but for the first time
-- packet, which stands ahead of all
abbrev pub LieBehindFurtherTimes : (channel : ℕ) → List Merged → Type 0
LieBehindFurtherTimes channel [] = ⊥
LieBehindFurtherTimes channel (OfTime tick ∷ out) = LieBehindTimes channel out
LieBehindFurtherTimes channel (OfPiece other piece ∷ out) = ⊥

-- ---- how far packets lie behind time packets

-- the frames of a piece lie near this tick
abbrev pub FramesLieNear : List Origin → (tick : ℕ) → FilePiece → Type 0
FramesLieNear rules tick (OfFrames place frames) =
    AllByRecursion (λ (frame : ReadFrameData). IsNear rules tick frame.counter) frames
FramesLieNear rules tick (OfRecord place counter body) = Unit {0}

abbrev pub ContentLiesNear : List Origin → (tick : ℕ) → BlockContent → Type 0
ContentLiesNear rules tick (SetupBlock text) = Unit {0}
ContentLiesNear rules tick (TimeBlock is_external time) = Unit {0}
ContentLiesNear rules tick (PieceBlock channel piece) = FramesLieNear rules tick piece
ContentLiesNear rules tick (NodeBlock entries) = Unit {0}
ContentLiesNear rules tick (RootBlock nodes last) = Unit {0}

-- the tick of the last time packet once a packet has gone out
abbrev pub last_time : (tick : ℕ) → BlockContent → (counter : ℕ) → ℕ
last_time tick (SetupBlock text) counter = tick
last_time tick (TimeBlock is_external time) counter = counter
last_time tick (PieceBlock channel piece) counter = tick
last_time tick (NodeBlock entries) counter = tick
last_time tick (RootBlock nodes last) counter = tick

-- the counter of each header, and of each frame, lies near the tick of the last time packet
abbrev pub LieNearTimes : List Origin → (tick : ℕ) → List FileBlock → Type 0
LieNearTimes rules tick [] = Unit {0}
LieNearTimes rules tick (b ∷ blocks) =
    IsNear rules (last_time tick b.content b.counter) b.counter
    × ContentLiesNear rules tick b.content
    × LieNearTimes rules (last_time tick b.content b.counter) blocks

-- the setup record has the tick of the first time packet
abbrev pub LieNearTheirTimes : List Origin → List FileBlock → Type 0
LieNearTheirTimes rules [] = ⊥
LieNearTheirTimes rules (b ∷ blocks) = LieNearTimes rules b.counter (b ∷ blocks)
