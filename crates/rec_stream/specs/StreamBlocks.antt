-- The packets that go out of pieces, one by one: the setup record, time packets, and the pieces.
use Rattle.std.specs.Prelude.{ℕ, ◌+◌, ◌≡◌, ◌<◌, ◌≤◌, max, Bool, List, [], ◌∷◌, ◌++◌, ℤ, Option}
use Rattle.std.specs.Prelude.{None, Some}
use Rattle.ch11_packet.specs.Header.{IsHeader}
use Rattle.ch11_clock.specs.declared.origin.Origin.{Origin}
use Rattle.ch11_clock.specs.declared.civil.CivilTime.{CivilTime}
use Rattle.ch11_clock.specs.CivilTime.{IsTimeOf}
use Rattle.ch11_clock.specs.TimePoints.{IsTimePoint}
use Rattle.ch11_merge.specs.Merging.{FilePiece, part_before, part_from}
use Rattle.ch11_file.specs.declared.limits.TheConstants.{MAX_SETUP_LEN}
use Rattle.ch11_file.specs.declared.kind.BlockKind.TheVariants.{Setup as SetupKind}
use Rattle.ch11_file.specs.declared.setup.FileSetup.{FileSetup}
use Rattle.ch11_file.specs.FileBlocks.{BlockContent, FileBlock, kind_of, block_header, block_len}
use Rattle.ch11_file.specs.FileBlocks.BlockContent.{SetupBlock, TimeBlock, PieceBlock, NodeBlock}
use Rattle.ch11_file.specs.FileBlocks.BlockContent.{RootBlock}
use Rattle.ch11_file.specs.FileTimes.{IsFirstTime, IsNextTick}
use Rattle.ch11_file.specs.WholeFile.{block_channel, setup_text}
use Rattle.rec_stream.specs.declared.limits.TheConstants.{SETUP_TICKS}
use Rattle.rec_stream.specs.StreamPieces.{StreamPiece, pieces_on, stream_counter}

-- what its setup record says, and its clock
pub record StreamFacts : Type 0 where
  pub setup : FileSetup
  pub rules : List Origin

-- a stream that has begun: the least counter of the packet with which it began, the counter of the
-- last setup record and that of the last time packet, if they went out, the greatest counter of a
-- header that went out, and the pieces that are on their way
pub record StreamState : Type 0 where
  pub least : ℕ
  pub setup : Option ℕ
  pub time : Option ℕ
  pub greatest : ℕ
  pub left : List StreamPiece

-- one of which nothing went out yet
abbrev pub stream_begun : (least : ℕ) → List StreamPiece → StreamState
stream_begun least left =
    record { least = least; setup = None; time = None; greatest = 0; left = left }

-- where it stands once a setup record went out, or a time packet, or a piece, behind which these
-- are on their way
abbrev pub behind_setup : StreamState → (counter : ℕ) → StreamState
behind_setup state counter =
    record state { setup = Some counter; greatest = max state.greatest counter }

abbrev pub behind_time : StreamState → (counter : ℕ) → StreamState
behind_time state counter =
    record state { time = Some counter; greatest = max state.greatest counter }

abbrev pub behind_piece : StreamState → (counter : ℕ) → (left : List StreamPiece) → StreamState
behind_piece state counter left =
    record state { greatest = max state.greatest counter; left = left }

-- ---- time packets

-- of the time packets behind one, and not behind a counter, this is the last
pub record IsLastDue (rules : List Origin) (least time counter : ℕ) (moment : ℤ)
    (tick : ℕ) : Type 0 where
  pub is_point : IsTimePoint least rules moment tick
  pub behind : time < tick
  pub due : tick ≤ counter
  pub last : (other : ℤ) (its : ℕ) → IsTimePoint least rules other its → its ≤ counter → its ≤ tick

-- there is none
abbrev pub NoneIsDue : (rules : List Origin) → (least time counter : ℕ) → Type 0
NoneIsDue rules least time counter =
    (moment : ℤ) (tick : ℕ) → IsTimePoint least rules moment tick → time < tick → counter < tick

-- this time packet goes out next: the first of all; and then, ahead of a piece, the last of those
-- that are due
abbrev pub StreamTimeIsNext : List Origin → StreamState → (time : Option ℕ) → List StreamPiece
    → (moment : ℤ) (tick : ℕ) → Type 0
StreamTimeIsNext rules state None left moment tick = IsFirstTime state.least rules moment tick
StreamTimeIsNext rules state (Some time) [] moment tick = ⊥
StreamTimeIsNext rules state (Some time) (piece ∷ left) moment tick =
    IsLastDue rules state.least time (stream_counter state.greatest piece) moment tick

-- ---- setup records

-- ahead of a time packet a setup record goes out, if none did or the last one lies 10 s or more
-- back
abbrev pub SetupIsDue : (setup : Option ℕ) → (tick : ℕ) → Type 0
SetupIsDue None tick = Unit {0}
SetupIsDue (Some setup) tick = setup + SETUP_TICKS ≤ tick

-- it says the date of the first time packet, also where it goes out once more
pub record StreamSetupGoes (facts : StreamFacts) (old : StreamState) (text : List ℕ) (counter : ℕ)
    (new : StreamState)
    : Type 0 where
  pub moment : ℤ
  pub ahead_of : StreamTimeIsNext facts.rules old old.time old.left moment counter
  pub due : SetupIsDue old.setup counter
  pub time : CivilTime
  pub first : ℤ
  pub tick : ℕ
  pub is_first : IsFirstTime old.least facts.rules first tick
  pub tells : IsTimeOf time first
  pub text_is : text ≡ setup_text facts.setup time
  pub new_is : new ≡ behind_setup old counter

-- ---- what goes out next

pub record StreamTimeGoes (facts : StreamFacts) (old : StreamState) (is_external : Bool)
    (time : CivilTime) (counter : ℕ)
    (new : StreamState) : Type 0 where
  pub moment : ℤ
  pub is_next : StreamTimeIsNext facts.rules old old.time old.left moment counter
  pub no_setup : ¬ SetupIsDue old.setup counter
  pub source_is : is_external ≡ facts.setup.is_external
  pub tells : IsTimeOf time moment
  pub new_is : new ≡ behind_time old counter

-- the first piece on its way, up to its first frame that doesn't lie before the next time packet
pub record StreamPieceGoes (facts : StreamFacts) (old : StreamState) (channel : ℕ)
    (piece : FilePiece) (counter : ℕ)
    (new : StreamState) : Type 0 where
  pub first : StreamPiece
  pub others : List StreamPiece
  pub left_is : old.left ≡ first ∷ others
  pub time : ℕ
  pub time_is : old.time ≡ Some time
  pub counter_is : counter ≡ stream_counter old.greatest first
  pub none_due : NoneIsDue facts.rules old.least time counter
  pub next : ℕ
  pub follows : IsNextTick old.least facts.rules time next
  pub channel_is : channel ≡ first.channel
  pub piece_is : piece ≡ part_before next first.piece
  pub new_is : new ≡ behind_piece old counter (pieces_on first (part_from next first.piece)
      ++ others)

abbrev pub StreamContentGoes : StreamFacts → (old : StreamState) → BlockContent → (counter : ℕ)
    → (new : StreamState)
    → Type 0
StreamContentGoes facts old (SetupBlock text) counter new =
    StreamSetupGoes facts old text counter new
StreamContentGoes facts old (TimeBlock is_external time) counter new =
    StreamTimeGoes facts old is_external time counter new
StreamContentGoes facts old (PieceBlock channel piece) counter new =
    StreamPieceGoes facts old channel piece counter new
StreamContentGoes facts old (NodeBlock entries) counter new = ⊥
StreamContentGoes facts old (RootBlock nodes last) counter new = ⊥

-- this packet goes out next, with a valid header on its channel; that of a setup record isn't too
-- long
pub record StreamGoesNext (facts : StreamFacts) (old : StreamState) (b : FileBlock)
    (new : StreamState) : Type 0 where
  pub channel : b.channel ≡ block_channel facts.setup b.content
  pub header : IsHeader (block_header b)
  pub setup_fits : kind_of b.content ≡ SetupKind → block_len b ≤ MAX_SETUP_LEN
  pub goes : StreamContentGoes facts old b.content b.counter new

-- these packets go out, one after the other
abbrev pub StreamGoesOut : StreamFacts → (old : StreamState) → List FileBlock → (new : StreamState)
    → Type 0
StreamGoesOut facts old [] new = new ≡ old
StreamGoesOut facts old (b ∷ blocks) new =
    (next : StreamState) × StreamGoesNext facts old b next × StreamGoesOut facts next blocks new
