-- What is written of a file, and why it ended early.
use Rattle.std.specs.Prelude.{ℕ, ◌≡◌, ◌⊎◌, List, [], ℤ, Option, length, take}
use Rattle.std.specs.Io.KnownBytes.{Appends}
use Rattle.ch11_clock.specs.declared.civil.CivilTime.{CivilTime}
use Rattle.ch11_clock.specs.CivilTime.{IsTimeOf}
use Rattle.ch11_clock.specs.TimePoints.{IsTimePoint}
use Rattle.ch11_merge.specs.Merging.{FilePiece, ChannelLeft, StandsFirst, head_of, place_of}
use Rattle.ch11_merge.specs.Merging.{IsNextAt, PieceIsNext}
use Rattle.ch11_file.specs.declared.counts.FileCounts.{FileCounts}
use Rattle.ch11_file.specs.declared.end.Refusal.{Refusal}
use Rattle.ch11_file.specs.declared.end.Refusal.TheVariants.{Disorder, Gap, Origin, Year}
use Rattle.ch11_file.specs.declared.end.FileEnd.{FileEnd}
use Rattle.ch11_file.specs.declared.end.FileEnd.TheVariants.{Refused, Pieces, Write}
use Rattle.ch11_file.specs.FileBlocks.{FileBlock, file_bytes, blocks_of}
use Rattle.ch11_file.specs.FileTimes.{HasNoTime, IsFirstTime}
use Rattle.ch11_file.specs.WholeFile.{FileFacts, MergeState, FileState, BeginsFile, IsWholeFile}
use Rattle.ch11_file.specs.WholeFile.{TimeIsDue, IsBehind, IsFarAhead, counter_of}
use Rattle.ch11_file.specs.WholeFile.FileStage.{Merging}

-- ---- what went out

-- how many packets of each kind these are, and their bytes
abbrev pub counts_of : List FileBlock → FileCounts
counts_of blocks = record {
  times = blocks_of 17 blocks;
  packets = blocks_of 104 blocks;
  records = blocks_of 0 blocks;
  index = blocks_of 3 blocks;
  bytes = length (file_bytes blocks);
}

-- the output grew by the first bytes of packets that begin a file
pub record HoldsFront (facts : FileFacts) (before held : Option (List ℕ)) : Type 0 where
  pub blocks : List FileBlock
  pub now : FileState
  pub begins : BeginsFile facts blocks now
  pub len : ℕ
  pub grows : Appends before held (take len (file_bytes blocks))

-- the output grew by a whole file, of which these are the counts
pub record HoldsFile (facts : FileFacts) (before held : Option (List ℕ))
    (counts : FileCounts) : Type 0 where
  pub blocks : List FileBlock
  pub whole : IsWholeFile facts blocks
  pub grows : Appends before held (file_bytes blocks)
  pub counts_are : counts ≡ counts_of blocks

-- ---- refusals

-- a moment with no date in the years 1 to 3999
abbrev pub HasNoDate : ℤ → Type 0
HasNoDate moment = (time : CivilTime) → ¬ IsTimeOf time moment

-- the next piece, of the packet at this place, lies over a second behind
pub record IsDisorder (greatest : ℕ) (merge : MergeState) (place : ℕ) : Type 0 where
  pub channel : ℕ
  pub piece : FilePiece
  pub left : List ChannelLeft
  pub is_next : PieceIsNext merge.tick merge.left channel piece left
  pub behind : IsBehind greatest (counter_of greatest piece)
  pub place_is : place ≡ place_of piece

-- the next piece, of the packet at this place, lies over a week ahead
pub record IsGap (greatest : ℕ) (merge : MergeState) (place : ℕ) : Type 0 where
  pub at : ℕ
  pub of : ChannelLeft
  pub is_next : IsNextAt merge.left at of
  pub far : IsFarAhead greatest (head_of of.pieces)
  pub place_is : StandsFirst of.pieces place

-- no piece is refused so
abbrev pub HasNoGap : (greatest : ℕ) → MergeState → Type 0
HasNoGap greatest merge = merge.stage ≡ Merging → (place : ℕ) → ¬ IsGap greatest merge place

-- the next time packet is due, and has no date
pub record IsYear (facts : FileFacts) (greatest : ℕ) (merge : MergeState) : Type 0 where
  pub due : TimeIsDue greatest merge.stage merge.tick merge.left
  pub moment : ℤ
  pub is_point : IsTimePoint facts.least facts.rules moment merge.tick
  pub no_date : HasNoDate moment

-- packets that begin a file went out whole, and behind them this holds
pub record HoldsUpTo (facts : FileFacts) (before held : Option (List ℕ))
    (Stands : (greatest : ℕ) → MergeState → Type 0) : Type 0 where
  pub blocks : List FileBlock
  pub now : FileState
  pub begins : BeginsFile facts blocks now
  pub grows : Appends before held (file_bytes blocks)
  pub stands : Stands now.index.greatest now.merge

-- nothing went out, since the first time packet has no date
pub record FirstHasNoDate (facts : FileFacts) (before held : Option (List ℕ)) : Type 0 where
  pub moment : ℤ
  pub tick : ℕ
  pub is_first : IsFirstTime facts.least facts.rules moment tick
  pub no_date : HasNoDate moment
  pub grows : Appends before held []

-- a refusal is true
abbrev pub IsRefused : FileFacts → (before held : Option (List ℕ)) → Refusal → Type 0
IsRefused facts before held (Disorder at) =
    HoldsUpTo facts before held (λ greatest merge. (merge.stage ≡ Merging)
    × IsDisorder greatest merge at)
IsRefused facts before held (Gap at) =
    HoldsUpTo facts before held (λ greatest merge. (merge.stage ≡ Merging)
    × IsGap greatest merge at)
IsRefused facts before held Origin = HasNoTime facts.least facts.rules × Appends before held []
IsRefused facts before held Year =
    FirstHasNoDate facts before held ⊎ HoldsUpTo facts before held (IsYear facts)

-- why a file ended early: a refusal is true; else what went out begins a file, where a source
-- failed without a part of a packet, and where no piece is refused as a gap
abbrev pub FileFails : FileFacts → (before held : Option (List ℕ)) → FileEnd → Type 0
FileFails facts before held (Refused refusal) = IsRefused facts before held refusal
FileFails facts before held (Pieces fault) = HoldsUpTo facts before held HasNoGap
FileFails facts before held (Write fault) = HoldsFront facts before held
