-- What the code keeps of the packets that went out.
use Rattle.std.specs.Prelude.{ℕ, ◌+◌, List}
use Rattle.ch11_file.specs.declared.kind.BlockKind.{BlockKind}
use Rattle.ch11_file.specs.declared.kind.BlockKind.TheVariants.{Setup, Time, Frames, Record, Index}
use Rattle.rec_reader.specs.Channels.{capped}
use Rattle.rec_stream.specs.declared.counts.StreamCounts.{StreamCounts}
use Rattle.rec_stream.specs.LatePieces.{late_one}

-- the number of each channel's next packet, the greatest counter, and the counts
pub record StreamSent : Type 0 where
  pub numbers : List ℕ
  pub greatest : ℕ
  pub counts : StreamCounts

abbrev pub stream_sent : List ℕ → (greatest : ℕ) → StreamCounts → StreamSent
stream_sent numbers greatest counts =
    record { numbers = numbers; greatest = greatest; counts = counts }

-- counts with a packet more of this kind and this counter
abbrev pub stream_counts_behind : (greatest : ℕ) → StreamCounts → BlockKind → (counter : ℕ)
    → StreamCounts
stream_counts_behind greatest c Setup counter = c
stream_counts_behind greatest c Time counter = record c { times = capped (c.times + 1) }
stream_counts_behind greatest c Frames counter =
    record c {
      packets = capped (c.packets + 1);
      late = capped
          (c.late + late_one greatest counter);
    }
stream_counts_behind greatest c Record counter =
    record c {
      records = capped (c.records + 1);
      late = capped
          (c.late + late_one greatest counter);
    }
stream_counts_behind greatest c Index counter = c

-- with a packet more that is left out
abbrev pub other_more : StreamCounts → StreamCounts
other_more c = record c { other = capped (c.other + 1) }
