-- What a file's packets are while they go out, as the code keeps it.
use Rattle.std.specs.Prelude.{ℕ, ◌+◌, ◌%◌, ◌^◌, ◌<◌, ◌≤◌, ◌≡◌, Bool, true, false, List, Option}
use Rattle.std.specs.Prelude.{length, take, slice_index, slice_set}
use Rattle.std.specs.Io.KnownBytes.{Appends}
use Rattle.ch11_packet.specs.Header.{IsHeader}
use Rattle.ch11_packet.specs.Packet.{packet_bytes}
use Rattle.ch11_packet.specs.PacketLen.{written_len}
use Rattle.ch11_packet.specs.Profiles.Profile.{WithSum}
use Rattle.ch11_clock.specs.declared.time_point.TimePoint.{TimePoint}
use Rattle.ch11_clock.specs.TimePoints.{PointsLeft}
use Rattle.ch11_index.specs.declared.index.FilePacket.{FilePacket}
use Rattle.ch11_index.specs.declared.index.IndexPacket.{IndexPacket}
use Rattle.ch11_index.specs.FileIndex.{IndexState, empty_index, due, due_at_end}
use Rattle.ch11_merge.specs.Merging.{FilePiece, ChannelLeft, NothingLeft}
use Rattle.ch11_merge.specs.Placing.{SayLeft}
use Rattle.ch11_merge.specs.declared.channels.MergedChannel.{MergedChannel}
use Rattle.ch11_file.specs.declared.counts.FileCounts.{FileCounts}
use Rattle.ch11_file.specs.declared.kind.BlockKind.{BlockKind}
use Rattle.ch11_file.specs.declared.kind.BlockKind.TheVariants.{Setup, Time, Frames, Record, Index}
use Rattle.ch11_file.specs.declared.setup.FileSetup.{FileSetup}
use Rattle.ch11_file.specs.FileBlocks.{FileBlock, BlockContent, block_body, data_type, file_bytes}
use Rattle.ch11_file.specs.FileBlocks.{head_with, kind_of, blocks_on}
use Rattle.ch11_file.specs.FileTimes.{WalksTimes, tick_of}
use Rattle.ch11_file.specs.WholeFile.{FileFacts, MergeState, BeginsFile, block_channel, file_state}
use Rattle.ch11_file.specs.WholeFile.{merge_state}
use Rattle.ch11_file.specs.WholeFile.FileStage.{Merging}
use Rattle.ch11_file.specs.FileEnds.{counts_of}

-- the number of each channel's next packet, the index, and the counts
pub record SentState : Type 0 where
  pub numbers : List ℕ
  pub index : IndexState
  pub counts : FileCounts

abbrev pub sent_state : List ℕ → IndexState → FileCounts → SentState
sent_state numbers index counts = record { numbers = numbers; index = index; counts = counts }

-- counts with a packet more of this kind and this length
abbrev pub counts_behind : FileCounts → BlockKind → (len : ℕ) → FileCounts
counts_behind c Setup len = record c { bytes = c.bytes + len }
counts_behind c Time len = record c { times = c.times + 1; bytes = c.bytes + len }
counts_behind c Frames len = record c { packets = c.packets + 1; bytes = c.bytes + len }
counts_behind c Record len = record c { records = c.records + 1; bytes = c.bytes + len }
counts_behind c Index len = record c { index = c.index + 1; bytes = c.bytes + len }

-- a packet is longer than what counts it
pub record CountsFit (counts : FileCounts) (index : IndexState) : Type 0 where
  pub bytes_are : counts.bytes ≡ index.place
  pub few : counts.times + counts.packets + counts.records + counts.index ≤ counts.bytes
  pub some : 0 < index.most
  pub greatest : index.greatest < 2 ^ 48

-- the next number of each channel is that of its packets, modulo 256
pub record AreNextNumbers (numbers : List ℕ) (blocks : List FileBlock) : Type 0 where
  pub len : length numbers ≡ 2 ^ 16
  pub each : (channel : ℕ) → channel < 2 ^ 16
      → slice_index numbers channel ≡ blocks_on channel blocks % 256

-- the output grew by packets that begin a file, and this is known of them
pub record HasSent (facts : FileFacts) (before held : Option (List ℕ)) (sent : SentState)
    (merge : MergeState) : Type 0 where
  pub blocks : List FileBlock
  pub begins : BeginsFile facts blocks (file_state sent.index merge)
  pub grows : Appends before held (file_bytes blocks)
  pub next : AreNextNumbers sent.numbers blocks
  pub place : sent.index.place ≡ length (file_bytes blocks)
  pub counts_are : sent.counts ≡ counts_of blocks

-- ---- before the first packet

abbrev pub no_counts : FileCounts
no_counts = record { times = 0; packets = 0; records = 0; index = 0; bytes = 0 }

pub record IsFresh (most : ℕ) (sent : SentState) : Type 0 where
  pub index : sent.index ≡ empty_index most
  pub counts : sent.counts ≡ no_counts
  pub len : length sent.numbers ≡ 2 ^ 16
  pub each : (channel : ℕ) → channel < 2 ^ 16 → slice_index sent.numbers channel ≡ 0

-- ---- a packet

-- a packet of this kind, on this channel, with this body holds it
pub record IsContent (setup : FileSetup) (content : BlockContent) (kind : BlockKind) (channel : ℕ)
    (body : List ℕ) : Type 0 where
  pub kind_is : kind ≡ kind_of content
  pub channel_is : channel ≡ block_channel setup content
  pub body_is : body ≡ block_body content

-- its bytes, with the next number of its channel
abbrev pub bytes_with : SentState → BlockKind → (channel counter : ℕ) → (body : List ℕ) → List ℕ
bytes_with sent kind channel counter body =
    packet_bytes WithSum
    (head_with channel (slice_index sent.numbers channel) counter kind body) body

abbrev pub HasValidHeader : SentState → BlockKind → (channel counter : ℕ) → (body : List ℕ) → Type 0
HasValidHeader sent kind channel counter body =
    IsHeader (head_with channel (slice_index sent.numbers channel) counter kind body)

-- it went out whole, and only the number of its channel counts on
pub record WritesWhole (old : SentState) (kind : BlockKind) (channel counter : ℕ) (body : List ℕ)
    (held now : Option (List ℕ)) (len : ℕ) (new : SentState) : Type 0 where
  pub header : HasValidHeader old kind channel counter body
  pub grows : Appends held now (bytes_with old kind channel counter body)
  pub len_is : len ≡ written_len WithSum (length body)
  pub room : old.index.place + len < 2 ^ 64
  pub new_is : new ≡ sent_state
      (slice_set old.numbers channel
      ((slice_index old.numbers channel + 1) % 256)) old.index old.counts

-- a part of it went out, or nothing
pub record WritesPart (old : SentState) (kind : BlockKind) (channel counter : ℕ) (body : List ℕ)
    (held now : Option (List ℕ)) : Type 0 where
  pub header : HasValidHeader old kind channel counter body
  pub len : ℕ
  pub grows : Appends held now (take len (bytes_with old kind channel counter body))

-- what an index names of it
abbrev pub named_with : BlockKind → (channel counter len : ℕ) → FilePacket
named_with kind channel counter len =
    record { counter = counter; channel = channel; kind = data_type kind; len = len }

-- ---- packets of the index

-- the packet of the index that goes out next, before others or at the end
abbrev pub index_next : (is_last : Bool) → IndexState → Option IndexPacket
index_next true index = due_at_end index
index_next false index = due index

-- some packets of the index went out
pub record IndexGrows (old new : IndexState) : Type 0 where
  pub greatest : new.greatest ≡ old.greatest
  pub place : old.place ≤ new.place
  pub most : new.most ≡ old.most

-- ---- the merge

-- packets that begin a file went out, and these sources say what is left
pub record HasPlaced {S : Type 0} (left_of : S → Option (List FilePiece)) (facts : FileFacts)
    (before held : Option (List ℕ)) (sent : SentState) (next : Option TimePoint)
    (points : PointsLeft)
    (channels : List (MergedChannel S)) : Type 0 where
  pub left : List ChannelLeft
  pub said : SayLeft left_of channels left
  pub walks : WalksTimes facts.least facts.rules next points
  pub has_sent : HasSent facts before held sent (merge_state Merging (tick_of next) left)

-- nothing is left
pub record HasMerged (facts : FileFacts) (before held : Option (List ℕ))
    (sent : SentState) : Type 0 where
  pub tick : ℕ
  pub left : List ChannelLeft
  pub none : NothingLeft left
  pub has_sent : HasSent facts before held sent (merge_state Merging tick left)
