use Rattle.std.proofs.Common.{◌≡◌, None, false, sym, subst}
use Rattle.ch11_file.specs.FileBlocks.{file_bytes}
use Rattle.rec_reader.specs.ChannelFrames.{channel_frames}
use Rattle.rec_whole.specs.FilesFound.{AreApprovedAs, HasNoFault, HaveSameChannels}
use Rattle.rec_whole.proofs.ReadPieces.{listed_themselves}
use Rattle.rec_whole.proofs.FoundChannels.{found_approved, found_frames, found_right, found_same, reads_file, reads_packets}
use Rattle.rec_whole.proofs.laws.a_whole_file_is_read_back.Goals as goal

pub returns-clause-read : goal.returns-clause-read
returns-clause-read c = λ recording packets rules most setup blocks reads whole.
    let read = reads_packets false packets packets rules most setup blocks
    (listed_themselves recording packets reads) whole in (read.0, reads_file false blocks read.0 read.1)

pub returns-clause-same : goal.returns-clause-same
returns-clause-same c = λ recording packets rules most setup blocks reads whole found fault its.
    let read = reads_packets false packets packets rules most setup blocks (listed_themselves recording packets reads) whole in
    let one = c.bytes_have_one_reading.ensures.one (file_bytes blocks) read.0 found None fault (reads_file false blocks read.0 read.1) its in (
      sym one.1,
      subst (HaveSameChannels packets) one.0 (found_same recording packets rules most setup blocks reads whole read.0 read.1),
    )

pub returns-clause-approved : goal.returns-clause-approved
returns-clause-approved c = λ recording packets rules most setup blocks reads whole none found its audit audited.
    let read = reads_packets false packets packets rules most setup blocks (listed_themselves recording packets reads) whole in
    let one = c.bytes_have_one_reading.ensures.one (file_bytes blocks) read.0 found None None (reads_file false blocks read.0 read.1) its in
    subst (λ l. AreApprovedAs l audit) one.0
    (found_approved false packets packets rules most setup blocks (listed_themselves recording packets reads) whole read.0 read.1 none audit audited)

pub returns-clause-no_fault : goal.returns-clause-no_fault
returns-clause-no_fault c = λ recording packets rules most setup blocks reads whole none found its right.
    let read = reads_packets false packets packets rules most setup blocks (listed_themselves recording packets reads) whole in
    let one = c.bytes_have_one_reading.ensures.one (file_bytes blocks) read.0 found None None (reads_file false blocks read.0 read.1) its in
    subst HasNoFault one.0
    (found_right false packets packets rules most setup blocks (listed_themselves recording packets reads) whole read.0 read.1 none right)

pub returns-clause-all : goal.returns-clause-all
returns-clause-all c = λ recording packets rules most setup blocks reads whole none found its channel.
    let read = reads_packets false packets packets rules most setup blocks (listed_themselves recording packets reads) whole in
    let one = c.bytes_have_one_reading.ensures.one (file_bytes blocks) read.0 found None None (reads_file false blocks read.0 read.1) its in
    subst (λ l. channel_frames channel l ≡ channel_frames channel packets) one.0
    (found_frames false packets packets rules most setup blocks (listed_themselves recording packets reads) whole read.0 read.1 none channel)
