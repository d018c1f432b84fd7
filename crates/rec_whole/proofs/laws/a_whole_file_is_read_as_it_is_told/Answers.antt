use Rattle.std.proofs.Common.{◌≡◌, List, None, true, sym, subst}
use Rattle.ch11_file.specs.FileBlocks.{file_bytes}
use Rattle.rec_reader.specs.ChannelFrames.{channel_frames}
use Rattle.rec_pieces.specs.ToldPackets.{AreListedAs}
use Rattle.rec_reader.specs.Packets.{PacketData}
use Rattle.rec_whole.specs.FilesFound.{AreApprovedAs, HasNoFault, TellTheSame}
use Rattle.rec_whole.proofs.ReadPieces.{AreListedBy}
use Rattle.rec_whole.proofs.FoundChannels.{found_approved, found_frames, found_right, found_told, reads_file, reads_packets}
use Rattle.rec_whole.proofs.laws.a_whole_file_is_read_as_it_is_told.Goals as goal

hidden : (told packets : List PacketData) → AreListedAs told packets → AreListedBy true told packets
hidden told packets listed = (listed.spelled, listed.each)

pub returns-clause-read : goal.returns-clause-read
returns-clause-read c = λ told packets rules most setup blocks listed whole.
    let read = reads_packets true told packets rules most setup blocks (hidden told packets listed) whole in (read.0, reads_file true blocks read.0 read.1)

pub returns-clause-same : goal.returns-clause-same
returns-clause-same c = λ told packets rules most setup blocks listed whole found fault its.
    let read = reads_packets true told packets rules most setup blocks (hidden told packets listed) whole in
    let one = c.bytes_have_one_reading.ensures.one (file_bytes blocks) read.0 found None fault (reads_file true blocks read.0 read.1) its in (
      sym one.1,
      subst (TellTheSame told) one.0 (found_told true told packets rules most setup blocks (hidden told packets listed) whole read.0 read.1),
    )

pub returns-clause-approved : goal.returns-clause-approved
returns-clause-approved c = λ told packets rules most setup blocks listed whole none found its audit audited.
    let read = reads_packets true told packets rules most setup blocks (hidden told packets listed) whole in
    let one = c.bytes_have_one_reading.ensures.one (file_bytes blocks) read.0 found None None (reads_file true blocks read.0 read.1) its in
    subst (λ l. AreApprovedAs l audit) one.0
    (found_approved true told packets rules most setup blocks (hidden told packets listed) whole read.0 read.1 none audit audited)

pub returns-clause-no_fault : goal.returns-clause-no_fault
returns-clause-no_fault c = λ told packets rules most setup blocks listed whole none found its right.
    let read = reads_packets true told packets rules most setup blocks (hidden told packets listed) whole in
    let one = c.bytes_have_one_reading.ensures.one (file_bytes blocks) read.0 found None None (reads_file true blocks read.0 read.1) its in
    subst HasNoFault one.0
    (found_right true told packets rules most setup blocks (hidden told packets listed) whole read.0 read.1 none right)

pub returns-clause-all : goal.returns-clause-all
returns-clause-all c = λ told packets rules most setup blocks listed whole none found its channel.
    let read = reads_packets true told packets rules most setup blocks (hidden told packets listed) whole in
    let one = c.bytes_have_one_reading.ensures.one (file_bytes blocks) read.0 found None None (reads_file true blocks read.0 read.1) its in
    subst (λ l. channel_frames channel l ≡ channel_frames channel told) one.0
    (found_frames true told packets rules most setup blocks (hidden told packets listed) whole read.0 read.1 none channel)
