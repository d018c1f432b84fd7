use Rattle.std.proofs.Common.{ℕ, false, List, None, sym, subst, ap, map, ◌∙◌}
use Rattle.std.specs.List.{flat_map}
use Rattle.ch11_file.specs.FileBlocks.{FileBlock, file_bytes}
use Rattle.rec_reader.specs.Packets.{PacketData}
use Rattle.rec_reader.specs.Reading.{Reads}
use Rattle.rec_reader.specs.ChannelFrames.{channel_frames}
use Rattle.rec_pieces.specs.Entries.{pieces_of_channel}
use Rattle.rec_whole.specs.WholeFrames.{frame_held}
use Rattle.rec_whole.proofs.FilesReadBack.{AreReadAs, all_held, read_all}
use Rattle.rec_whole.proofs.FoundChannels.{reads_file}
use Rattle.rec_whole.proofs.FramesHeld.{frames_held}
use Rattle.rec_whole.proofs.ReadPieces.{pieces_read}
use Rattle.rec_stream.specs.StreamBlocks.{StreamFacts}
use Rattle.rec_stream.specs.Streams.{StreamStage, AreStream}
use Rattle.rec_stream.proofs.StreamsReadBack.{as_read, same_bytes, same_frames, stream_out}
use Rattle.rec_stream.proofs.laws.a_stream_is_read_back.Goals as goal

read_packets : (recording : List ℕ) (facts : StreamFacts) (packets : List PacketData) (blocks : List FileBlock) (stage : StreamStage)
    → Reads recording packets None → AreStream facts packets blocks stage → (found : List PacketData) × AreReadAs false 0 (map as_read blocks) found
read_packets recording facts packets blocks stage reads go =
    read_all false facts.setup 0 (map as_read blocks) (stream_out facts packets blocks stage (pieces_read recording packets reads) go)

its_bytes : (blocks : List FileBlock) (found : List PacketData) → AreReadAs false 0 (map as_read blocks) found → Reads (file_bytes blocks) found None
its_bytes blocks found read = subst (λ l. Reads l found None) (same_bytes blocks) (reads_file false (map as_read blocks) found read)

pub returns-clause-read : goal.returns-clause-read
returns-clause-read c = λ recording facts packets blocks stage reads go.
    let read = read_packets recording facts packets blocks stage reads go in (read.0, its_bytes blocks read.0 read.1)

pub returns-clause-frames : goal.returns-clause-frames
returns-clause-frames c = λ recording facts packets blocks stage reads go found fault its.
    let read = read_packets recording facts packets blocks stage reads go in
    let one = c.bytes_have_one_reading.ensures.one (file_bytes blocks) read.0 found None fault (its_bytes blocks read.0 read.1) its in (
      sym one.1,
      λ channel some.
          ap (channel_frames channel) (sym one.0)
          ∙ sym (c.pieces_hold_the_frames_of_a_channel.ensures channel read.0 some)
          ∙ sym (frames_held (pieces_of_channel channel read.0))
          ∙ ap (flat_map frame_held) (all_held 0 (map as_read blocks) read.0 read.1 channel)
          ∙ same_frames channel blocks
          ∙ c.a_stream_keeps_each_channel.ensures.frames facts packets blocks stage go channel some,
    )
