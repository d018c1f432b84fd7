-- What is exported of a packet, by what it holds.
use Rattle.std.proofs.Common.{◌≡◌, ℕ, List, Some, sym, ap, ◌∙◌}
use Rattle.ch11_packet.specs.declared.class.What.TheVariants.{Frames}
use Rattle.ch11_packet.specs.FramesRead.{ReadFrameData}
use Rattle.ch11_packet.specs.Classes.{data_in}
use Rattle.rec_reader.specs.Packets.{PacketData}
use Rattle.rec_reader.specs.ChannelFrames.{packet_frames, frames_held}
use Rattle.rec_reader.specs.Channels.{saying_in, saying_of}
use Rattle.rec_reader.specs.Channels.Saying.{OfFrames, OfProgram}
use Rattle.ch11_packet.specs.declared.records.record.ProgramRecord.{ProgramRecord}
use Rattle.ch11_packet.proofs.StoredInsns.{length-stored_insns}
use Rattle.rec_reader.specs.Views.{program_data}
use Rattle.rec_export.specs.Versions.{version_with, filter_version}
use Rattle.rec_export.specs.Export.{ExportState, blocks_of_frames, state_behind_frames, blocks_of_version, state_behind_version, blocks_said}
use Rattle.rec_export.specs.Export.{state_said, packet_blocks, state_behind}

-- a packet of frames says them
pub says_frames : (packet : PacketData) (count : ℕ) (frames : List ReadFrameData) → packet.what ≡ Frames count → frames ≡ packet_frames packet
    → saying_of packet ≡ Some (packet.header.channel, OfFrames frames)
says_frames packet count frames is held =
    let bytes = data_in packet.header packet.body in
    ap (λ what. saying_in packet.header.channel what bytes) is
    ∙ ap (λ (l : List ReadFrameData). Some (packet.header.channel, OfFrames l)) (sym (held ∙ ap (λ what. frames_held what bytes) is))

-- the blocks and the state for frames
pub frames_blocks_are : (state now : ExportState) (packet : PacketData) (channel : ℕ) (frames : List ReadFrameData) → state ≡ now
    → saying_of packet ≡ Some (channel, OfFrames frames) → blocks_of_frames state channel frames ≡ packet_blocks now packet
frames_blocks_are state now packet channel frames is says =
    ap (λ s. blocks_of_frames s channel frames) is ∙ ap (λ said. blocks_said now said) (sym says)

pub frames_state_is : (state now : ExportState) (packet : PacketData) (channel : ℕ) (frames : List ReadFrameData) → state ≡ now
    → saying_of packet ≡ Some (channel, OfFrames frames) → state_behind_frames state channel frames ≡ state_behind now packet
frames_state_is state now packet channel frames is says =
    ap (λ s. state_behind_frames s channel frames) is ∙ ap (λ said. state_said now said) (sym says)

-- those for a program
pub version_is : (program : ProgramRecord) → version_with program.version program.count ≡ filter_version (program_data program)
version_is program = ap (version_with program.version) (sym (length-stored_insns program.count program.insns.now))

pub version_blocks_are : (state now : ExportState) (packet : PacketData) (program : ProgramRecord) → state ≡ now
    → saying_of packet ≡ Some (program.channel, OfProgram (program_data program))
    → blocks_of_version state program.channel (version_with program.version program.count) ≡ packet_blocks now packet
version_blocks_are state now packet program is says =
    ap (λ s. blocks_of_version s program.channel (version_with program.version program.count)) is
    ∙ ap (blocks_of_version now program.channel) (version_is program)
    ∙ ap (λ said. blocks_said now said) (sym says)

pub version_state_is : (state now : ExportState) (packet : PacketData) (program : ProgramRecord) → state ≡ now
    → saying_of packet ≡ Some (program.channel, OfProgram (program_data program))
    → state_behind_version state program.channel (version_with program.version program.count) ≡ state_behind now packet
version_state_is state now packet program is says =
    ap (λ s. state_behind_version s program.channel (version_with program.version program.count)) is
    ∙ ap (state_behind_version now program.channel) (version_is program)
    ∙ ap (λ said. state_said now said) (sym says)
