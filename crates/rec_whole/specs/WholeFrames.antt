-- What a whole file has of its recording's channels: frames, records, and how short packets are.
use Rattle.std.specs.Prelude.{ℕ, List, [], ◌∷◌}
use Rattle.std.specs.List.{flat_map}
use Rattle.ch11_packet.specs.FramesRead.{ReadFrameData}
use Rattle.ch11_merge.specs.Kept.{Held, held_in, held_of}
use Rattle.ch11_merge.specs.Kept.Held.{HeldFrame, HeldRecord}
use Rattle.ch11_merge.specs.Merging.FilePiece.{OfFrames, OfRecord}
use Rattle.ch11_merge.specs.Short.{IsShortPiece}
use Rattle.ch11_file.specs.FileBlocks.{BlockContent, FileBlock, merged_in}
use Rattle.ch11_file.specs.FileBlocks.BlockContent.{SetupBlock, TimeBlock, PieceBlock, NodeBlock}
use Rattle.ch11_file.specs.FileBlocks.BlockContent.{RootBlock}
use Rattle.rec_reader.specs.Packets.{PacketData}
use Rattle.rec_pieces.specs.Entries.{pieces_of_channel}

-- a frame, and nothing of a record
abbrev pub frame_held : Held → List ReadFrameData
frame_held (HeldFrame frame) = frame ∷ []
frame_held (HeldRecord counter body) = []

-- the frames of a channel in a file, in order
abbrev pub file_frames : (channel : ℕ) → List FileBlock → List ReadFrameData
file_frames channel blocks = flat_map frame_held (held_of channel (merged_in blocks))

-- what packets hold of a channel, in order: frames, and records with their bytes and, where they
-- have one, their counter
abbrev pub held_in_packets : (channel : ℕ) → List PacketData → List Held
held_in_packets channel packets = flat_map held_in (pieces_of_channel channel packets)

-- where it holds frames, they never fall, lie within 100 ms, and fit a packet
abbrev pub HasShortFrames : BlockContent → Type 0
HasShortFrames (SetupBlock text) = Unit {0}
HasShortFrames (TimeBlock is_external time) = Unit {0}
HasShortFrames (PieceBlock channel (OfFrames place frames)) = IsShortPiece frames
HasShortFrames (PieceBlock channel (OfRecord place counter body)) = Unit {0}
HasShortFrames (NodeBlock entries) = Unit {0}
HasShortFrames (RootBlock nodes last) = Unit {0}
