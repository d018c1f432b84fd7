-- The code's values as data.
use Rattle.std.specs.Prelude.{List, map}
use Rattle.ch11_packet.specs.Views.{header_data}
use Rattle.ch11_packet.specs.declared.records.record.ProgramRecord.{ProgramRecord}
use Rattle.ch11_packet.specs.Views.{record_insns}
use Rattle.rec_reader.specs.declared.packet.Packet.{Packet}
use Rattle.rec_reader.specs.declared.audits.channel.ChannelProgram.{ChannelProgram}
use Rattle.rec_reader.specs.declared.audits.said.Said.{Said}
use Rattle.rec_reader.specs.declared.audits.said.Said.TheVariants.{Frames, Program, End}
use Rattle.rec_reader.specs.Packets.{PacketData, packet_of}
use Rattle.rec_reader.specs.Channels.{Saying}
use Rattle.rec_reader.specs.Channels.Saying.{OfFrames, OfProgram, OfEnd}

-- a packet, without the place of its borrowed bytes in memory
abbrev pub packet_data : Packet → PacketData
packet_data p = packet_of p.at (header_data p.header) p.body.now p.what

-- packets, one by one
abbrev pub packets_data : List Packet → List PacketData
packets_data packets = map packet_data packets

-- the program of a record
abbrev pub program_data : ProgramRecord → ChannelProgram
program_data p = record { version = p.version; first = p.first; insns = record_insns p }

-- what a packet says of a channel
abbrev pub said_data : Said → Saying
said_data (Frames frames) = OfFrames frames
said_data (Program program) = OfProgram (program_data program)
said_data (End end) = OfEnd end
