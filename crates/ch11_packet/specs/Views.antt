-- The code's values as data.
use Rattle.std.specs.Prelude.{List}
use Rattle.ch11_packet.specs.declared.header.Header.{Header}
use Rattle.ch11_packet.specs.Header.{HeaderData, header_of}
use Rattle.ch11_packet.specs.declared.frames.frame.ReadFrame.{ReadFrame}
use Rattle.ch11_packet.specs.FramesRead.{ReadFrameData, read_frame_of}
use Rattle.bpf_insn.specs.declared.insn.Insn.{Insn}
use Rattle.ch11_packet.specs.declared.records.record.ProgramRecord.{ProgramRecord}
use Rattle.ch11_packet.specs.declared.records.record.Record.{Record}
use Rattle.ch11_packet.specs.declared.records.record.Record.TheVariants.{Program, End}
use Rattle.ch11_packet.specs.RecordsRead.{stored_insns, RecordData}
use Rattle.ch11_packet.specs.RecordsRead.RecordData.{OfProgram, OfEnd}

-- ---- headers

-- a header's fields
abbrev pub header_data : Header → HeaderData
header_data h =
    header_of h.channel h.packet_len h.data_len h.version h.sequence h.flags h.kind h.counter

-- ---- frames in a body

-- a frame's parts, without the place of its borrowed bytes
abbrev pub read_frame_data : ReadFrame → ReadFrameData
read_frame_data f =
    read_frame_of f.counter f.crc_error f.frame_error f.net f.speed f.content f.bytes.now

-- ---- records

-- the instructions of a program's record
abbrev pub record_insns : ProgramRecord → List Insn
record_insns p = stored_insns p.count p.insns.now

-- what a record says, without the place of its borrowed bytes
abbrev pub record_data : Record → RecordData
record_data (Program p) = OfProgram p.channel p.version p.first (record_insns p)
record_data (End channel offered kept) =
    OfEnd (record { channel = channel; offered = offered; kept = kept })
